-- What a frame is planned with, as mathematics, and the numbers that follow from it. Assumes nothing.
use Rattle.std.specs.Prelude.{◌≡◌, ℕ, ◌+◌, ◌-◌, ◌*◌, ◌/◌, ◌≤◌, Bool, true, not, List, [], ◌∷◌, Option}
use Rattle.paths.specs.Codes.{Trellis}
use Rattle.paths.specs.Endings.{Tail, TailLaws}
use Rattle.coding.specs.Encoding.{Coding, code_of, sent_for, steps_for}
use Rattle.interleaving.specs.Interleaving.{Interleaving, Sized, size}
use Rattle.interleaving.specs.Blocks.{cell_bits}
use Rattle.refusals.specs.Numbers.{first_met, outside}
use Rattle.sending.specs.declared.plan.Plan.{Plan}
use Rattle.sending.specs.declared.link.Link.{Link as Linking}

-- m bits per axis, K message bits, B cells a block; the code, its end and the rate; the interleaver
pub record Link : Type 0 where
  pub m : ℕ
  pub K : ℕ
  pub B : ℕ
  pub coding : Coding
  pub interleaving : Interleaving

abbrev pub link_of : {E : Type 0} → Plan E → Trellis → Tail → Interleaving → Link
link_of plan t e x =
    record { m = plan.bits_per_axis; K = plan.message_bits; B = plan.block_cells; coding = record { trellis = t; tail = e; rate = plan.rate }; interleaving = x }

-- what a link means, by the meanings of its code, its end and its interleaver
abbrev pub linked : {C E I : Type 0} → (C → Trellis) → (E → C → Tail) → (I → Interleaving) → Linking C E I → Link
linked t e x l = link_of l.plan (t l.code) (e l.plan.end l.code) (x l.interleaver)

-- the steps of the code, and the bits that they send
abbrev pub steps : Link → ℕ
steps L = steps_for L.coding L.K

abbrev pub sent : Link → ℕ
sent L = sent_for L.coding L.K

-- N: the positions of a block
abbrev pub block : Link → ℕ
block L = size L.m L.B

-- the blocks that the sent bits fill or begin
abbrev pub blocks : Link → ℕ
blocks L = (sent L + (block L - 1)) / block L

-- P: the sent bits raised to whole blocks; the positions from `sent` on are filler
abbrev pub positions : Link → ℕ
positions L = blocks L * block L

-- C: the cells that carry them
abbrev pub cells : Link → ℕ
cells L = positions L / cell_bits L.m

-- the rows of a plan: 1 bits per axis, 2 message length, 3 block length, 4 a block that the interleaver does not take
abbrev pub plan_rows : Link → List (Bool × ℕ)
plan_rows L = (outside 1 4 L.m, 1) ∷ (outside 1 4090 L.K, 2) ∷ (outside 1 64 L.B, 3) ∷ (not (L.interleaving.takes L.m L.B), 4) ∷ []

abbrev pub plan_refusal : Link → Option ℕ
plan_refusal L = first_met (plan_rows L)

-- a plan that no row refuses, with a lawful end
pub record Planned (L : Link) : Type 0 where
  pub sizes : Sized L.m L.B
  pub some_message : 1 ≤ L.K
  pub short_message : L.K ≤ 4090
  pub taken : L.interleaving.takes L.m L.B ≡ true
  pub ending : TailLaws (code_of L.coding) L.coding.tail
