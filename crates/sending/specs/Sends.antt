-- What a call of `send` answers, and what it leaves in the cell buffer. Assumes nothing.
use Rattle.std.specs.Prelude.{◌≡◌, ℕ, ◌<◌, Bool, not, List, [], ◌∷◌, ◌++◌, length, take, drop, Some, None, Ok, Err, Option, Result, nat_lt, slice_index_or}
use Rattle.std.specs.List.{list_all}
use Rattle.refusals.specs.declared.Refusal.{Refusal}
use Rattle.refusals.specs.Numbers.{first_met, number}
use Rattle.qam.specs.declared.cell.QamCell.{QamCell}
use Rattle.qam.specs.Cells.{CellCarries}
use Rattle.coding.specs.Encoding.{sent_bits}
use Rattle.interleaving.specs.Blocks.{bit_of, cell_of}
use Rattle.sending.specs.Links.{Link, cells, plan_rows, positions}
use Rattle.sending.specs.Cells.{bit_at, sent_cells}

-- each byte is 0 or 1
abbrev pub all_bits : List ℕ → Bool
all_bits bs = list_all (λ b. nat_lt b 2) bs

-- after the plan's rows: 12 a message buffer under K bytes, 13 one of its first K bytes not 0 or 1, 14 a cell buffer under C
abbrev pub send_rows : Link → List ℕ → ℕ → List (Bool × ℕ)
send_rows L buffer room = plan_rows L ++ (nat_lt (length buffer) L.K, 12) ∷ (not (all_bits (take L.K buffer)), 13) ∷ (nat_lt room (cells L), 14) ∷ []

abbrev pub send_refusal : Link → List ℕ → ℕ → Option ℕ
send_refusal L buffer room = first_met (send_rows L buffer room)

-- The cell buffer that a granted send leaves: the frame's cells, and behind them what stood there.
abbrev pub filled : Link → List ℕ → List QamCell → List QamCell
filled L ms old = sent_cells L ms ++ drop (cells L) old

-- Every position below P stands in the label of its cell: the sent bit there, or 0 for filler.
abbrev pub Carried : Link → List ℕ → List QamCell → Type 0
Carried L ms xs = (j : ℕ) (d : QamCell) → j < positions L →
    CellCarries L.m (slice_index_or xs (cell_of L.interleaving L.m L.B j) d) (bit_of L.interleaving L.m L.B j) (bit_at (sent_bits L.coding ms) j)

-- What send promises, by cases of its answer: granted, the frame's cells; refused, the number of the first row met, and nothing is changed.
abbrev pub Sent : Link → List ℕ → List QamCell → List QamCell → Result (Unit {0}) Refusal → Type 0
Sent L buffer old new (Ok u) = (send_refusal L buffer (length old) ≡ None) × (new ≡ filled L (take L.K buffer) old)
Sent L buffer old new (Err f) = (send_refusal L buffer (length old) ≡ Some (number f)) × (new ≡ old)

-- and above that definition: what is sent carries the message's bits
abbrev pub CarriedIfSent : Link → List ℕ → List QamCell → Result (Unit {0}) Refusal → Type 0
CarriedIfSent L buffer new (Ok u) = Carried L (take L.K buffer) new
CarriedIfSent L buffer new (Err f) = Unit {0}
