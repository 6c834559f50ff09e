-- What a cell writes into the soft store. Assumes nothing.
use Rattle.std.specs.Prelude.{ℕ, suc, ◌-◌, ◌<◌, ◌≤◌, cond, List, [], ◌∷◌, ℤ, pos, ◌*ℤ◌, ◌==◌, nat_lt, slice_index_or, unsigned_abs}
use Rattle.interleaving.specs.Interleaving.{Interleaving}
use Rattle.interleaving.specs.Blocks.{bit_of, cell_of}
use Rattle.softbits.specs.Demapping.{soft_limit}
use Rattle.reception.specs.Entries.{Entry, Reception, bit_in, weighted}

-- f of each number and its position, from j on
abbrev pub by_place : (ℕ → ℤ → ℤ) → ℕ → List ℤ → List ℤ
by_place f j [] = []
by_place f j (x ∷ xs) = f j x ∷ by_place f (suc j) xs

-- at every position that cell c carries the value of its bit, and at every other the number that stood there
abbrev pub with_cell : Interleaving → ℕ → ℕ → ℕ → (ℕ → ℤ) → List ℤ → List ℤ
with_cell X m b c value store = by_place (λ j x. cond (cell_of X m b j == c) (value (bit_of X m b j)) x) 0 store

-- the store with the entry e as cell c: its weighted soft bits, or zeros for a loss
abbrev pub written : Reception → ℕ → Entry → List ℤ → List ℤ
written R c e store = with_cell R.link.interleaving R.link.m R.link.B c (λ b. weighted R (bit_in R.link.m e b)) store

-- bit b of a cell whose axes' answers are p and q, times its weight
abbrev pub laid : ℕ → List ℤ → List ℤ → ℕ → ℕ → ℤ
laid m p q weight b = pos weight *ℤ cond (nat_lt b m) (slice_index_or p b (pos 0)) (slice_index_or q (b - m) (pos 0))

-- the four answers of an axis are within a demapper's range
abbrev pub Small : List ℤ → Type 0
Small p = (k : ℕ) → k < 4 → unsigned_abs (slice_index_or p k (pos 0)) ≤ soft_limit
