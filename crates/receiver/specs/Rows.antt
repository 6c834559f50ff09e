-- Which frame calls are refused, and with which number: the first row that is met. Assumes nothing.
use Rattle.std.specs.Prelude.{ℕ, Bool, not, ◌||◌, List, [], ◌∷◌, ◌++◌, Option, nat_lt, unsigned_abs}
use Rattle.qam.specs.declared.cell.QamCell.{QamCell}
use Rattle.coding.specs.Encoding.{code_of}
use Rattle.refusals.specs.Numbers.{first_met}
use Rattle.sending.specs.Links.{Link, cells, plan_rows, positions, steps}

-- 5: a soft store under P numbers
abbrev pub store_row : Link → ℕ → Bool × ℕ
store_row L store = (nat_lt store (positions L), 5)

-- open, with a soft store of so many numbers: the plan's rows and then 5
abbrev pub open_rows : Link → ℕ → List (Bool × ℕ)
open_rows L store = plan_rows L ++ store_row L store ∷ []

-- 6: a reading out of range; 7: a weight out of range
abbrev pub range_rows : QamCell → List (Bool × ℕ)
range_rows x = (nat_lt 2047 (unsigned_abs x.in_phase) || nat_lt 2047 (unsigned_abs x.quadrature), 6) ∷ (nat_lt 1023 x.weight, 7) ∷ []

-- 8: a full frame, when `come` cells have come
abbrev pub full_row : Link → ℕ → Bool × ℕ
full_row L come = (not (nat_lt come (cells L)), 8)

-- a cell, with `store` numbers lent: 5, then 6 and 7, then 8
abbrev pub cell_rows : Link → ℕ → ℕ → QamCell → List (Bool × ℕ)
cell_rows L store come x = store_row L store ∷ range_rows x ++ full_row L come ∷ []

abbrev pub lost_rows : Link → ℕ → ℕ → List (Bool × ℕ)
lost_rows L store come = store_row L store ∷ full_row L come ∷ []

-- 9: cells are missing
abbrev pub seal_rows : Link → ℕ → List (Bool × ℕ)
seal_rows L come = (nat_lt come (cells L), 9) ∷ []

-- a decode, with so many numbers of each store lent: 5, then 10 decision words, 11 totals in either store, 12 message bytes
abbrev pub decode_rows : Link → ℕ → ℕ → ℕ → ℕ → ℕ → List (Bool × ℕ)
decode_rows L store decisions totals spare message =
    store_row L store ∷ (nat_lt decisions (steps L), 10) ∷ (nat_lt totals (code_of L.coding).states || nat_lt spare (code_of L.coding).states, 11) ∷ (nat_lt message L.K, 12) ∷ []

-- A call on a frame asks the plan's rows again; of a frame that was opened none of them is met.
abbrev pub asked : Link → List (Bool × ℕ) → Option ℕ
asked L rows = first_met (plan_rows L ++ rows)
