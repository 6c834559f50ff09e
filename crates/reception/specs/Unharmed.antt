-- Cells that were sent and came unharmed, each with a weight of its own. Assumes nothing.
use Rattle.std.specs.Prelude.{◌≡◌, ℕ, ◌<◌, ◌≤◌, true, List, [], ◌∷◌, length, slice_index}
use Rattle.qam.specs.declared.cell.QamCell.{QamCell}
use Rattle.paths.specs.Orders.{Metric, adds, heaviest, most_penalties}
use Rattle.reception.specs.Entries.{Entry, Entry.received, weight_limit}

-- the cell x with the weight w
abbrev pub weighing : QamCell → ℕ → QamCell
weighing x w = record { in_phase = x.in_phase; quadrature = x.quadrature; weight = w }

-- each cell came with its weight
abbrev pub unharmed : List QamCell → List ℕ → List Entry
unharmed [] ws = []
unharmed (x ∷ xs) [] = []
unharmed (x ∷ xs) (w ∷ ws) = received (weighing x w) ∷ unharmed xs ws

-- as many weights as cells, each above zero and in range
pub record Weights (n : ℕ) (ws : List ℕ) : Type 0 where
  pub as_many : length ws ≡ n
  pub some : (c : ℕ) → c < n → 1 ≤ slice_index ws c
  pub light : (c : ℕ) → c < n → slice_index ws c ≤ weight_limit

-- penalties that are all 0
abbrev pub Free : List ℕ → Type 0
Free ps = (k : ℕ) → k < length ps → slice_index ps k ≡ 0

-- penalties that an order bears
pub record Borne (ps : List ℕ) : Type 0 where
  pub few : length ps ≤ most_penalties
  pub small : (k : ℕ) → k < length ps → slice_index ps k ≤ heaviest

-- An order that prefers what pays nothing: of as many penalties, all 0 is lower than any that are not all 0.
abbrev pub PrefersFree : {X : Type 0} → Metric X → Type 0
PrefersFree M = (ps qs : List ℕ) → length ps ≡ length qs → Borne qs → Free ps → (Free qs → ⊥) → M.lt (adds M M.start ps) (adds M M.start qs) ≡ true
