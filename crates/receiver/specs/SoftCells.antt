-- What is made of a cell that comes. Assumes nothing.
use Rattle.std.specs.Prelude.{◌≡◌, ℕ, ◌+◌, ◌<◌, ◌≤◌, List, ℤ, Some, Ok, Err, Result}
use Rattle.qam.specs.declared.cell.QamCell.{QamCell}
use Rattle.softbits.specs.Demapping.{Demapping, answers}
use Rattle.refusals.specs.declared.Refusal.{Refusal}
use Rattle.refusals.specs.declared.Refusal.TheVariants.{FrameFull}
use Rattle.refusals.specs.Numbers.{first_met, number}
use Rattle.sending.specs.Links.{Link, cells}
use Rattle.reception.specs.Entries.{InRange}
use Rattle.receiver.specs.declared.frame.FillingFrame.{FillingFrame}
use Rattle.receiver.specs.declared.soft_cell.SoftCell.{SoftCell}
use Rattle.receiver.specs.Rows.{range_rows}
use Rattle.receiver.specs.Stores.{laid, with_cell}

-- the answers for the readings of a cell in range, and its weight
pub record Answered (D : Demapping) (m : ℕ) (x : QamCell) (s : SoftCell) : Type 0 where
  pub in_range : InRange x
  pub in_phase : s.in_phase ≡ answers D m x.in_phase
  pub quadrature : s.quadrature ≡ answers D m x.quadrature
  pub weight : s.weight ≡ x.weight

-- these, or the number of the first row that is met
abbrev pub Demapped : Demapping → ℕ → QamCell → Result SoftCell Refusal → Type 0
Demapped D m x (Ok s) = Answered D m x s
Demapped D m x (Err r) = first_met (range_rows x) ≡ Some (number r)

-- taken: the frame has one cell more, written at its positions; or the frame is full, and nothing is changed
abbrev pub CellTaken : {C E I D : Type 0} → Link → SoftCell → FillingFrame C E I D → List ℤ → FillingFrame C E I D → List ℤ → Result (Unit {0}) Refusal → Type 0
CellTaken L s f store f' store' (Ok u) =
    (f.taken < cells L) × (f' ≡ record { setup = f.setup; taken = f.taken + 1 }) × (store' ≡ with_cell L.interleaving L.m L.B f.taken (laid L.m s.in_phase s.quadrature s.weight) store)
CellTaken L s f store f' store' (Err r) = (cells L ≤ f.taken) × (r ≡ FrameFull) × (f' ≡ f) × (store' ≡ store)
