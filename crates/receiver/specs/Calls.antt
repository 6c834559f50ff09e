-- What each frame call promises, by cases of its answer. Assumes nothing.
use Rattle.std.specs.Prelude.{◌≡◌, ℕ, ◌+◌, List, length, ℤ, Some, None, Ok, Err, Option, Result}
use Rattle.paths.specs.Orders.{Metric}
use Rattle.refusals.specs.declared.Refusal.{Refusal}
use Rattle.refusals.specs.Numbers.{first_met, number}
use Rattle.sending.specs.Links.{Link}
use Rattle.trellis.specs.Nearest.{FoundNearest, Untouched}
use Rattle.trellis.specs.Penalties.{soft_at}
use Rattle.qam.specs.declared.cell.QamCell.{QamCell}
use Rattle.reception.specs.Entries.{Entry, Entry.missed, Entry.received, Reception}
use Rattle.receiver.specs.declared.frame.Setup.{Setup}
use Rattle.receiver.specs.declared.frame.FillingFrame.{FillingFrame}
use Rattle.receiver.specs.declared.frame.SealedFrame.{SealedFrame}
use Rattle.receiver.specs.Rows.{asked, cell_rows, decode_rows, lost_rows, open_rows, seal_rows}
use Rattle.receiver.specs.Stores.{written}

-- open: a frame with these very parts and no cell, or the number of the first row
abbrev pub Opened : {C E I D : Type 0} → Reception → ℕ → Setup C E I D → Result (FillingFrame C E I D) Refusal → Type 0
Opened R store s (Ok f) = (first_met (open_rows R.link store) ≡ None) × (f ≡ record { setup = s; taken = 0 })
Opened R store s (Err r) = first_met (open_rows R.link store) ≡ Some (number r)

-- seal: the same parts and count, sealed; or the frame handed back as it was, with the number
abbrev pub SealedOrBack : {C E I D : Type 0} → Reception → FillingFrame C E I D → Result (SealedFrame C E I D) (Refusal × FillingFrame C E I D) → Type 0
SealedOrBack R f (Ok s) = (asked R.link (seal_rows R.link f.taken) ≡ None) × (s ≡ record { setup = f.setup; taken = f.taken })
SealedOrBack R f (Err e) = (asked R.link (seal_rows R.link f.taken) ≡ Some (number e.0)) × (e.1 ≡ f)

-- cell and lost: granted, one entry more, written at its positions; refused, the number of the first row, and nothing is changed
abbrev pub EntryTaken : {C E I D : Type 0} → Reception → Option ℕ → Entry → FillingFrame C E I D → List ℤ → FillingFrame C E I D → List ℤ → Result (Unit {0}) Refusal → Type 0
EntryTaken R o e f store f' store' (Ok u) = (o ≡ None) × (f' ≡ record { setup = f.setup; taken = f.taken + 1 }) × (store' ≡ written R f.taken e store)
EntryTaken R o e f store f' store' (Err r) = (o ≡ Some (number r)) × (f' ≡ f) × (store' ≡ store)

-- cell: the rows of this cell, on the store that is lent
abbrev pub CellEntered : {C E I D : Type 0} → Reception → QamCell → FillingFrame C E I D → List ℤ → FillingFrame C E I D → List ℤ → Result (Unit {0}) Refusal → Type 0
CellEntered R x f store f' store' r = EntryTaken R (asked R.link (cell_rows R.link (length store) f.taken x)) (received x) f store f' store' r

-- lost: the rows of a loss, on the store that is lent
abbrev pub LossEntered : {C E I D : Type 0} → Reception → FillingFrame C E I D → List ℤ → FillingFrame C E I D → List ℤ → Result (Unit {0}) Refusal → Type 0
LossEntered R f store f' store' r = EntryTaken R (asked R.link (lost_rows R.link (length store) f.taken)) missed f store f' store' r

-- decode: granted, the nearest message over the store's numbers in the first K bytes, and the later bytes as they were; refused, the
-- number of the first row, and every lent store and buffer as it was
abbrev pub Decoded : {X : Type 0} → Link → Option ℕ → Metric X → (ℕ → ℤ) → List ℕ → List ℕ → List X → List X → List X → List X → List ℕ → List ℕ → Result X Refusal → Type 0
Decoded L o M v decisions decisions' totals totals' spare spare' message message' (Ok t) = (o ≡ None) × FoundNearest L.coding L.K M v message message' t
Decoded L o M v decisions decisions' totals totals' spare spare' message message' (Err r) = (o ≡ Some (number r)) × Untouched decisions decisions' totals totals' spare spare' message message'

-- the same with the rows of the stores that are lent
abbrev pub MessageDecoded : {X : Type 0} → Reception → Metric X → List ℤ → List ℕ → List ℕ → List X → List X → List X → List X → List ℕ → List ℕ → Result X Refusal → Type 0
MessageDecoded R M soft decisions decisions' totals totals' spare spare' message message' r =
    Decoded R.link (asked R.link (decode_rows R.link (length soft) (length decisions) (length totals) (length spare) (length message))) M (soft_at soft) decisions decisions' totals totals' spare spare' message message' r
