-- What a frame has received, cell by cell, and what stands at each position because of it. Assumes nothing.
use Rattle.std.specs.Prelude.{ℕ, ◌*◌, ◌≤◌, List, ℤ, pos, ◌*ℤ◌, Some, None, Option, slice_index_or}
use Rattle.qam.specs.declared.cell.QamCell.{QamCell}
use Rattle.qam.specs.Cells.{axis_of, bit_of_axis}
use Rattle.softbits.specs.SoftBits.{Reading, near}
use Rattle.softbits.specs.Demapping.{Demapping, gap}
use Rattle.interleaving.specs.Blocks.{bit_of, cell_of}
use Rattle.sending.specs.Links.{Link}

-- a planned frame and the demapper that reads its cells
pub record Reception : Type 0 where
  pub link : Link
  pub demapping : Demapping

-- an entry: the two readings and the weight of a cell, or a loss
pub data Entry : Type 0 where
  received : QamCell → Entry
  missed : Entry

-- the largest weight
abbrev pub weight_limit : ℕ
weight_limit = 1023

-- a cell that a frame may take
pub record InRange (x : QamCell) : Type 0 where
  pub in_phase : Reading x.in_phase
  pub quadrature : Reading x.quadrature
  pub light : x.weight ≤ weight_limit

abbrev pub EntryInRange : Entry → Type 0
EntryInRange (received x) = InRange x
EntryInRange missed = Unit {0}

-- every entry is such
abbrev pub AllInRange : List Entry → Type 0
AllInRange es = (c : ℕ) → EntryInRange (slice_index_or es c missed)

-- what carries one position: a reading, which bit of its axis, from 1, and the weight
pub record Carried : Type 0 where
  pub reading : ℤ
  pub bit : ℕ
  pub weight : ℕ

-- bit b, from 0, of a cell with m bits an axis; nothing of a lost one
abbrev pub bit_in : ℕ → Entry → ℕ → Option Carried
bit_in m (received x) b = Some (record { reading = axis_of m x b; bit = bit_of_axis m b; weight = x.weight })
bit_in m missed b = None

-- what carries position j, where the entries are the cells from 0 on; a cell that has not come is as lost
abbrev pub carried : Link → List Entry → ℕ → Option Carried
carried L es j = bit_in L.m (slice_index_or es (cell_of L.interleaving L.m L.B j) missed) (bit_of L.interleaving L.m L.B j)

-- its weighted soft bit, its weighted gap, and what the bit c there adds to a distance: 0 in a lost cell
abbrev pub weighted : Reception → Option Carried → ℤ
weighted R None = pos 0
weighted R (Some x) = pos x.weight *ℤ R.demapping.answer R.link.m x.bit x.reading

abbrev pub weighted_gap : Reception → Option Carried → ℕ
weighted_gap R None = 0
weighted_gap R (Some x) = x.weight * gap R.demapping R.link.m x.bit x.reading

abbrev pub weighted_near : Reception → ℕ → Option Carried → ℕ
weighted_near R c None = 0
weighted_near R c (Some x) = x.weight * near R.link.m x.bit c x.reading

-- the weighted soft bit of position j
abbrev pub received_at : Reception → List Entry → ℕ → ℤ
received_at R es j = weighted R (carried R.link es j)
