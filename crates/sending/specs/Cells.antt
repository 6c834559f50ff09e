-- The cells of a message: which bit each carries, and the level that has its bits as label. Assumes nothing.
use Rattle.std.specs.Prelude.{ℕ, zero, suc, ◌+◌, ◌*◌, List, map, slice_index}
use Rattle.std.specs.List.{range_with_len}
use Rattle.qam.specs.declared.cell.QamCell.{QamCell}
use Rattle.qam.specs.Levels.{labelled, reading}
use Rattle.coding.specs.Encoding.{sent_bits}
use Rattle.interleaving.specs.Interleaving.{Interleaving}
use Rattle.interleaving.specs.Blocks.{spot}
use Rattle.sending.specs.Links.{Link, cells}

-- the number whose n binary digits, the highest first, are f 0, f 1, ..
abbrev pub number_of : (ℕ → ℕ) → ℕ → ℕ
number_of f zero = 0
number_of f (suc n) = 2 * number_of f n + f n

-- the bit at position j of the bits bs: past them the position is filler, a 0
abbrev pub bit_at : List ℕ → ℕ → ℕ
bit_at bs j = slice_index bs j

-- the labels of the two axes of cell c: bits 0 to m − 1 of a cell are the in-phase label's, the next m the quadrature label's
abbrev pub in_phase_label : Interleaving → ℕ → ℕ → List ℕ → ℕ → ℕ
in_phase_label X m b bs c = number_of (λ i. bit_at bs (spot X m b c i)) m

abbrev pub quadrature_label : Interleaving → ℕ → ℕ → List ℕ → ℕ → ℕ
quadrature_label X m b bs c = number_of (λ i. bit_at bs (spot X m b c (m + i))) m

-- a cell at the levels, of m bits an axis, that have the labels p and q; its weight is 1
abbrev pub at_levels : ℕ → ℕ → ℕ → QamCell
at_levels m p q = record { in_phase = reading m (labelled m p); quadrature = reading m (labelled m q); weight = 1 }

-- cell c of the sent bits bs
abbrev pub cell_with : Interleaving → ℕ → ℕ → List ℕ → ℕ → QamCell
cell_with X m b bs c = at_levels m (in_phase_label X m b bs c) (quadrature_label X m b bs c)

-- n cells of the sent bits bs
abbrev pub cells_with : Interleaving → ℕ → ℕ → List ℕ → ℕ → List QamCell
cells_with X m b bs n = map (cell_with X m b bs) (range_with_len 0 n)

-- the cells of a message's frame
abbrev pub sent_cells : Link → List ℕ → List QamCell
sent_cells L ms = cells_with L.interleaving L.m L.B (sent_bits L.coding ms) (cells L)
