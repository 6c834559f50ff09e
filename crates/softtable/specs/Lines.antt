-- What a line of the table says: places are counted from 0, bits from 1. Assumes nothing.
use Rattle.std.specs.Prelude.{◌≡◌, ℕ, ◌+◌, Bool, ◌&&◌, ℤ, pos, nat_le, nat_lt, slice_index_or, unsigned_abs}
use Rattle.softbits.specs.Demapping.{Demapping, answers}
use Rattle.demapping.specs.Demappings.{exact_demapping, short_demapping, hard_demapping}
use Rattle.softtable.specs.declared.row.Row.{Row}

-- the soft bit of a demapping at a place
abbrev pub at_place : Demapping → ℕ → ℕ → ℤ → ℤ
at_place D m place r = slice_index_or (answers D m r) place (pos 0)

-- the line of a place of an axis and a reading
pub record Line (m place : ℕ) (r : ℤ) (w : Row) : Type 0 where
  pub reading : w.reading ≡ r
  pub bit : w.bit ≡ place + 1
  pub exact : w.exact ≡ at_place exact_demapping m place r
  pub short : w.short ≡ at_place short_demapping m place r
  pub hard : w.hard ≡ at_place hard_demapping m place r

-- an axis has the place, and r is a reading
abbrev pub has_line : ℕ → ℕ → ℤ → Bool
has_line m place r = (nat_le 1 m && nat_le m 4) && (nat_lt place m && nat_le (unsigned_abs r) 2047)
