-- What a cell carries: its bits are counted from 0, those of the in-phase axis first. Assumes nothing.
use Rattle.std.specs.Prelude.{◌≡◌, ℕ, suc, ◌-◌, ◌^◌, ◌<◌, cond, ℤ, nat_lt}
use Rattle.qam.specs.declared.cell.QamCell.{QamCell}
use Rattle.qam.specs.Levels.{label_bit, reading}

-- r is a level of an axis with m bits, and bit k of its label is c
pub record Carries (m : ℕ) (r : ℤ) (k c : ℕ) : Type 0 where
  pub number : ℕ
  pub inside : number < 2 ^ m
  pub at_level : r ≡ reading m number
  pub bit_is : label_bit m k number ≡ c

-- the reading that has bit b of a cell, and which bit of its axis that is, from 1
abbrev pub axis_of : ℕ → QamCell → ℕ → ℤ
axis_of m x b = cond (nat_lt b m) x.in_phase x.quadrature

abbrev pub bit_of_axis : ℕ → ℕ → ℕ
bit_of_axis m b = cond (nat_lt b m) (suc b) (suc (b - m))

-- bit b of the cell x is c
abbrev pub CellCarries : ℕ → QamCell → ℕ → ℕ → Type 0
CellCarries m x b c = Carries m (axis_of m x b) (bit_of_axis m b) c
