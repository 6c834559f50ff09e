-- The steps of the demappers: bits from a table of squares, and one short soft bit from the one before. Assumes nothing.
use Rattle.std.specs.Prelude.{◌≡◌, ℕ, ◌-◌, ◌*◌, ◌^◌, ◌<◌, cond, List, ℤ, pos, ◌-ℤ◌, int_div, nat_le, slice_index, unsigned_abs}
use Rattle.qam.specs.Levels.{steps_per_unit}
use Rattle.softbits.specs.SoftBits.{apart, divisor, lead_of}

-- the number at level number i of a table
abbrev pub at : List ℕ → ℕ → ℕ
at t i = slice_index t i

-- the table t has, by level number, the squared distances of the reading r
pub record Squares (m : ℕ) (r : ℤ) (t : List ℕ) : Type 0 where
  pub each : (i : ℕ) → i < 2 ^ m → at t i ≡ apart m r i

-- the exact soft bit k from a table of squares, zero past bit m
abbrev pub exact_from : List ℕ → ℕ → ℕ → ℤ
exact_from t m k = cond (nat_le k m) (int_div (lead_of m k (at t)) (pos divisor)) (pos 0)

-- the short soft bit k from the one before it, zero past bit m
abbrev pub short_after : ℕ → ℕ → ℤ → ℤ
short_after m k a = cond (nat_le k m) (pos (steps_per_unit * 2 ^ (m - (k - 1))) -ℤ pos (unsigned_abs a)) (pos 0)
