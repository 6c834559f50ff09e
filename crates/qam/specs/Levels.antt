-- The levels of one axis and their Gray labels: label bits are counted from 1, the highest first. Assumes nothing.
use Rattle.std.specs.Prelude.{◌≡◌, ℕ, zero, suc, ◌-◌, ◌*◌, ◌/◌, ◌%◌, ◌^◌, ◌<◌, ◌≤◌, Bool, cond, ◌&&◌, ℤ, pos, ◌-ℤ◌, ◌*ℤ◌, Some, None, Option, bit_xor, nat_eq, nat_le, nat_lt}

-- the bits that an axis may have
pub record Axis (m : ℕ) : Type 0 where
  pub some : 1 ≤ m
  pub few : m ≤ 4

-- bit k of m, counted from 1
pub record BitOf (m k : ℕ) : Type 0 where
  pub first : 1 ≤ k
  pub last : k ≤ m

-- level number i of an axis with m bits stands for the level 2i − (2^m − 1)
abbrev pub level : ℕ → ℕ → ℤ
level m i = pos (2 * i) -ℤ pos (2 ^ m - 1)

-- the label of level number i
abbrev pub label : ℕ → ℕ
label i = bit_xor i (i / 2)

-- bit k of the number l in m bits
abbrev pub bit_in : ℕ → ℕ → ℕ → ℕ
bit_in m k l = l / 2 ^ (m - k) % 2

-- bit k of the label of level number i
abbrev pub label_bit : ℕ → ℕ → ℕ → ℕ
label_bit m k i = bit_in m k (label i)

-- one unit of level is so many steps
abbrev pub steps_per_unit : ℕ
steps_per_unit = 64

-- level number i of an axis with m bits, in steps
abbrev pub reading : ℕ → ℕ → ℤ
reading m i = pos steps_per_unit *ℤ level m i

-- the last number below n that passes the test, or 0
abbrev pub found : (ℕ → Bool) → ℕ → ℕ
found p zero = 0
found p (suc n) = cond (p n) n (found p n)

-- the level number, of an axis with m bits, whose label is l
abbrev pub labelled : ℕ → ℕ → ℕ
labelled m l = found (λ i. nat_eq (label i) l) (2 ^ m)

-- l is a label of an axis with m bits
abbrev pub is_label : ℕ → ℕ → Bool
is_label m l = nat_le 1 m && (nat_le m 4 && nat_lt l (2 ^ m))

-- the level number whose label is l, and its level in steps; none where an axis has no such label
abbrev pub number_labelled : ℕ → ℕ → Option ℕ
number_labelled m l = cond (is_label m l) (Some (labelled m l)) None

abbrev pub reading_labelled : ℕ → ℕ → Option ℤ
reading_labelled m l = cond (is_label m l) (Some (reading m (labelled m l))) None

-- Of the levels of an axis, number i alone has the label l.
pub record SoleLabel (m l i : ℕ) : Type 0 where
  pub inside : i < 2 ^ m
  pub has : label i ≡ l
  pub only : (j : ℕ) → j < 2 ^ m → label j ≡ l → j ≡ i
