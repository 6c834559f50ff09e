-- What a demapper means: from an axis, a bit and a reading a soft bit. Assumes nothing.
use Rattle.std.specs.Prelude.{◌≡◌, ℕ, ◌^◌, ◌<◌, ◌≤◌, List, [], ◌∷◌, ℤ, pos, ◌-ℤ◌, ◌<ℤ◌, unsigned_abs}
use Rattle.qam.specs.Levels.{Axis, BitOf, label_bit, reading}
use Rattle.softbits.specs.SoftBits.{Reading, exact}

-- no soft bit of any demapper is larger, either way
abbrev pub soft_limit : ℕ
soft_limit = 16383

-- A fixed map, within the limit and zero past bit m. Bits are counted from 1.
pub record Demapping : Type 0 where
  pub answer : ℕ → ℕ → ℤ → ℤ
  pub ranged : (m k : ℕ) (r : ℤ) → Axis m → 1 ≤ k → Reading r → unsigned_abs (answer m k r) ≤ soft_limit
  pub zeros : (m k : ℕ) (r : ℤ) → Axis m → Reading r → m < k → answer m k r ≡ pos 0

-- the four numbers that it answers
abbrev pub answers : Demapping → ℕ → ℤ → List ℤ
answers D m r = D.answer m 1 r ∷ D.answer m 2 r ∷ D.answer m 3 r ∷ D.answer m 4 r ∷ []

-- how far it is from the exact soft bit, at a bit of the axis
abbrev pub gap : Demapping → ℕ → ℕ → ℤ → ℕ
gap D m k r = unsigned_abs (D.answer m k r -ℤ exact m k r)

-- At a level's own reading it tells the bits of the level's label: positive for a 1, negative for a 0, never zero.
pub record Tells (D : Demapping) : Type 0 where
  pub one : (m k i : ℕ) → Axis m → BitOf m k → i < 2 ^ m → label_bit m k i ≡ 1 → pos 0 <ℤ D.answer m k (reading m i)
  pub zero : (m k i : ℕ) → Axis m → BitOf m k → i < 2 ^ m → label_bit m k i ≡ 0 → D.answer m k (reading m i) <ℤ pos 0

-- it answers the exact soft bits
abbrev pub IsExact : Demapping → Type 0
IsExact D = (m k : ℕ) (r : ℤ) → Axis m → BitOf m k → Reading r → D.answer m k r ≡ exact m k r
