-- What holds of the soft bits at every axis, bit and reading. Assumes nothing.
use Rattle.std.specs.Prelude.{◌≡◌, ℕ, ◌^◌, ◌<◌, ◌≤◌, ℤ, ◌*ℤ◌}
use Rattle.qam.specs.Levels.{Axis, BitOf, label_bit}
use Rattle.softbits.specs.SoftBits.{Reading, apart, lead, exact, hard_of}
use Rattle.softbits.specs.Demapping.{Demapping, Tells}

-- P holds at each bit of each axis and each reading
abbrev pub Everywhere : (ℕ → ℕ → ℤ → Type 0) → Type 0
Everywhere P = (m k : ℕ) (r : ℤ) → Axis m → BitOf m k → Reading r → P m k r

-- near(0) − near(1) is d times the exact soft bit, so that the division by d leaves no remainder
abbrev pub NoRemainder : ℤ → Type 0
NoRemainder d = Everywhere (λ m k r. d *ℤ exact m k r ≡ lead m k r)

-- no f m k r is greater than n
abbrev pub Bounded : (ℕ → ℕ → ℤ → ℕ) → ℕ → Type 0
Bounded f n = Everywhere (λ m k r. f m k r ≤ n)

-- f and g are never of opposite sign, and zero at the same readings
abbrev pub SameSign : (ℕ → ℕ → ℤ → ℤ) → (ℕ → ℕ → ℤ → ℤ) → Type 0
SameSign f g = Everywhere (λ m k r. hard_of (f m k r) ≡ hard_of (g m k r))

-- f and g are equal at the last bit of each axis
unfoldable pub SameAtLast : (ℕ → ℕ → ℤ → ℤ) → (ℕ → ℕ → ℤ → ℤ) → Type 0
SameAtLast f g = (m : ℕ) (r : ℤ) → Axis m → Reading r → f m m r ≡ g m m r

-- n is the squared distance of r from a level whose label bit k is c, and no such level is nearer
pub record Nearest (m k c : ℕ) (r : ℤ) (n : ℕ) : Type 0 where
  pub number : ℕ
  pub inside : number < 2 ^ m
  pub has : label_bit m k number ≡ c
  pub reached : n ≡ apart m r number
  pub least : (i : ℕ) → i < 2 ^ m → label_bit m k i ≡ c → n ≤ apart m r i

-- f m k c r is that, for c either value of a bit
unfoldable pub AllNearest : (ℕ → ℕ → ℕ → ℤ → ℕ) → Type 0
AllNearest f = (m k c : ℕ) (r : ℤ) → Axis m → BitOf m k → c < 2 → Nearest m k c r (f m k c r)

-- a demapping with the signs of f tells the bits of each level
abbrev pub SignsTell : (ℕ → ℕ → ℤ → ℤ) → Type 0
SignsTell f = (D : Demapping) → SameSign D.answer f → Tells D
