-- Soft bits of one axis: a positive one speaks for a 1, a negative one for a 0, and 64 stand for a unit of level. Assumes nothing.
use Rattle.std.specs.Prelude.{ℕ, zero, suc, ◌-◌, ◌*◌, ◌^◌, ◌≤◌, min, Bool, true, false, cond, ℤ, pos, negsuc, ◌-ℤ◌, int_div, nat_eq, nat_le, unsigned_abs}
use Rattle.qam.specs.Levels.{label_bit, reading, steps_per_unit}

-- a reading is a whole number of steps from −2,047 to 2,047
pub record Reading (r : ℤ) : Type 0 where
  pub inside : unsigned_abs r ≤ 2047

-- the squared distance, in steps, of the reading r from level number i
abbrev pub squared : ℤ → ℕ
squared z = unsigned_abs z * unsigned_abs z

abbrev pub apart : ℕ → ℤ → ℕ → ℕ
apart m r i = squared (r -ℤ reading m i)

-- the lesser of x and y where the test passes, else y
abbrev pub lesser : Bool → ℕ → ℕ → ℕ
lesser true x y = min x y
lesser false x y = y

-- the least of top and of those f i, with i below n, where p i passes
abbrev pub least : (ℕ → Bool) → (ℕ → ℕ) → ℕ → ℕ → ℕ
least p f top zero = top
least p f top (suc n) = lesser (p n) (f n) (least p f top n)

-- the number of one level whose label bit k is c, where c is 0 or 1
abbrev pub first_with : ℕ → ℕ → ℕ → ℕ
first_with m k c = c * 2 ^ (m - k)

-- the least f i over the level numbers i whose label bit k is c; it starts from one of them
abbrev pub least_with : ℕ → ℕ → ℕ → (ℕ → ℕ) → ℕ
least_with m k c f = least (λ i. nat_eq (label_bit m k i) c) f (f (first_with m k c)) (2 ^ m)

-- near(c), the least squared distance over the levels whose label bit k is c
abbrev pub near : ℕ → ℕ → ℕ → ℤ → ℕ
near m k c r = least_with m k c (apart m r)

-- near(0) − near(1), of the reading r and of any numbers f i at the levels
abbrev pub lead_of : ℕ → ℕ → (ℕ → ℕ) → ℤ
lead_of m k f = pos (least_with m k 0 f) -ℤ pos (least_with m k 1 f)

abbrev pub lead : ℕ → ℕ → ℤ → ℤ
lead m k r = lead_of m k (apart m r)

-- the exact soft bit, D = (near(0) − near(1)) / 256
abbrev pub divisor : ℕ
divisor = 256

abbrev pub exact : ℕ → ℕ → ℤ → ℤ
exact m k r = int_div (lead m k r) (pos divisor)

-- the short soft bit, A1 = r and Ak = 64 × 2^(m−k+1) − |A(k−1)|; there is no bit 0
abbrev pub short : ℕ → ℕ → ℤ → ℤ
short m zero r = r
short m (suc zero) r = r
short m (suc (suc k)) r = pos (steps_per_unit * 2 ^ (m - suc k)) -ℤ pos (unsigned_abs (short m (suc k) r))

-- 64, 0 or −64 by the sign of a number
abbrev pub hard_of : ℤ → ℤ
hard_of (pos zero) = pos 0
hard_of (pos (suc n)) = pos 64
hard_of (negsuc n) = negsuc 63

-- the hard soft bit
abbrev pub hard : ℕ → ℕ → ℤ → ℤ
hard m k r = hard_of (exact m k r)

-- f at the bits up to m, and zero past bit m
abbrev pub up_to : (ℕ → ℕ → ℤ → ℤ) → ℕ → ℕ → ℤ → ℤ
up_to f m k r = cond (nat_le k m) (f m k r) (pos 0)
