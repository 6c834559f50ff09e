-- The ranges of the demappings, and their zeros past the last bit. Assumes nothing.
use Rattle.std.proofs.Common.{◌≡◌, ℕ, zero, suc, ◌<◌, ◌≤◌, leb, ℤ, pos, negsuc, nat_abs, arith}
use Rattle.std.proofs.lemmas.Bool.{cond_both, cond-false, leb-true, lt-leb}
use Rattle.qam.specs.Levels.{Axis}
use Rattle.softbits.specs.SoftBits.{Reading, exact, short, hard, hard_of, up_to}
use Rattle.softbits.specs.Theorems.{Bounded}
use Rattle.softbits.proofs.Theorems.{exact_few, short_few}

-- n bounds f up to bit m, so it bounds it at each bit
pub up_to_few : (f : ℕ → ℕ → ℤ → ℤ) (n : ℕ) → Bounded (λ m k r. nat_abs (f m k r)) n → (m k : ℕ) (r : ℤ) → Axis m → 1 ≤ k → Reading r → nat_abs (up_to f m k r) ≤ n
up_to_few f n e m k r a o h =
    cond_both (leb k m) (f m k r) (pos 0) (λ x. nat_abs x ≤ n)
    (λ t. e m k r a (record { first = o; last = leb-true k m t }) h) (λ t. omega arith)

pub past_zero : (f : ℕ → ℕ → ℤ → ℤ) (m k : ℕ) (r : ℤ) → Axis m → Reading r → m < k → up_to f m k r ≡ pos 0
past_zero f m k r a h l = cond-false (leb k m) (f m k r) (pos 0) (lt-leb k m l)

hard_few : (x : ℤ) → nat_abs (hard_of x) ≤ 64
hard_few (pos zero) = omega arith
hard_few (pos (suc n)) = omega arith
hard_few (negsuc n) = omega arith

pub exact_ranged : (m k : ℕ) (r : ℤ) → Axis m → 1 ≤ k → Reading r → nat_abs (up_to exact m k r) ≤ 16383
exact_ranged m k r a o h = omega (arith, up_to_few exact 12792 exact_few m k r a o h)

pub short_ranged : (m k : ℕ) (r : ℤ) → Axis m → 1 ≤ k → Reading r → nat_abs (up_to short m k r) ≤ 16383
short_ranged m k r a o h = omega (arith, up_to_few short 2047 short_few m k r a o h)

pub hard_ranged : (m k : ℕ) (r : ℤ) → Axis m → 1 ≤ k → Reading r → nat_abs (up_to hard m k r) ≤ 16383
hard_ranged m k r a o h = omega (arith, up_to_few hard 64 (λ m k r a b h. hard_few (exact m k r)) m k r a o h)
