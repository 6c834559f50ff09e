-- A test at each of the 4,095 readings. Assumes nothing.
use Rattle.std.proofs.Common.{◌≡◌, ℕ, Bool, true, ◌&&◌, ℤ, pos, negsuc, arith}
use Rattle.std.proofs.lemmas.Int.{ints}
use Rattle.std.proofs.lemmas.Bool.{and_parts}
use Rattle.qam.proofs.Each.{every, every_at}
use Rattle.softbits.specs.SoftBits.{Reading}
use Rattle.softbits.specs.Theorems.{Everywhere}
use Rattle.softbits.proofs.Bits.{AtTen, by_bit}

-- the test g passes at bit k of an axis with m bits and each reading
unfoldable pub run : (ℕ → ℕ → ℤ → Bool) → ℕ → ℕ → Bool
run g m k = every (λ n. g m k (pos n)) 2048 && every (λ n. g m k (negsuc n)) 2047

abbrev pub Passes : (ℕ → ℕ → ℤ → Bool) → ℕ → ℕ → Type 0
Passes g m k = run g m k ≡ true

pub run_at : (g : ℕ → ℕ → ℤ → Bool) (m k : ℕ) (r : ℤ) → Passes g m k → Reading r → g m k r ≡ true
unfolding run
run_at g m k (pos n) t h = every_at (λ n. g m k (pos n)) 2048 (and_parts (every (λ n. g m k (pos n)) 2048) (every (λ n. g m k (negsuc n)) 2047) t).0 n (omega (arith, ints, h.inside))
run_at g m k (negsuc n) t h = every_at (λ n. g m k (negsuc n)) 2047 (and_parts (every (λ n. g m k (pos n)) 2048) (every (λ n. g m k (negsuc n)) 2047) t).1 n (omega (arith, ints, h.inside))

pub everywhere : (g : ℕ → ℕ → ℤ → Bool) → AtTen (Passes g) → Everywhere (λ m k r. g m k r ≡ true)
everywhere g t m k r a b h = run_at g m k r (by_bit (Passes g) t m k a b) h
