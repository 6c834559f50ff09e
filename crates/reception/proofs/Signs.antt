-- Bits that were received with their own signs pay nothing, and no other bits pay nothing. Assumes nothing.
use Rattle.std.proofs.Common.{◌≡◌, ℕ, zero, suc, ◌<◌, List, [], ◌∷◌, length, ℤ, pos, negsuc, ◌<ℤ◌, refl, ap, arith}
use borrow.Author.Differences.{lt_out}
use Rattle.std.specs.List.{AllByRecursion}
use Rattle.trellis.specs.Penalties.{penalties, penalty}
use Rattle.reception.specs.Unharmed.{Free}

-- v says c: above 0 for 1, below 0 for 0
pub record Says (v : ℤ) (c : ℕ) : Type 0 where
  pub one : c ≡ 1 → pos 0 <ℤ v
  pub none : c ≡ 0 → v <ℤ pos 0

-- the bit that v says pays nothing
own_free : (v : ℤ) (c : ℕ) → c < 2 → Says v c → penalty v c ≡ 0
own_free (pos n) zero h s = absurd (omega (arith, lt_out (pos n) (pos 0) (s.none refl)))
own_free (negsuc n) zero h s = refl
own_free (pos n) (suc zero) h s = refl
own_free (negsuc n) (suc zero) h s = absurd (omega (arith, lt_out (pos 0) (negsuc n) (s.one refl)))
own_free v (suc (suc c)) h s = absurd (omega arith)

-- and one that pays nothing is it
free_own : (v : ℤ) (c d : ℕ) → c < 2 → d < 2 → Says v c → penalty v d ≡ 0 → d ≡ c
free_own v zero zero hc hd s e = refl
free_own v (suc zero) (suc zero) hc hd s e = refl
free_own (pos n) zero (suc zero) hc hd s e = absurd (omega (arith, lt_out (pos n) (pos 0) (s.none refl)))
free_own (negsuc n) zero (suc zero) hc hd s e = absurd (omega arith)
free_own (pos n) (suc zero) zero hc hd s e = absurd (omega (arith, lt_out (pos 0) (pos n) (s.one refl)))
free_own (negsuc n) (suc zero) zero hc hd s e = absurd (omega (arith, lt_out (pos 0) (negsuc n) (s.one refl)))
free_own v (suc (suc c)) d hc hd s e = absurd (omega arith)
free_own v zero (suc (suc d)) hc hd s e = absurd (omega arith)
free_own v (suc zero) (suc (suc d)) hc hd s e = absurd (omega arith)

-- at each of the positions from j on v says the bit there
abbrev pub AllSay : (ℕ → ℤ) → ℕ → List ℕ → Type 0
AllSay v j [] = Unit {0}
AllSay v j (x ∷ xs) = Says (v j) x × AllSay v (suc j) xs

pub all_free : (v : ℕ → ℤ) (j : ℕ) (xs : List ℕ) → AllByRecursion (λ c. c < 2) xs → AllSay v j xs → Free (penalties v j xs)
all_free v j [] b s k l = absurd (omega arith)
all_free v j (x ∷ xs) b s zero l = own_free (v j) x b.0 s.0
all_free v j (x ∷ xs) b s (suc k) l = all_free v (suc j) xs b.1 s.1 k (omega arith)

pub all_own : (v : ℕ → ℤ) (j : ℕ) (xs ys : List ℕ) → length ys ≡ length xs → AllByRecursion (λ c. c < 2) xs → AllByRecursion (λ c. c < 2) ys → AllSay v j xs → Free (penalties v j ys) → ys ≡ xs
all_own v j [] [] e bx by s z = refl
all_own v j [] (y ∷ ys) e bx by s z = absurd (omega arith)
all_own v j (x ∷ xs) [] e bx by s z = absurd (omega arith)
all_own v j (x ∷ xs) (y ∷ ys) e bx by s z =
    let here : y ≡ x = free_own (v j) x y bx.0 by.0 s.0 (z 0 (omega arith)) in
    let rest : ys ≡ xs = all_own v (suc j) xs ys (omega arith) bx.1 by.1 s.1 (λ k l. z (suc k) (omega arith)) in
    cc

pub length_penalties : (v : ℕ → ℤ) (j : ℕ) (xs : List ℕ) → length (penalties v j xs) ≡ length xs
length_penalties v j [] = refl
length_penalties v j (x ∷ xs) = ap suc (length_penalties v (suc j) xs)
