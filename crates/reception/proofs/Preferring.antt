-- Orders that prefer what pays nothing: totals that are sums, and the count first. Assumes nothing.
use Rattle.std.proofs.Common.{◌≡◌, ℕ, zero, suc, ◌+◌, ◌<◌, Bool, cond, ◌&&◌, eqb, ltb, List, [], ◌∷◌, refl, ap, ◌∙◌, inl, inr, arith}
use Rattle.std.proofs.lemmas.Bool.{and_from, cases_lt, eq-eqb, le-ltb, lt-ltb, or_left, or_right}
use Rattle.paths.specs.Orders.{adds}
use Rattle.orders.specs.CountFirst.{counts}
use Rattle.reception.specs.Unharmed.{Free, PrefersFree}
use Rattle.reception.specs.Theorems.{SumsPreferFree}
use Rattle.reception.proofs.Sums.{adds_sum, summed}

free_sum : (ps : List ℕ) → Free ps → summed ps ≡ 0
free_sum [] f = refl
free_sum (p ∷ ps) f = omega (arith, f 0 (omega arith), free_sum ps (λ k l. f (suc k) (omega arith)))

sum_free : (ps : List ℕ) → summed ps ≡ 0 → Free ps
sum_free [] e k l = absurd (omega arith)
sum_free (p ∷ ps) e zero l = omega arith
sum_free (p ∷ ps) e (suc k) l = sum_free ps (omega arith) k (omega arith)

some_sum : (ps : List ℕ) → (Free ps → ⊥) → 0 < summed ps
some_sum ps n = elim (cases_lt 0 (summed ps)) [ inl l ↦ l | inr g ↦ absurd (n (sum_free ps (omega arith))) ]

pub sums_prefer_free : {X : Type 0} → SumsPreferFree X
sums_prefer_free M S ps qs e b f n =
    let t = adds M M.start ps in
    let u = adds M M.start qs in
    S.by_size t u ∙ lt-ltb (S.size t) (S.size u) (omega (arith, adds_sum M S M.start ps, adds_sum M S M.start qs, S.from_zero, free_sum ps f, some_sum qs n))

count_sum : (t : ℕ × ℕ) (ps : List ℕ) → (adds counts t ps).1 ≡ t.1 + summed ps
count_sum t [] = omega arith
count_sum t (p ∷ ps) = omega (arith, count_sum (counts.add t p) ps)

count_free : (t : ℕ × ℕ) (ps : List ℕ) → Free ps → (adds counts t ps).0 ≡ t.0
count_free t [] f = refl
count_free t (p ∷ ps) f =
    let paid : ◌≡◌ {A = ℕ} (cond (ltb 0 p) 1 0) 0 = ap {A = Bool} {B = ℕ} (λ b. cond b 1 0) (le-ltb 0 p (omega (arith, f 0 (omega arith)))) in
    omega (arith, count_free (counts.add t p) ps (λ k l. f (suc k) (omega arith)), paid)

pub counts_prefer_free : PrefersFree counts
counts_prefer_free ps qs e b f n =
    let t : ℕ × ℕ = adds counts (0, 0) ps in
    let u : ℕ × ℕ = adds counts (0, 0) qs in
    let none : t.0 ≡ 0 = count_free (0, 0) ps f in
    let low : t.1 < u.1 = omega (arith, count_sum (0, 0) ps, count_sum (0, 0) qs, free_sum ps f, some_sum qs n) in
    elim (cases_lt t.0 u.0) [
      | inl l ↦ or_left (ltb t.0 u.0) (eqb t.0 u.0 && ltb t.1 u.1) (lt-ltb t.0 u.0 l)
      | inr g ↦ or_right (ltb t.0 u.0) (eqb t.0 u.0 && ltb t.1 u.1) (and_from (eqb t.0 u.0) (ltb t.1 u.1) (eq-eqb t.0 u.0 (omega arith)) (lt-ltb t.1 u.1 low))
    ]
