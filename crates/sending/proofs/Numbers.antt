-- Numbers by their binary digits: which digit adds what. Assumes nothing.
use Rattle.std.proofs.Common.{◌≡◌, ℕ, zero, suc, ◌+◌, ◌-◌, ◌*◌, ◌/◌, ◌%◌, ◌^◌, ◌<◌, sym, refl, ap, ◌∙◌, inl, inr, mul-one, div-one, mul_left_comm, arith}
use native.Mathlib.Nat.{div-div-eq-div-mul}
use Rattle.std.proofs.lemmas.Nat.{div-mul-add, mod-mul-add, pow-add}
use Rattle.std.proofs.lemmas.Bool.{cases_order}
use Rattle.sending.specs.Cells.{number_of}

-- 2^(n+1) is twice 2^n
pub pow_more : (n : ℕ) → 2 ^ suc n ≡ 2 * 2 ^ n
pow_more n = let e : suc n ≡ n + 1 = omega arith in ap (λ x. 2 ^ x) e ∙ pow-add 2 n 1 ∙ omega arith

-- equal digits, equal numbers
pub number_same : (f g : ℕ → ℕ) (n : ℕ) → ((i : ℕ) → i < n → f i ≡ g i) → number_of f n ≡ number_of g n
number_same f g zero h = refl
number_same f g (suc n) h = omega (arith, number_same f g n (λ i l. h i (omega arith)), h n (omega arith))

-- one digit, from 0 to c, adds c times its power of two
pub number_raised : (f g : ℕ → ℕ) (n k c : ℕ) → k < n → ((i : ℕ) → i < n → (i ≡ k → ⊥) → g i ≡ f i) → f k ≡ 0 → g k ≡ c → number_of g n ≡ number_of f n + c * 2 ^ (n - 1 - k)
number_raised f g zero k c l h z e = absurd (omega arith)
number_raised f g (suc n) k c l h z e =
    elim (cases_order k n) [
      | inl s ↦
          let same = number_same g f n (λ i j. h i (omega arith) (λ t. omega arith)) in
          let last : g n ≡ c = ap g (sym s) ∙ e in
          let none : f n ≡ 0 = ap f (sym s) ∙ z in
          let pow : c * 2 ^ (suc n - 1 - k) ≡ c = let d : suc n - 1 - k ≡ 0 = omega arith in ap (λ x. c * 2 ^ x) d ∙ mul-one c in
          omega (arith, same, last, none, pow)
      | inr o ↦ elim o [
        | inl s ↦
            let rest = number_raised f g n k c s (λ i j t. h i (omega arith) t) z e in
            let last = h n (omega arith) (λ t. omega arith) in
            let d : suc n - 1 - k ≡ suc (n - 1 - k) = omega arith in
            let pow : c * 2 ^ (suc n - 1 - k) ≡ 2 * (c * 2 ^ (n - 1 - k)) = ap (λ x. c * 2 ^ x) d ∙ ap (λ x. c * x) (pow_more (n - 1 - k)) ∙ mul_left_comm c 2 (2 ^ (n - 1 - k)) in
            omega (arith, rest, last, pow)
        | inr s ↦ absurd (omega arith)
      ]
    ]

-- n digits that are bits make a number below 2^n
pub number_below : (f : ℕ → ℕ) (n : ℕ) → ((i : ℕ) → i < n → f i < 2) → number_of f n < 2 ^ n
number_below f zero h = omega arith
number_below f (suc n) h = omega (arith, number_below f n (λ i l. h i (omega arith)), h n (omega arith), pow_more n)

-- digit i of a number is the digit that it was made of
pub number_digit : (f : ℕ → ℕ) (n i : ℕ) → i < n → ((k : ℕ) → k < n → f k < 2) → number_of f n / 2 ^ (n - suc i) % 2 ≡ f i
number_digit f zero i l h = absurd (omega arith)
number_digit f (suc n) i l h =
    let N = number_of f n in
    let last : f n < 2 = h n (omega arith) in
    let swap : 2 * N + f n ≡ N * 2 + f n = omega arith in
    elim (cases_order i n) [
      | inl e ↦
          let d : suc n - suc i ≡ 0 = omega arith in
          ap (λ x. (2 * N + f n) / 2 ^ x % 2) d ∙ ap (λ x. x % 2) (div-one (2 * N + f n)) ∙ ap (λ x. x % 2) swap ∙ mod-mul-add N 2 (f n) last ∙ ap f (sym e)
      | inr o ↦ elim o [
        | inl s ↦
            let d : suc n - suc i ≡ suc (n - suc i) = omega arith in
            ap (λ x. (2 * N + f n) / 2 ^ x % 2) d ∙ ap (λ x. (2 * N + f n) / x % 2) (pow_more (n - suc i)) ∙ ap (λ x. x % 2) (sym (div-div-eq-div-mul (2 * N + f n) 2 (2 ^ (n - suc i))))
            ∙ ap (λ x. x / 2 ^ (n - suc i) % 2) (ap (λ x. x / 2) swap ∙ div-mul-add N 2 (f n) last) ∙ number_digit f n i s (λ k j. h k (omega arith))
        | inr s ↦ absurd (omega arith)
      ]
    ]
