-- The rows of the pattern table, and how many bits a number of steps sends. Assumes nothing.
use Rattle.std.proofs.Common.{◌≡◌, ℕ, zero, suc, ◌+◌, ◌*◌, ◌/◌, ◌%◌, ◌<◌, ◌≤◌, Bool, true, false, cond, List, get_or, ap, ◌∙◌, arith}
use native.Mathlib.Nat.{div-add-mod}
use Rattle.std.proofs.lemmas.Nat.{mod_below, div-mul-add}
use Rattle.coding.specs.declared.puncture.Rate.{Rate}
use Rattle.coding.specs.declared.puncture.Rate.TheVariants.{Half, TwoThirds, ThreeQuarters}
use Rattle.coding.specs.Puncturing.{first_row, second_row, sends_first, sends_second, sent_before, sent_in_all}

-- ---- how many bits are sent

-- a row of two, and of three, at a step
by_two : (P : ℕ → Type 0) (k : ℕ) → (k % 2 ≡ 0 → P 0) → (k % 2 ≡ 1 → P 1) → P (k % 2)
by_two P k f g = at (k % 2) (λ e. f e) (λ e. g e) (mod_below k 2 (omega arith))
  where
    at : (j : ℕ) → (j ≡ 0 → P 0) → (j ≡ 1 → P 1) → j < 2 → P j
    at zero f g h = f (omega arith)
    at (suc zero) f g h = g (omega arith)
    at (suc (suc j)) f g h = absurd (omega arith)

by_three : (P : ℕ → Type 0) (k : ℕ) → (k % 3 ≡ 0 → P 0) → (k % 3 ≡ 1 → P 1) → (k % 3 ≡ 2 → P 2) → P (k % 3)
by_three P k f g i = at (k % 3) f g i (mod_below k 3 (omega arith))
  where
    at : (j : ℕ) → (j ≡ 0 → P 0) → (j ≡ 1 → P 1) → (j ≡ 2 → P 2) → j < 3 → P j
    at zero f g i h = f (omega arith)
    at (suc zero) f g i h = g (omega arith)
    at (suc (suc zero)) f g i h = i (omega arith)
    at (suc (suc (suc j))) f g i h = absurd (omega arith)

-- what a step at place j of the rows adds
abbrev added : List Bool → List Bool → ℕ → ℕ
added xs ys j = cond (get_or xs j false) 1 0 + cond (get_or ys j false) 1 0

-- a number with its quotient and its rest
over : (x w a b : ℕ) → b < w → x ≡ a * w + b → x / w ≡ a
over x w a b h e = ap (λ y. y / w) e ∙ div-mul-add a w b h

pub sent_is : (rate : Rate) (n : ℕ) → sent_before rate n ≡ sent_in_all rate n
unfolding sent_before sends_first sends_second
sent_is Half zero = omega arith
sent_is Half (suc n) =
    let one : n % 1 ≡ 0 = omega (arith, mod_below n 1 (omega arith)) in
    let step : added (first_row Half) (second_row Half) (n % 1) ≡ 2 = ap (added (first_row Half) (second_row Half)) one in
    omega (arith, sent_is Half n)
sent_is TwoThirds zero = over 1 2 0 1 (omega arith) (omega arith)
sent_is TwoThirds (suc n) =
    let d = div-add-mod n 2 in
    let q : ℕ = n / 2 in
    let P : ℕ → Type 0 = λ j. (3 * n + 1) / 2 + added (first_row TwoThirds) (second_row TwoThirds) j ≡ (3 * suc n + 1) / 2 in
    let even : n % 2 ≡ 0 → P 0 = λ e.
    omega (arith, over (3 * n + 1) 2 (3 * q) 1 (omega arith) (omega arith), over (3 * suc n + 1) 2 (3 * q + 2) 0 (omega arith) (omega arith)) in
    let odd : n % 2 ≡ 1 → P 1 = λ e.
    omega (arith, over (3 * n + 1) 2 (3 * q + 2) 0 (omega arith) (omega arith), over (3 * suc n + 1) 2 (3 * q + 3) 1 (omega arith) (omega arith)) in
    let step : P (n % 2) = by_two P n even odd in
    omega (arith, sent_is TwoThirds n, step)
sent_is ThreeQuarters zero = over 2 3 0 2 (omega arith) (omega arith)
sent_is ThreeQuarters (suc n) =
    let d = div-add-mod n 3 in
    let q : ℕ = n / 3 in
    let P : ℕ → Type 0 = λ j. (4 * n + 2) / 3 + added (first_row ThreeQuarters) (second_row ThreeQuarters) j ≡ (4 * suc n + 2) / 3 in
    let zeroth : n % 3 ≡ 0 → P 0 = λ e.
    omega (arith, over (4 * n + 2) 3 (4 * q) 2 (omega arith) (omega arith), over (4 * suc n + 2) 3 (4 * q + 2) 0 (omega arith) (omega arith)) in
    let oneth : n % 3 ≡ 1 → P 1 = λ e.
    omega (arith, over (4 * n + 2) 3 (4 * q + 2) 0 (omega arith) (omega arith), over (4 * suc n + 2) 3 (4 * q + 3) 1 (omega arith) (omega arith)) in
    let twoth : n % 3 ≡ 2 → P 2 = λ e.
    omega (arith, over (4 * n + 2) 3 (4 * q + 3) 1 (omega arith) (omega arith), over (4 * suc n + 2) 3 (4 * q + 4) 2 (omega arith) (omega arith)) in
    let step : P (n % 3) = by_three P n zeroth oneth twoth in
    omega (arith, sent_is ThreeQuarters n, step)

pub at_most_one : (b : Bool) → cond b 1 0 ≤ 1
at_most_one true = omega arith
at_most_one false = omega arith

-- a step sends at most two bits
pub sent_most : (rate : Rate) (n : ℕ) → sent_before rate n ≤ 2 * n
unfolding sent_before
sent_most rate zero = omega arith
sent_most rate (suc n) = omega (arith, sent_most rate n, at_most_one (sends_first rate n), at_most_one (sends_second rate n))
