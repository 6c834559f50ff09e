-- A word whose bits are set one after another. Assumes nothing.
use Rattle.std.proofs.Common.{◌≡◌, ℕ, zero, suc, ◌+◌, ◌-◌, ◌*◌, ◌/◌, ◌%◌, ◌^◌, ◌<◌, ◌≤◌, Bool, true, false, cond, eqb, sym, refl, ap, ◌∙◌, subst, inl, inr, arith}
use lib.Bits.{bit_or, or_zero_r, or_shifted_r}
use Rattle.std.proofs.lemmas.Nat.{pow_pos, pow-add, shr-shr, shl-shr, or_shr, or_mod, shr_high, pow_below}
use Rattle.std.proofs.lemmas.Bool.{cases_order}
use Rattle.paths.specs.Rows.{bit_of, Marks}

-- what holds of each s below j, and of j, holds of each below j + 1
pub up_to : (P : ℕ → Type 0) (j : ℕ) → ((s : ℕ) → s < j → P s) → P j → (s : ℕ) → s < j + 1 → P s
up_to P j below here s h = elim (cases_order s j) [ inl e ↦ subst P (sym e) here | inr e ↦ elim e [ inl l ↦ below s l | inr l ↦ absurd (omega arith) ] ]

pub bit_past : (w j : ℕ) → w < 2 ^ j → bit_of w j ≡ false
bit_past w j h = let e : w / 2 ^ j ≡ 0 = ap (λ x. x / 2 ^ j) (omega arith) ∙ shr_high 0 j w h in ap (λ x. eqb (x % 2) 1) e

bit_set : (w j : ℕ) → w < 2 ^ j → bit_of (bit_or w (2 ^ j)) j ≡ true
bit_set w j h =
    let e : bit_or w (2 ^ j) ≡ 1 * 2 ^ j + w = ap (bit_or w) (omega arith) ∙ or_shifted_r 1 j w h in
    ap (λ x. eqb (x % 2) 1) (ap (λ x. x / 2 ^ j) e ∙ shr_high 1 j w h)

bit_other : (w j s : ℕ) → s < j → bit_of (bit_or w (2 ^ j)) s ≡ bit_of w s
bit_other w j s h =
    let m = j - s - 1 in
    let q : j ≡ suc m + s = omega arith in
    let e : 2 ^ j / 2 ^ s ≡ 2 ^ suc m = ap (λ i. 2 ^ i / 2 ^ s) q ∙ ap (λ x. x / 2 ^ s) (pow-add 2 (suc m) s) ∙ shl-shr (2 ^ suc m) s in
    let even : 2 ^ suc m % 2 ≡ 0 = omega arith in
    let f : bit_or w (2 ^ j) / 2 ^ s % 2 ≡ w / 2 ^ s % 2 =
    ap (λ x. x % 2) (or_shr w (2 ^ j) s) ∙ ap (λ x. bit_or (w / 2 ^ s) x % 2) e ∙ or_mod (w / 2 ^ s) (2 ^ suc m) 1 ∙ ap (bit_or (w / 2 ^ s % 2)) even ∙ or_zero_r (w / 2 ^ s % 2) in
    ap (λ x. eqb x 1) f

pub marks_none : (f : ℕ → Bool) → Marks f 0 0
marks_none f = record { below = omega arith; holds = λ s l. absurd (omega arith) }

module _ (f : ℕ → Bool) (j w : ℕ) (h : Marks f j w) where
  pub marks_keep : f j ≡ false → Marks f (j + 1) w
  marks_keep e = record {
    below = let p : 2 ^ j < 2 ^ (j + 1) = pow_below j (j + 1) (omega arith) in omega (arith, h.below);
    holds = up_to (λ s. bit_of w s ≡ f s) j h.holds (bit_past w j h.below ∙ sym e);
  }

  pub marks_set : f j ≡ true → Marks f (j + 1) (bit_or w (2 ^ j))
  marks_set e = record {
    below =
        let one : bit_or w (2 ^ j) ≡ 1 * 2 ^ j + w = ap (bit_or w) (omega arith) ∙ or_shifted_r 1 j w h.below in
        let two : 2 ^ (j + 1) ≡ 2 ^ j * 2 = pow-add 2 j 1 in
        omega (arith, h.below);
    holds = up_to (λ s. bit_of (bit_or w (2 ^ j)) s ≡ f s) j (λ s l. bit_other w j s l ∙ h.holds s l) (bit_set w j h.below ∙ sym e);
  }

-- either, as `if c { w | 1 << j } else { w }` does
pub marks_more : (f : ℕ → Bool) (j w : ℕ) (c : Bool) → Marks f j w → c ≡ f j → Marks f (j + 1) (cond c (bit_or w (2 ^ j)) w)
marks_more f j w true h e = marks_set f j w h (sym e)
marks_more f j w false h e = marks_keep f j w h (sym e)

-- ---- a bit more below the others

pub marks_same : (f g : ℕ → Bool) (n w : ℕ) → ((s : ℕ) → s < n → f s ≡ g s) → Marks f n w → Marks g n w
marks_same f g n w e h = record { below = h.below; holds = λ s l. h.holds s l ∙ e s l }

halved : (w : ℕ) (b : Bool) → (2 * w + cond b 1 0) / 2 ≡ w
halved w true = omega arith
halved w false = omega arith

lowest : (w : ℕ) (b : Bool) → bit_of (2 * w + cond b 1 0) 0 ≡ b
lowest w true = let e : (2 * w + 1) / 1 % 2 ≡ 1 = omega arith in ap (λ x. eqb x 1) e
lowest w false = let e : (2 * w + 0) / 1 % 2 ≡ 0 = omega arith in ap (λ x. eqb x 1) e

one_at_most : (b : Bool) → cond b 1 0 ≤ 1
one_at_most true = omega arith
one_at_most false = omega arith

pub marks_front : (f : ℕ → Bool) (n w : ℕ) (b : Bool) → Marks (λ i. f (suc i)) n w → b ≡ f 0 → Marks f (suc n) (2 * w + cond b 1 0)
marks_front f n w b h e = record { below = omega (arith, h.below, one_at_most b); holds = at }
  where
    at : (s : ℕ) → s < suc n → bit_of (2 * w + cond b 1 0) s ≡ f s
    at zero l = lowest w b ∙ e
    at (suc s) l =
        let one : 1 + s ≡ suc s = omega arith in
        let q : (2 * w + cond b 1 0) / 2 ^ suc s ≡ w / 2 ^ s = ap (λ i. (2 * w + cond b 1 0) / 2 ^ i) (sym one) ∙ sym (shr-shr (2 * w + cond b 1 0) 1 s) ∙ ap (λ x. x / 2 ^ s) (halved w b) in
        ap (λ x. eqb (x % 2) 1) q ∙ h.holds s (omega arith)

-- as a loop over the states from the last one down does it, at j
pub marks_down : (f : ℕ → Bool) (n j w : ℕ) (b : Bool) → 0 < j → j ≤ n → Marks (λ i. f (j + i)) (n - j) w → b ≡ f (j - 1) → Marks (λ i. f (j - 1 + i)) (n - (j - 1)) (2 * w + cond b 1 0)
marks_down f n j w b some most h e =
    let size : suc (n - j) ≡ n - (j - 1) = omega arith in
    let start : j - 1 ≡ j - 1 + 0 = omega arith in
    subst (λ m. Marks (λ i. f (j - 1 + i)) m (2 * w + cond b 1 0)) size
    (marks_front (λ i. f (j - 1 + i)) (n - j) w b (marks_same (λ i. f (j + i)) (λ i. f (j - 1 + suc i)) (n - j) w (λ s l. let q : j + s ≡ j - 1 + suc s = omega arith in ap f q) h) (e ∙ ap f start))

-- a word of ones
pub all_marked : (n : ℕ) → Marks (λ _. true) n (2 ^ n - 1)
all_marked zero = marks_none (λ _. true)
all_marked (suc n) = let e : 2 * (2 ^ n - 1) + 1 ≡ 2 ^ suc n - 1 = omega (arith, pow_pos n) in subst (Marks (λ _. true) (suc n)) e (marks_front (λ _. true) n (2 ^ n - 1) true (all_marked n) refl)
