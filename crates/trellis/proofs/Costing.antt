-- What the code bits of a step pay, in the tables of the search and by position. Assumes nothing.
use Rattle.std.proofs.Common.{◌≡◌, ℕ, zero, suc, ◌+◌, ◌<◌, ◌≤◌, Bool, true, false, cond, eqb, List, [], ◌∷◌, ◌++◌, length, get_or, ℤ, pos, negsuc, nat_abs, refl, ap, ◌∙◌, arith}
use Rattle.paths.specs.Orders.{heaviest}
use Rattle.paths.specs.Best.{Small, CostsLaws}
use Rattle.coding.specs.declared.puncture.Rate.{Rate}
use Rattle.coding.specs.Puncturing.{sends_first, sends_second, sent_before}
use Rattle.coding.specs.Encoding.{if_sent}
use Rattle.trellis.specs.Penalties.{limited, soft_at, AllLimited, pays_at, penalty, penalties}
use Rattle.trellis.specs.Steps.{costs_at, width_at, paired}

-- ---- the tables

first_table : (z : ℤ) (c d : ℕ) → c < 2 → d < 2 → get_or (pays_at 1 z) (paired c d) 0 ≡ penalty z c
first_table z zero zero h k = refl
first_table z zero (suc zero) h k = refl
first_table z (suc zero) zero h k = refl
first_table z (suc zero) (suc zero) h k = refl
first_table z (suc (suc c)) d h k = absurd (omega arith)
first_table z zero (suc (suc d)) h k = absurd (omega arith)
first_table z (suc zero) (suc (suc d)) h k = absurd (omega arith)

second_table : (z : ℤ) (c d : ℕ) → c < 2 → d < 2 → get_or (pays_at 0 z) (paired c d) 0 ≡ penalty z d
second_table z zero zero h k = refl
second_table z zero (suc zero) h k = refl
second_table z (suc zero) zero h k = refl
second_table z (suc zero) (suc zero) h k = refl
second_table z (suc (suc c)) d h k = absurd (omega arith)
second_table z zero (suc (suc d)) h k = absurd (omega arith)
second_table z (suc zero) (suc (suc d)) h k = absurd (omega arith)

-- what two bits pay at the positions j and i, each if it is sent
both_pay : (s t : Bool) (v : ℕ → ℤ) (j i : ℕ) → i ≡ j + cond s 1 0 → (c d : ℕ) → if_sent s (penalty (v j) c) ++ if_sent t (penalty (v i) d) ≡ penalties v j (if_sent s c ++ if_sent t d)
both_pay true true v j i e c d = let n : i ≡ suc j = omega arith in ap (λ k. penalty (v j) c ∷ penalty (v k) d ∷ []) n
both_pay true false v j i e c d = refl
both_pay false true v j i e c d = let n : i ≡ j = omega arith in ap (λ k. penalty (v k) d ∷ []) n
both_pay false false v j i e c d = refl

-- the tables give what the positions say
pub tables_pay : (s t : Bool) (v : ℕ → ℤ) (j i : ℕ) → i ≡ j + cond s 1 0 → (c d : ℕ) → c < 2 → d < 2 → if_sent s (get_or (pays_at 1 (v j)) (paired c d) 0) ++ if_sent t (get_or (pays_at 0 (v i)) (paired c d) 0) ≡ penalties v j (if_sent s c ++ if_sent t d)
tables_pay s t v j i e c d hc hd =
    ap (λ x. if_sent s x ++ if_sent t (get_or (pays_at 0 (v i)) (paired c d) 0)) (first_table (v j) c d hc hd)
    ∙ ap (λ x. if_sent s (penalty (v j) c) ++ if_sent t x) (second_table (v i) c d hc hd)
    ∙ both_pay s t v j i e c d

-- ---- the laws

pub all_limited : (soft : List ℤ) → AllLimited (soft_at soft)
all_limited soft j = within (get_or soft j (pos 0))
  where
    within : (z : ℤ) → nat_abs (limited z) ≤ heaviest
    within (pos n) = omega arith
    within (negsuc n) = omega arith

penalty_light : (z : ℤ) (c : ℕ) → nat_abs z ≤ heaviest → penalty z c ≤ heaviest
penalty_light (pos n) c h = pick (eqb c 0)
  where
    pick : (b : Bool) → cond b n 0 ≤ heaviest
    pick true = h
    pick false = omega arith
penalty_light (negsuc n) c h = pick (eqb c 0)
  where
    pick : (b : Bool) → cond b 0 (suc n) ≤ heaviest
    pick true = omega arith
    pick false = h

module _ (v : ℕ → ℤ) (limited-v : AllLimited v) where
  small_penalties : (j : ℕ) (cs : List ℕ) → Small (penalties v j cs)
  small_penalties j [] = tt
  small_penalties j (c ∷ cs) = (penalty_light (v j) c (limited-v j), small_penalties (suc j) cs)

  length_penalties : (j : ℕ) (cs : List ℕ) → length (penalties v j cs) ≡ length cs
  length_penalties j [] = refl
  length_penalties j (c ∷ cs) = ap suc (length_penalties (suc j) cs)

  pub costs_lawful : (r : Rate) → CostsLaws (costs_at r v) (width_at r)
  costs_lawful r = record {
    count = λ k c d _ _. length_penalties (sent_before r k) (if_sent (sends_first r k) c ++ if_sent (sends_second r k) d) ∙ as_wide (sends_first r k) (sends_second r k) c d;
    small = λ k c d _ _. small_penalties (sent_before r k) (if_sent (sends_first r k) c ++ if_sent (sends_second r k) d);
  }
    where
      as_wide : (p q : Bool) (c d : ℕ) → length (if_sent p c ++ if_sent q d) ≡ cond p 1 0 + cond q 1 0
      as_wide true true c d = refl
      as_wide true false c d = refl
      as_wide false true c d = refl
      as_wide false false c d = refl
