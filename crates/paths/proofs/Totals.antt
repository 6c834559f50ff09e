-- What the laws give of totals: more penalties keep their order. Assumes nothing.
use Rattle.std.proofs.Common.{◌≡◌, ℕ, zero, suc, ◌+◌, ◌<◌, ◌≤◌, true, false, List, [], ◌∷◌, length, sym, refl, ap, ◌∙◌, subst, inl, inr, arith}
use Rattle.std.proofs.lemmas.Bool.{both_ways, cases_Bool, cases_lt}
use Rattle.paths.specs.Codes.{Code}
use Rattle.paths.specs.Orders.{Metric, Reached, Reached.none, Reached.more, Bears, OrderLaws, adds, heaviest, most_penalties}
use Rattle.paths.specs.Survivors.{stepped, Costs}
use Rattle.paths.specs.Best.{Small, most, Setting}
use Rattle.paths.proofs.Newest.{Bits, ends, total}

-- ---- the laws between totals that took equally many penalties

pub record LevelLaws {X : Type 0} (M : Metric X) : Type 0 where
  pub one_way : (n : ℕ) (t u : X) → n ≤ most_penalties → Reached M n t → Reached M n u → M.lt t u ≡ true → M.lt u t ≡ false
  pub chain : (n : ℕ) (t u v : X) → n ≤ most_penalties → Reached M n t → Reached M n u → Reached M n v → M.lt t u ≡ false → M.lt u v ≡ false → M.lt t v ≡ false
  pub same : (n : ℕ) (t u : X) → n ≤ most_penalties → Reached M n t → Reached M n u → M.lt t u ≡ false → M.lt u t ≡ false → t ≡ u
  pub strict : (n : ℕ) (t u : X) (p : ℕ) → n < most_penalties → p ≤ heaviest → Reached M n t → Reached M n u → M.lt t u ≡ true → M.lt (M.add t p) (M.add u p) ≡ true

pub bears : {X : Type 0} {M : Metric X} (left n : ℕ) (t : X) → n + left ≤ most_penalties → Reached M n t → Bears M left t
bears left n t h r = record { count = n; room = h; reached = r }

pub level : {X : Type 0} {M : Metric X} → OrderLaws M → LevelLaws M
level laws = record {
  one_way = λ n t u h r q e. laws.one_way t u (bears 0 n t (omega arith) r) (bears 0 n u (omega arith) q) e;
  chain = λ n t u v h r q p e d. laws.chain t u v (bears 0 n t (omega arith) r) (bears 0 n u (omega arith) q) (bears 0 n v (omega arith) p) e d;
  same = λ n t u h r q e d. laws.same t u (bears 0 n t (omega arith) r) (bears 0 n u (omega arith) q) e d;
  strict = λ n t u p h l r q e. laws.strict t u p l (bears 1 n t (omega arith) r) (bears 1 n u (omega arith) q) e;
}

-- ---- penalties one after another

pub reached_adds : {X : Type 0} {M : Metric X} (n : ℕ) (t : X) (ps : List ℕ) → Reached M n t → Small ps → Reached M (n + length ps) (adds M t ps)
reached_adds {M = M} n t [] r h = let e : n ≡ n + 0 = omega arith in subst (λ k. Reached M k t) e r
reached_adds {M = M} n t (p ∷ ps) r h =
    let e : suc n + length ps ≡ n + suc (length ps) = omega arith in
    subst (λ k. Reached M k (adds M (M.add t p) ps)) e (reached_adds (suc n) (M.add t p) ps (more r h.0) h.1)

-- fewer steps add fewer penalties
pub most_le : (width : ℕ → ℕ) (k n : ℕ) → k ≤ n → most width k ≤ most width n
most_le width k zero h = let e : k ≡ zero = omega arith in subst (λ i. most width i ≤ most width zero) (sym e) (omega arith)
most_le width k (suc n) h = elim (cases_lt k (suc n)) [ inl l ↦ omega (arith, most_le width k n (omega arith)) | inr l ↦ (let e : k ≡ suc n = omega arith in subst (λ i. most width i ≤ most width (suc n)) (sym e) (omega arith)) ]

module _ {X : Type 0} {C : Code} {M : Metric X} {costs : Costs} {width : ℕ → ℕ} (g : Setting C M costs width) where
  pub never_under_itself : (n : ℕ) (t : X) → n ≤ most_penalties → Reached M n t → M.lt t t ≡ false
  never_under_itself n t h r = elim (cases_Bool (M.lt t t)) [ inl e ↦ (level g.order).one_way n t t h r r e | inr e ↦ e ]

  adds_strict : (n : ℕ) (t u : X) (ps : List ℕ) → n + length ps ≤ most_penalties → Reached M n t → Reached M n u → Small ps → M.lt t u ≡ true → M.lt (adds M t ps) (adds M u ps) ≡ true
  adds_strict n t u [] h r q s e = e
  adds_strict n t u (p ∷ ps) h r q s e =
      adds_strict (suc n) (M.add t p) (M.add u p) ps (omega arith) (more r s.0) (more q s.0) s.1 ((level g.order).strict n t u p (omega arith) s.0 r q e)

  module _ (n : ℕ) (t u : X) (ps : List ℕ) (h : n + length ps ≤ most_penalties) (r : Reached M n t) (q : Reached M n u) (s : Small ps) (e : M.lt u t ≡ false) where
    in_reach : n ≤ most_penalties
    in_reach = omega arith

    pub adds_keep : M.lt (adds M u ps) (adds M t ps) ≡ false
    adds_keep =
        elim (cases_Bool (M.lt t u)) [
          | inl d ↦ (level g.order).one_way (n + length ps) (adds M t ps) (adds M u ps) h (reached_adds n t ps r s) (reached_adds n u ps q s) (adds_strict n t u ps h r q s d)
          | inr d ↦ subst (λ v. M.lt (adds M v ps) (adds M t ps) ≡ false) ((level g.order).same n t u in_reach r q d e) (never_under_itself (n + length ps) (adds M t ps) h (reached_adds n t ps r s))
        ]

    pub adds_tie : adds M u ps ≡ adds M t ps → u ≡ t
    adds_tie d =
        elim (cases_Bool (M.lt t u)) [
          | inl c ↦ absurd (both_ways (M.lt (adds M t ps) (adds M u ps)) (subst (λ v. M.lt (adds M t ps) v ≡ false) (sym d) (never_under_itself (n + length ps) (adds M t ps) h (reached_adds n t ps r s))) (adds_strict n t u ps h r q s c))
          | inr c ↦ (level g.order).same n u t in_reach q r e c
        ]

  -- ---- paths

  pub size_of : (n : ℕ) (bs : List ℕ) → Bits n bs → length bs ≡ n
  size_of zero [] h = refl
  size_of zero (b ∷ bs) h = elim h [ ]
  size_of (suc n) [] h = elim h [ ]
  size_of (suc n) (b ∷ bs) h = ap suc (size_of n bs h.1)

  pub in_states : (n : ℕ) (bs : List ℕ) → Bits n bs → ends C bs < C.states
  in_states zero [] h = g.code.some
  in_states zero (b ∷ bs) h = elim h [ ]
  in_states (suc n) [] h = elim h [ ]
  in_states (suc n) (b ∷ bs) h = g.code.stays (ends C bs) b (in_states n bs h.1) h.0

  module _ (k s b : ℕ) (h : s < C.states) (d : b < 2) where
    pub width_of : length (costs k (C.first s b) (C.second s b)) ≡ width k
    width_of = g.paid.count k (C.first s b) (C.second s b) (g.code.first_bit s b h d) (g.code.second_bit s b h d)

    pub small_of : Small (costs k (C.first s b) (C.second s b))
    small_of = g.paid.small k (C.first s b) (C.second s b) (g.code.first_bit s b h d) (g.code.second_bit s b h d)

    pub reached_stepped : (n : ℕ) (t : X) → Reached M n t → Reached M (n + width k) (stepped C M costs k s b t)
    reached_stepped n t r = subst (λ w. Reached M (n + w) (stepped C M costs k s b t)) width_of (reached_adds n t (costs k (C.first s b) (C.second s b)) r small_of)

  -- one more input
  pub total_more : (n s b : ℕ) (bs : List ℕ) → Bits n bs → ends C bs ≡ s → total C M costs (b ∷ bs) ≡ stepped C M costs n s b (total C M costs bs)
  total_more n s b bs h e = let l = size_of n bs h in ap (λ k. stepped C M costs k (ends C bs) b (total C M costs bs)) l ∙ ap (λ q. stepped C M costs n q b (total C M costs bs)) e

  pub reached_total : (n : ℕ) (bs : List ℕ) → Bits n bs → Reached M (most width n) (total C M costs bs)
  reached_total zero [] h = none
  reached_total zero (b ∷ bs) h = elim h [ ]
  reached_total (suc n) [] h = elim h [ ]
  reached_total (suc n) (b ∷ bs) h =
      subst (λ t. Reached M (most width n + width n) t) (sym (total_more n (ends C bs) b bs h.1 refl)) (reached_stepped n (ends C bs) b (in_states n bs h.1) h.0 (most width n) (total C M costs bs) (reached_total n bs h.1))
