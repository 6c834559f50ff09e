-- The search for the least total, state by state. Assumes nothing.
use Rattle.std.proofs.Common.{◌≡◌, ℕ, zero, suc, ◌+◌, ◌<◌, ◌≤◌, true, false, ◌⊎◌, Some, None, Option, sym, refl, ap, ◌∙◌, subst, inl, inr, arith}
use Rattle.std.proofs.lemmas.Bool.{both_ways, cases_Bool, cases_order}
use Rattle.paths.specs.Orders.{Metric, Bears, OrderLaws}
use Rattle.paths.specs.Best.{Least}

pub no_some : {X : Type 0} {v : X} → None ≡ Some v → ⊥
no_some p = let z : ◌≡◌ {A = ℕ} 0 1 = cc in omega arith

-- the totals of the states below `size` are within the order's laws
module _ {X : Type 0} {M : Metric X} (laws : OrderLaws M) (totals : ℕ → Option X) (size : ℕ) (reach : (k : ℕ) (u : X) → k < size → totals k ≡ Some u → Bears M 0 u) where
  not_under : (u : X) → Bears M 0 u → M.lt u u ≡ false
  not_under u r = elim (cases_Bool (M.lt u u)) [ inl e ↦ laws.one_way u u r r e | inr e ↦ e ]

  same_total : (k j : ℕ) (v u : X) → k ≡ j → totals k ≡ Some v → totals j ≡ Some u → v ≡ u
  same_total k j v u q ek e = let d = ap totals q in cc

  pub least_begins : (j : ℕ) (u : X) → ((k : ℕ) → k < j → totals k ≡ None) → j < size → totals j ≡ Some u → Least M totals (j + 1) j u
  least_begins j u none hj e = record {
    inside = omega arith;
    has = e;
    lowest = λ k v hk ek.
        elim (cases_order k j) [
          | inl q ↦ subst (λ x. M.lt x u ≡ false) (sym (same_total k j v u q ek e)) (not_under u (reach j u hj e))
          | inr q ↦ elim q [ inl l ↦ absurd (no_some (sym (none k l) ∙ ek)) | inr l ↦ absurd (omega arith) ]
        ];
    first = λ k v hk ek. absurd (no_some (sym (none k hk) ∙ ek));
  }

  module _ (j s : ℕ) (t : X) (least : Least M totals j s t) (hj : j < size) where
    rt : Bears M 0 t
    rt = reach s t (omega (arith, least.inside)) least.has

    pub least_skips : totals j ≡ None → Least M totals (j + 1) s t
    least_skips e = record {
      inside = omega (arith, least.inside);
      has = least.has;
      lowest = λ k v hk ek.
          elim (cases_order k j) [
            | inl q ↦ absurd (no_some (sym e ∙ sym (ap totals q) ∙ ek))
            | inr q ↦ elim q [ inl l ↦ least.lowest k v l ek | inr l ↦ absurd (omega arith) ]
          ];
      first = least.first;
    }

    pub least_keeps : (u : X) → totals j ≡ Some u → M.lt u t ≡ false → Least M totals (j + 1) s t
    least_keeps u e c = record {
      inside = omega (arith, least.inside);
      has = least.has;
      lowest = λ k v hk ek.
          elim (cases_order k j) [
            | inl q ↦ subst (λ x. M.lt x t ≡ false) (sym (same_total k j v u q ek e)) c
            | inr q ↦ elim q [ inl l ↦ least.lowest k v l ek | inr l ↦ absurd (omega arith) ]
          ];
      first = least.first;
    }

    pub least_takes : (u : X) → totals j ≡ Some u → M.lt u t ≡ true → Least M totals (j + 1) j u
    least_takes u e c = record {
      inside = omega arith;
      has = e;
      lowest = λ k v hk ek.
          elim (cases_order k j) [
            | inl q ↦ subst (λ x. M.lt x u ≡ false) (sym (same_total k j v u q ek e)) (not_under u ru)
            | inr q ↦ elim q [ inl l ↦ laws.chain v t u (reach k v (omega arith) ek) rt ru (least.lowest k v l ek) (laws.one_way u t ru rt c) | inr l ↦ absurd (omega arith) ]
          ];
      first = λ k v hk ek.
          elim (cases_Bool (M.lt u v)) [
            | inl d ↦ d
            | inr d ↦ absurd (both_ways (M.lt u t) (laws.chain u v t ru (reach k v (omega arith) ek) rt d (least.lowest k v hk ek)) c)
          ];
    }
      where
        ru : Bears M 0 u
        ru = reach j u hj e

  pub searched : (j : ℕ) → j ≤ size → ((k : ℕ) → k < j → totals k ≡ None) ⊎ ((s : ℕ) × ((t : X) × Least M totals j s t))
  searched zero h = inl (λ k l. absurd (omega arith))
  searched (suc j) h = told (totals j) refl (searched j (omega arith))
    where
      e1 : j + 1 ≡ suc j
      e1 = omega arith

      up : (s : ℕ) (t : X) → Least M totals (j + 1) s t → ((k : ℕ) → k < suc j → totals k ≡ None) ⊎ ((s : ℕ) × ((t : X) × Least M totals (suc j) s t))
      up s t l = inr (s, (t, subst (λ i. Least M totals i s t) e1 l))

      told : (o : Option X) → totals j ≡ o → ((k : ℕ) → k < j → totals k ≡ None) ⊎ ((s : ℕ) × ((t : X) × Least M totals j s t)) → ((k : ℕ) → k < suc j → totals k ≡ None) ⊎ ((s : ℕ) × ((t : X) × Least M totals (suc j) s t))
      told None e (inl none) = inl (λ k l. elim (cases_order k j) [ inl q ↦ ap totals q ∙ e | inr q ↦ elim q [ inl i ↦ none k i | inr i ↦ absurd (omega arith) ] ])
      told None e (inr r) = up r.0 r.1.0 (least_skips j r.0 r.1.0 r.1.1 (omega arith) e)
      told (Some u) e (inl none) = up j u (least_begins j u none (omega arith) e)
      told (Some u) e (inr r) =
          elim (cases_Bool (M.lt u r.1.0)) [
            | inl c ↦ up j u (least_takes j r.0 r.1.0 r.1.1 (omega arith) u e c)
            | inr c ↦ up r.0 r.1.0 (least_keeps j r.0 r.1.0 r.1.1 (omega arith) u e c)
          ]
