-- The survivor of a state is the best path into it. Assumes nothing.
use Rattle.std.proofs.Common.{◌≡◌, ℕ, zero, suc, ◌<◌, ◌≤◌, Bool, true, false, cond, eqb, ◌⊎◌, List, [], ◌∷◌, Some, None, Option, sym, refl, ap, ◌∙◌, subst, inl, inr, arith}
use Rattle.std.proofs.lemmas.Bool.{eqb-true, eqb-false}
use Rattle.paths.specs.Codes.{Branch, Code, Takes, Enters}
use Rattle.paths.specs.Orders.{Metric, most_penalties}
use Rattle.paths.specs.Survivors.{stepped, Costs, along, survivor_total, came_higher, arrival, traced, survivor}
use Rattle.paths.specs.Best.{most, Setting}
use Rattle.paths.proofs.Newest.{ends, trail, Lower, Beats, Won, Into}
use Rattle.paths.proofs.Beating.{lower_ends, beats_itself, beats_more, merged}
use Rattle.paths.proofs.Totals.{total_more, in_states}

-- the last branch of a path is r, and n inputs come before it
abbrev Via : Code → ℕ → Branch → List ℕ → Type 0
Via C n r [] = ⊥
Via C n r (b ∷ bs) = (b ≡ r.input) × Into C n r.from bs

via_into : {C : Code} (n s : ℕ) (r : Branch) → Enters C s r → (cs : List ℕ) → Via C n r cs → Into C (suc n) s cs
via_into n s r h [] v = elim v [ ]
via_into {C} n s r h (b ∷ bs) v = record {
  bits = (omega (arith, v.0, h.by_bit), v.1.bits);
  arrives = ap (λ x. C.next x b) v.1.arrives ∙ ap (C.next r.from) v.0 ∙ h.into;
}

arrived : (C : Code) (F : ℕ → List ℕ) (s : ℕ) (c : Bool) → cond c ((C.higher s).input ∷ F (C.higher s).from) ((C.lower s).input ∷ F (C.lower s).from) ≡ (arrival C c s).input ∷ F (arrival C c s).from
arrived C F s true = refl
arrived C F s false = refl

module _ {X : Type 0} {C : Code} {M : Metric X} {costs : Costs} {width : ℕ → ℕ} (g : Setting C M costs width) where
  along_won : (n s : ℕ) (r : Branch) → most width (suc n) ≤ most_penalties → Enters C s r → (o : Option X) (bs : List ℕ) → Won C M costs (Into C n r.from) o bs → Won C M costs (Via C n r) (along C M costs n r o) (r.input ∷ bs)
  along_won n s r fits h None bs w = never
    where
      never : (cs : List ℕ) → Via C n r cs → ⊥
      never [] v = v
      never (c ∷ cs) v = w cs v.1
  along_won n s r fits h (Some t) bs w = record {
    member = (refl, w.member);
    sum = total_more g n r.from r.input bs w.member.bits w.member.arrives ∙ ap (stepped C M costs n r.from r.input) w.sum;
    beats = rivals;
  }
    where
      rivals : (cs : List ℕ) → Via C n r cs → Beats C M costs (r.input ∷ bs) cs
      rivals [] v = elim v [ ]
      rivals (c ∷ cs) v =
          subst (λ x. Beats C M costs (r.input ∷ bs) (x ∷ cs)) (sym v.0) (beats_more g n r.from r.input bs cs fits h.by_bit w.member.bits v.1.bits w.member.arrives v.1.arrives (w.beats cs v.1))

  module _ (n s : ℕ) (hs : s < C.states) where
    by_either : (cs : List ℕ) → Into C (suc n) s cs → Via C n (C.lower s) cs ⊎ Via C n (C.higher s) cs
    by_either [] h = absurd h.bits
    by_either (b ∷ bs) h = named (subst (λ x. Takes (ends C bs) b (C.lower x) ⊎ Takes (ends C bs) b (C.higher x)) h.arrives (g.code.only (ends C bs) b (in_states g n bs h.bits.1) h.bits.0))
      where
        named : Takes (ends C bs) b (C.lower s) ⊎ Takes (ends C bs) b (C.higher s) → Via C n (C.lower s) (b ∷ bs) ⊎ Via C n (C.higher s) (b ∷ bs)
        named (inl e) = inl (e.input_is, record { bits = h.bits.1; arrives = e.from_is })
        named (inr e) = inr (e.input_is, record { bits = h.bits.1; arrives = e.from_is })

    lower_below : (bs cs : List ℕ) → Via C n (C.lower s) bs → Via C n (C.higher s) cs → Lower (trail C bs) (trail C cs)
    lower_below [] cs v w = elim v [ ]
    lower_below (b ∷ bs) [] v w = elim w [ ]
    lower_below (b ∷ bs) (c ∷ cs) v w =
        inr ((via_into n s (C.lower s) (g.code.lower_enters s hs) (b ∷ bs) v).arrives ∙ sym (via_into n s (C.higher s) (g.code.higher_enters s hs) (c ∷ cs) w).arrives, lower_ends g n bs cs v.1.bits w.1.bits (omega (arith, v.1.arrives, w.1.arrives, g.code.apart s hs)))

  none_yet : (s : ℕ) → 0 ≤ most_penalties → (c : Bool) → eqb s 0 ≡ c → Won C M costs (Into C 0 s) (cond c (Some M.start) None) []
  none_yet s fits true e = record { member = record { bits = tt; arrives = sym (eqb-true s 0 e) }; sum = refl; beats = rivals }
    where
      rivals : (cs : List ℕ) → Into C 0 s cs → Beats C M costs [] cs
      rivals [] h = beats_itself g 0 fits [] tt
      rivals (c ∷ cs) h = absurd h.bits
  none_yet s fits false e = never
    where
      never : (cs : List ℕ) → Into C 0 s cs → ⊥
      never [] h = eqb-false s 0 e (sym h.arrives)
      never (c ∷ cs) h = h.bits

  -- Each state's survivor is the best path into it.
  pub survives : (n : ℕ) → most width n ≤ most_penalties → (s : ℕ) → s < C.states → Won C M costs (Into C n s) (survivor_total C M costs n s) (survivor C M costs n s)
  unfolding survivor_total traced came_higher
  survives zero fits s hs = none_yet s fits (eqb s 0) refl
  survives (suc n) fits s hs =
      let l = C.lower s in
      let h = C.higher s in
      let le = g.code.lower_enters s hs in
      let he = g.code.higher_enters s hs in
      let lw = along_won n s l fits le (survivor_total C M costs n l.from) (survivor C M costs n l.from) (survives n (omega arith) l.from le.from_state) in
      let hw = along_won n s h fits he (survivor_total C M costs n h.from) (survivor C M costs n h.from) (survives n (omega arith) h.from he.from_state) in
      subst (λ bs. Won C M costs (Into C (suc n) s) (survivor_total C M costs (suc n) s) bs) (arrived C (survivor C M costs n) s (came_higher C M costs n s))
      (merged g (suc n) fits (Into C (suc n) s) (Via C n l) (Via C n h) (λ cs p. p.bits) (via_into n s l le) (via_into n s h he) (by_either n s hs) (lower_below n s hs) (along C M costs n l (survivor_total C M costs n l.from)) (along C M costs n h (survivor_total C M costs n h.from)) (l.input ∷ survivor C M costs n l.from) (h.input ∷ survivor C M costs n h.from) lw hw)
