-- Survivors in the order of time, the open end, and that a path is told by its states. Assumes nothing.
use Rattle.std.proofs.Common.{◌≡◌, ℕ, zero, suc, ◌<◌, ◌≤◌, false, ◌⊎◌, List, [], ◌∷◌, reverse, length, replicate, Some, None, Option, sym, refl, ap, ◌∙◌, subst, inl, inr, arith, MatchOption}
use Rattle.std.proofs.lemmas.List.{reverse-reverse}
use Rattle.std.proofs.lemmas.Bool.{both_ways, cases_order}
use Rattle.paths.specs.Codes.{Code, Takes}
use Rattle.paths.specs.Paths.{Inputs, path_end, path_states, states_from}
use Rattle.paths.specs.Orders.{Metric, Reached, Bears, most_penalties}
use Rattle.paths.specs.Survivors.{Costs, survivor_total, survivor, survivor_path}
use Rattle.paths.specs.Best.{most, Setting, path_total, Preferred, Best, Leading, Least}
use Rattle.paths.proofs.Newest.{Bits, ends, trail, total, Beats, Winner, Won, Into}
use Rattle.paths.proofs.Beating.{lower_ends, beats_chain}
use Rattle.paths.proofs.Leasts.{no_some, searched}
use Rattle.paths.proofs.Surviving.{survives}
use Rattle.paths.proofs.Times.{inputs_bits, bits_inputs, inputs_reverse, end_reverse, states_reverse, total_reverse, never_both_earlier, winner_best}
use Rattle.paths.proofs.Totals.{level, bears, never_under_itself, size_of, in_states, reached_total}

pub zero_bits : (n : ℕ) → Bits n (replicate n 0)
zero_bits zero = tt
zero_bits (suc n) = (omega arith, zero_bits n)

-- ---- paths to a state, the two ways

into_leading : {C : Code} (n s : ℕ) (cs : List ℕ) → Into C n s cs → Leading C n s (reverse cs)
into_leading {C} n s cs h = record { inputs = inputs_reverse n cs (bits_inputs n cs h.bits); leads = end_reverse C cs ∙ h.arrives }

leading_into : {C : Code} (n s : ℕ) (cs : List ℕ) → Leading C n s cs → Into C n s (reverse cs)
leading_into {C} n s cs h = record {
  bits = inputs_bits n (reverse cs) (inputs_reverse n cs h.inputs);
  arrives = sym (end_reverse C (reverse cs)) ∙ ap (path_end C) (reverse-reverse cs) ∙ h.leads;
}

pub states_size : (C : Code) (s : ℕ) (bs : List ℕ) → length (states_from C s bs) ≡ length bs
states_size C s [] = refl
states_size C s (b ∷ bs) = ap suc (states_size C (C.next s b) bs)

module _ {X : Type 0} {C : Code} {M : Metric X} {costs : Costs} {width : ℕ → ℕ} (g : Setting C M costs width) where
  module _ (n : ℕ) (fits : most width n ≤ most_penalties) where
    -- ---- a state's survivor

    won_best : (s : ℕ) (o : Option X) (bs : List ℕ) → Won C M costs (Into C n s) o bs → MatchOption o ((cs : List ℕ) → Leading C n s cs → ⊥) (λ t. Best C M costs (Leading C n s) t (reverse bs))
    won_best s None bs w = λ cs h. w (reverse cs) (leading_into n s cs h)
    won_best s (Some t) bs w = winner_best C M costs n (Into C n s) (Leading C n s) (λ cs h. size_of g n cs h.bits) (into_leading n s) (leading_into n s) t bs w

    pub survivors_best : (s : ℕ) → s < C.states → MatchOption (survivor_total C M costs n s) ((cs : List ℕ) → Leading C n s cs → ⊥) (λ t. Best C M costs (Leading C n s) t (survivor_path C M costs n s))
    survivors_best s hs = won_best s (survivor_total C M costs n s) (survivor C M costs n s) (survives g n fits s hs)

    -- ---- the open end

    pub winner_of : (s : ℕ) (t : X) → s < C.states → survivor_total C M costs n s ≡ Some t → Winner C M costs (Into C n s) t (survivor C M costs n s)
    winner_of s t hs e = subst (λ o. Won C M costs (Into C n s) o (survivor C M costs n s)) e (survives g n fits s hs)

    pub reached_survivor : (s : ℕ) (t : X) → s < C.states → survivor_total C M costs n s ≡ Some t → Reached M (most width n) t
    reached_survivor s t hs e = let w = winner_of s t hs e in subst (Reached M (most width n)) w.sum (reached_total g n (survivor C M costs n s) w.member.bits)

    pub bears_survivor : (s : ℕ) (t : X) → s < C.states → survivor_total C M costs n s ≡ Some t → Bears M 0 t
    bears_survivor s t hs e = bears 0 (most width n) t (omega arith) (reached_survivor s t hs e)

    -- some state's survivor is at least as good as a path, and it is that to which the path leads
    survivor_exists : (s : ℕ) → s < C.states → (cs : List ℕ) → Into C n s cs → (u : X) × (survivor_total C M costs n s ≡ Some u)
    survivor_exists s hs cs h = told (survivor_total C M costs n s) refl
      where
        told : (o : Option X) → survivor_total C M costs n s ≡ o → (u : X) × (survivor_total C M costs n s ≡ Some u)
        told None e = absurd (let w : Won C M costs (Into C n s) None (survivor C M costs n s) = subst (λ o. Won C M costs (Into C n s) o (survivor C M costs n s)) e (survives g n fits s hs) in w cs h)
        told (Some u) e = (u, e)

    module _ (s : ℕ) (t : X) (least : Least M (survivor_total C M costs n) C.states s t) where
      won : Winner C M costs (Into C n s) t (survivor C M costs n s)
      won = winner_of s t least.inside least.has

      over_survivor : (k : ℕ) (u : X) → k < C.states → survivor_total C M costs n k ≡ Some u → Winner C M costs (Into C n k) u (survivor C M costs n k) → Beats C M costs (survivor C M costs n s) (survivor C M costs n k)
      over_survivor k u hk e w = record {
        not_higher = subst (λ x. M.lt x (total C M costs (survivor C M costs n s)) ≡ false) (sym w.sum) (subst (λ x. M.lt u x ≡ false) (sym won.sum) (least.lowest k u hk e));
        tie = λ d.
            elim (cases_order k s) [
              | inl q ↦ inl (ap (survivor C M costs n) q)
              | inr q ↦
                  elim q [
                    | inl l ↦ absurd (both_ways (M.lt t u) (subst (λ x. M.lt t x ≡ false) (sym won.sum ∙ sym d ∙ w.sum) (never_under_itself g (most width n) t fits (reached_survivor s t least.inside least.has))) (least.first k u l e))
                    | inr l ↦ inr (lower_ends g n (survivor C M costs n s) (survivor C M costs n k) won.member.bits w.member.bits (omega (arith, won.member.arrives, w.member.arrives)))
                  ]
            ];
      }

      over_path : (cs : List ℕ) → Bits n cs → Beats C M costs (survivor C M costs n s) cs
      over_path cs h =
          let k = ends C cs in
          let hk = in_states g n cs h in
          let i : Into C n (ends C cs) cs = record { bits = h; arrives = refl } in
          let u = survivor_exists k hk cs i in
          let w = winner_of k u.0 hk u.1 in
          beats_chain g n fits (survivor C M costs n s) (survivor C M costs n k) cs won.member.bits w.member.bits h (over_survivor k u.0 hk u.1 w) (w.beats cs i)

      pub least_best : Best C M costs (Inputs n) t (survivor_path C M costs n s)
      least_best =
          winner_best C M costs n (Bits n) (Inputs n) (size_of g n) (λ cs h. inputs_reverse n cs (bits_inputs n cs h)) (λ cs h. inputs_bits n (reverse cs) (inputs_reverse n cs h)) t (survivor C M costs n s) (record { member = won.member.bits; sum = won.sum; beats = over_path })

    pub least_somewhere : (s : ℕ) × ((t : X) × Least M (survivor_total C M costs n) C.states s t)
    least_somewhere =
        elim (searched g.order (survivor_total C M costs n) C.states bears_survivor C.states (omega arith)) [
          | inl none ↦
              let cs = replicate n 0 in
              let h = zero_bits n in
              let hk = in_states g n cs h in
              let u = survivor_exists (ends C cs) hk cs (record { bits = h; arrives = refl }) in
              absurd (no_some (sym (none (ends C cs) hk) ∙ u.1))
          | inr r ↦ r
        ]

  -- ---- other inputs, other states

  same_input : (p b c : ℕ) → p < C.states → b < 2 → c < 2 → C.next p b ≡ C.next p c → b ≡ c
  same_input p b c hp hb hc e = told (g.code.only p b hp hb) (subst (λ s. Takes p c (C.lower s) ⊎ Takes p c (C.higher s)) (sym e) (g.code.only p c hp hc))
    where
      s : ℕ
      s = C.next p b

      split : (C.lower s).from < (C.higher s).from
      split = g.code.apart s (g.code.stays p b hp hb)

      told : Takes p b (C.lower s) ⊎ Takes p b (C.higher s) → Takes p c (C.lower s) ⊎ Takes p c (C.higher s) → b ≡ c
      told (inl x) (inl y) = x.input_is ∙ sym y.input_is
      told (inl x) (inr y) = absurd (omega (arith, x.from_is, y.from_is, split))
      told (inr x) (inl y) = absurd (omega (arith, x.from_is, y.from_is, split))
      told (inr x) (inr y) = x.input_is ∙ sym y.input_is

  same_trail : (n : ℕ) (bs cs : List ℕ) → Bits n bs → Bits n cs → trail C bs ≡ trail C cs → bs ≡ cs
  same_trail zero [] [] h k e = refl
  same_trail zero [] (c ∷ cs) h k e = elim k [ ]
  same_trail zero (b ∷ bs) cs h k e = elim h [ ]
  same_trail (suc n) [] cs h k e = elim h [ ]
  same_trail (suc n) (b ∷ bs) [] h k e = elim k [ ]
  same_trail (suc n) (b ∷ bs) (c ∷ cs) h k e =
      let here : C.next (ends C bs) b ≡ C.next (ends C cs) c = cc in
      let tails : trail C bs ≡ trail C cs = cc in
      let d = same_trail n bs cs h.1 k.1 tails in
      let q : b ≡ c = same_input (ends C bs) b c (in_states g n bs h.1) h.0 k.0 (here ∙ ap (λ xs. C.next (ends C xs) c) (sym d)) in
      cc

  pub told_by_states : (n : ℕ) (bs cs : List ℕ) → Inputs n bs → Inputs n cs → path_states C bs ≡ path_states C cs → bs ≡ cs
  told_by_states n bs cs h k e =
      let turned : (xs : List ℕ) → path_states C xs ≡ reverse (trail C (reverse xs)) = λ xs. sym (ap (path_states C) (reverse-reverse xs)) ∙ states_reverse C (reverse xs) in
      let both : trail C (reverse bs) ≡ trail C (reverse cs) = sym (reverse-reverse (trail C (reverse bs))) ∙ ap reverse (sym (turned bs) ∙ e ∙ turned cs) ∙ reverse-reverse (trail C (reverse cs)) in
      sym (reverse-reverse bs) ∙ ap reverse (same_trail n (reverse bs) (reverse cs) (inputs_bits n (reverse bs) (inputs_reverse n bs h)) (inputs_bits n (reverse cs) (inputs_reverse n cs k)) both) ∙ reverse-reverse cs

  -- ---- one best path

  reached_path : (n : ℕ) (bs : List ℕ) → Inputs n bs → Reached M (most width n) (path_total C M costs bs)
  reached_path n bs h =
      let e : total C M costs (reverse bs) ≡ path_total C M costs bs = sym (total_reverse C M costs (reverse bs)) ∙ ap (path_total C M costs) (reverse-reverse bs) in
      subst (Reached M (most width n)) e (reached_total g n (reverse bs) (inputs_bits n (reverse bs) (inputs_reverse n bs h)))

  pub preferred_one : (n : ℕ) → most width n ≤ most_penalties → (bs cs : List ℕ) → Inputs n bs → Inputs n cs → Preferred C M costs bs cs → Preferred C M costs cs bs → bs ≡ cs
  preferred_one n fits bs cs h k p q =
      let e : path_total C M costs bs ≡ path_total C M costs cs = (level g.order).same (most width n) (path_total C M costs bs) (path_total C M costs cs) fits (reached_path n bs h) (reached_path n cs k) q.not_higher p.not_higher in
      elim (p.tie (sym e)) [
        | inl d ↦ sym d
        | inr d ↦
            elim (q.tie e) [
              | inl f ↦ f
              | inr f ↦ absurd (never_both_earlier (path_states C bs) (path_states C cs) (states_size C 0 bs ∙ h.size ∙ sym k.size ∙ sym (states_size C 0 cs)) d f)
            ]
      ]
