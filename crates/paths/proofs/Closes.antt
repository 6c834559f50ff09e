-- Closed ends and open ones, and the theorem. Assumes nothing.
use Rattle.std.proofs.Common.{◌≡◌, ℕ, zero, suc, ◌+◌, ◌<◌, ◌≤◌, false, List, [], ◌∷◌, ◌++◌, take, drop, replicate, Some, None, Option, sym, refl, ap, ◌∙◌, subst, inl, inr, append-nil, arith, MatchOption}
use Rattle.std.proofs.lemmas.List.{take_all, take-append-drop, take_at, length-take-le, length-drop, get_or-take, get_or-drop}
use Rattle.paths.specs.Codes.{Code}
use Rattle.paths.specs.Paths.{Inputs, end_from, path_end, path_states}
use Rattle.paths.specs.Endings.{Closer, CloserLaws, Tail, Tail.unclosed, Tail.closed_by, TailLaws, closing, closing_steps, inputs, tail_inputs}
use Rattle.paths.specs.Orders.{Metric, most_penalties}
use Rattle.paths.specs.Survivors.{Costs, survivor_total, survivor_path}
use Rattle.paths.specs.Best.{most, Setting, path_total, Earlier, Preferred, Best, Leading, Ended, BestMessage, BestPath}
use Rattle.paths.proofs.Newest.{Bits}
use Rattle.paths.proofs.Ends.{zero_bits, survivors_best, least_best, least_somewhere, told_by_states, preferred_one}
use Rattle.paths.proofs.Times.{inputs_bits, bits_inputs}

pub end_append : (C : Code) (s : ℕ) (xs ys : List ℕ) → end_from C s (xs ++ ys) ≡ end_from C (end_from C s xs) ys
end_append C s [] ys = refl
end_append C s (x ∷ xs) ys = end_append C (C.next s x) xs ys

pub bits_append : (m n : ℕ) (xs ys : List ℕ) → Bits m xs → Bits n ys → Bits (m + n) (xs ++ ys)
bits_append zero n [] ys h k = let e : n ≡ zero + n = omega arith in subst (λ i. Bits i ys) e k
bits_append zero n (x ∷ xs) ys h k = elim h [ ]
bits_append (suc m) n [] ys h k = elim h [ ]
bits_append (suc m) n (x ∷ xs) ys h k = let e : suc (m + n) ≡ suc m + n = omega arith in subst (λ i. Bits i (x ∷ (xs ++ ys))) e (h.0, bits_append m n xs ys h.1 k)

pub inputs_take : (m n : ℕ) (bs : List ℕ) → Inputs (m + n) bs → Inputs m (take m bs)
inputs_take m n bs h = record {
  size = length-take-le m bs (omega (arith, h.size));
  bits = λ k l. subst (λ x. x < 2) (sym (get_or-take m bs k 0 l)) (h.bits k (omega arith));
}

pub inputs_drop : (m n : ℕ) (bs : List ℕ) → Inputs (m + n) bs → Inputs n (drop m bs)
inputs_drop m n bs h = record {
  size = omega (arith, length-drop m bs, h.size);
  bits = λ k l. subst (λ x. x < 2) (sym (get_or-drop m bs k 0)) (h.bits (m + k) (omega arith));
}

module _ {X : Type 0} {C : Code} {M : Metric X} {costs : Costs} {width : ℕ → ℕ} (g : Setting C M costs width) where
  pub end_stays : (n s : ℕ) (bs : List ℕ) → s < C.states → Bits n bs → end_from C s bs < C.states
  end_stays zero s [] hs h = hs
  end_stays zero s (b ∷ bs) hs h = elim h [ ]
  end_stays (suc n) s [] hs h = elim h [ ]
  end_stays (suc n) s (b ∷ bs) hs h = end_stays n (C.next s b) bs (g.code.stays s b hs h.0) h.1

  module _ (E : Closer) (laws : CloserLaws C E) where
    closing_bits : (n s : ℕ) → s < C.states → Bits n (closing C E n s)
    closing_bits zero s hs = tt
    closing_bits (suc n) s hs = (laws.bit s hs, closing_bits n (C.next s (E.close s)) (g.code.stays s (E.close s) hs (laws.bit s hs)))

    pub closed_leads : (m : ℕ) (bs : List ℕ) → Inputs m bs → Leading C (m + E.memory) 0 (inputs C (closed_by E) bs)
    closed_leads m bs h =
        let b = inputs_bits m bs h in
        let hs = end_stays m 0 bs g.code.some b in
        record {
          inputs = bits_inputs (m + E.memory) (inputs C (closed_by E) bs) (bits_append m E.memory bs (closing C E E.memory (path_end C bs)) b (closing_bits E.memory (path_end C bs) hs));
          leads = end_append C 0 bs (closing C E E.memory (path_end C bs)) ∙ laws.home (path_end C bs) hs;
        }

    -- a path to state 0 ends in the closing inputs of what comes before them
    pub leads_closed : (m : ℕ) (ps : List ℕ) → Leading C (m + E.memory) 0 ps → ps ≡ inputs C (closed_by E) (take m ps)
    leads_closed m ps h =
        let ms = take m ps in
        let im = inputs_take m E.memory ps h.inputs in
        let hs = end_stays m 0 ms g.code.some (inputs_bits m ms im) in
        let e = take-append-drop m ps in
        sym e ∙ ap (λ ds. ms ++ ds) (laws.only (path_end C ms) (drop m ps) hs (inputs_drop m E.memory ps h.inputs) (sym (end_append C 0 ms (drop m ps)) ∙ ap (path_end C) e ∙ h.leads))

    module _ (m : ℕ) (fits : most width (m + E.memory) ≤ most_penalties) where
      message_best : (t : X) (ps : List ℕ) → Best C M costs (Leading C (m + E.memory) 0) t ps → BestMessage C M costs (closed_by E) m t (take m ps)
      message_best t ps b =
          let e = leads_closed m ps b.among in
          let im = inputs_take m E.memory ps b.among.inputs in
          record {
            bits = im;
            own = ap (path_total C M costs) (sym e) ∙ b.total_is;
            not_lower = λ cs h. subst (λ u. M.lt (path_total C M costs (inputs C (closed_by E) cs)) u ≡ false) b.total_is (b.preferred (inputs C (closed_by E) cs) (closed_leads m cs h)).not_higher;
            tie = λ cs h d.
                elim ((b.preferred (inputs C (closed_by E) cs) (closed_leads m cs h)).tie (d ∙ sym b.total_is)) [
                  | inl q ↦ inl (sym (take_at cs (closing C E E.memory (path_end C cs)) m h.size) ∙ ap (take m) q)
                  | inr q ↦ inr (subst (λ xs. Earlier (path_states C xs) (path_states C (inputs C (closed_by E) cs))) e q)
                ];
          }

      closed_best : (t : X) × (survivor_total C M costs (m + E.memory) 0 ≡ Some t) × BestMessage C M costs (closed_by E) m t (take m (survivor_path C M costs (m + E.memory) 0))
      closed_best = told (survivor_total C M costs n 0) refl (survivors_best g n fits 0 g.code.some)
        where
          n : ℕ
          n = m + E.memory

          ps : List ℕ
          ps = survivor_path C M costs n 0

          told : (o : Option X) → survivor_total C M costs n 0 ≡ o → MatchOption o ((cs : List ℕ) → Leading C n 0 cs → ⊥) (λ t. Best C M costs (Leading C n 0) t ps) → (t : X) × (survivor_total C M costs n 0 ≡ Some t) × BestMessage C M costs (closed_by E) m t (take m ps)
          told None e none = absurd (none (inputs C (closed_by E) (replicate m 0)) (closed_leads m (replicate m 0) (bits_inputs m (replicate m 0) (zero_bits m))))
          told (Some t) e b = (t, e, message_best t ps b)

  -- ---- an open end

  open_best : (m : ℕ) (t : X) (ps : List ℕ) → Best C M costs (Inputs m) t ps → BestMessage C M costs unclosed m t ps
  open_best m t ps b = record {
    bits = b.among;
    own = ap (path_total C M costs) (append-nil ps) ∙ b.total_is;
    not_lower = λ cs h. subst (λ xs. M.lt (path_total C M costs xs) t ≡ false) (sym (append-nil cs)) (subst (λ u. M.lt (path_total C M costs cs) u ≡ false) b.total_is (b.preferred cs h).not_higher);
    tie = λ cs h d.
        elim ((b.preferred cs h).tie (ap (path_total C M costs) (sym (append-nil cs)) ∙ d ∙ sym b.total_is)) [
          | inl q ↦ inl q
          | inr q ↦ inr (subst (λ xs. Earlier (path_states C xs) (path_states C (inputs C unclosed cs))) (sym (append-nil ps)) (subst (λ xs. Earlier (path_states C ps) (path_states C xs)) (sym (append-nil cs)) q))
        ];
  }

  -- ---- either

  module _ (n : ℕ) (fits : most width n ≤ most_penalties) where
    -- the closed end, at n steps in all
    at_zero : (E : Closer) → CloserLaws C E → (m : ℕ) → m + E.memory ≡ n → (t : X) × (survivor_total C M costs n 0 ≡ Some t) × BestMessage C M costs (closed_by E) m t (take m (survivor_path C M costs n 0))
    at_zero E laws m e =
        subst (λ k. (t : X) × (survivor_total C M costs k 0 ≡ Some t) × BestMessage C M costs (closed_by E) m t (take m (survivor_path C M costs k 0))) e (closed_best E laws m (subst (λ k. most width k ≤ most_penalties) (sym e) fits))

    pub ends_best : (T : Tail) → TailLaws C T → (m : ℕ) → m + closing_steps T ≡ n → (s : ℕ) (t : X) → Ended M T (survivor_total C M costs n) C.states s t → BestMessage C M costs T m t (take m (survivor_path C M costs n s))
    ends_best unclosed laws m e s t least =
        let k : m ≡ n = omega arith in
        let b = least_best g n fits s t least in
        let full : take m (survivor_path C M costs n s) ≡ survivor_path C M costs n s = take_all m (survivor_path C M costs n s) (omega (arith, b.among.size)) in
        subst (λ ps. BestMessage C M costs unclosed m t ps) (sym full) (open_best m t (survivor_path C M costs n s) (subst (λ i. Best C M costs (Inputs i) t (survivor_path C M costs n s)) (sym k) b))
    ends_best (closed_by E) laws m e s t end =
        let z = at_zero E laws m e in
        let same : z.0 ≡ t = some_same (sym z.1 ∙ end.1) in
        subst (λ i. BestMessage C M costs (closed_by E) m t (take m (survivor_path C M costs n i))) (sym end.0) (subst (λ u. BestMessage C M costs (closed_by E) m u (take m (survivor_path C M costs n 0))) same z.2)
      where
        some_same : {u v : X} → Some u ≡ Some v → u ≡ v
        some_same h = cc

    pub some_end : (T : Tail) → TailLaws C T → (m : ℕ) → m + closing_steps T ≡ n → (s : ℕ) × ((t : X) × Ended M T (survivor_total C M costs n) C.states s t)
    some_end unclosed laws m e = least_somewhere g n fits
    some_end (closed_by E) laws m e = let z = at_zero E laws m e in (0, (z.0, (refl, z.1)))

    -- ---- one best message

    -- a message with its closing inputs has n inputs
    inputs_inputs : (T : Tail) → TailLaws C T → (m : ℕ) → m + closing_steps T ≡ n → (ms : List ℕ) → Inputs m ms → Inputs n (inputs C T ms)
    inputs_inputs unclosed laws m e ms h = let k : m ≡ n = omega arith in subst (Inputs n) (sym (append-nil ms)) (subst (λ i. Inputs i ms) k h)
    inputs_inputs (closed_by E) laws m e ms h = subst (λ i. Inputs i (inputs C (closed_by E) ms)) e (closed_leads E laws m ms h).inputs

    -- of two messages the first is preferred, closing inputs and all
    prefers : (T : Tail) (m : ℕ) (t : X) (ms rs : List ℕ) → BestMessage C M costs T m t ms → Inputs m rs → Preferred C M costs (inputs C T ms) (inputs C T rs)
    prefers T m t ms rs b h = record {
      not_higher = subst (λ u. M.lt (path_total C M costs (inputs C T rs)) u ≡ false) (sym b.own) (b.not_lower rs h);
      tie = λ d. elim (b.tie rs h (d ∙ b.own)) [ inl q ↦ inl (ap (inputs C T) q) | inr q ↦ inr q ];
    }

    pub one_best : (T : Tail) → TailLaws C T → (m : ℕ) → m + closing_steps T ≡ n → (t u : X) (ms rs : List ℕ) → BestMessage C M costs T m t ms → BestMessage C M costs T m u rs → ms ≡ rs
    one_best T laws m e t u ms rs b d =
        let same = preferred_one g n fits (inputs C T ms) (inputs C T rs) (inputs_inputs T laws m e ms b.bits) (inputs_inputs T laws m e rs d.bits) (prefers T m t ms rs b d.bits) (prefers T m u rs ms d b.bits) in
        sym (take_at ms (tail_inputs C T (path_end C ms)) m b.bits.size) ∙ ap (take m) same ∙ take_at rs (tail_inputs C T (path_end C rs)) m d.bits.size

pub best_path : {X : Type 0} → BestPath X
best_path C M costs width g n fits = record {
  survivors = survivors_best g n fits;
  ends_best = ends_best g n fits;
  some_end = some_end g n fits;
  apart = told_by_states g n;
  one_best = one_best g n fits;
}
