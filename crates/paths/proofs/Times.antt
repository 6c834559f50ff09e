-- From the newest input first to the order of time. Assumes nothing.
use Rattle.std.proofs.Common.{◌≡◌, ℕ, zero, suc, ◌+◌, ◌-◌, ◌<◌, false, ◌⊎◌, List, [], ◌∷◌, ◌++◌, reverse, length, get_or, sym, refl, ap, ◌∙◌, subst, inl, inr, arith}
use mathlib.Core.List.{reverse-cons}
use Rattle.std.proofs.lemmas.List.{get_or-reverse, length-reverse, reverse-reverse, length_push, get_or_push, get_or_append_left}
use Rattle.std.proofs.lemmas.Bool.{cases_order}
use Rattle.paths.specs.Codes.{Code}
use Rattle.paths.specs.Paths.{Inputs, end_from, states_from, path_end, path_states}
use Rattle.paths.specs.Orders.{Metric}
use Rattle.paths.specs.Survivors.{stepped, Costs}
use Rattle.paths.specs.Best.{total_from, path_total, Earlier, Preferred, Best}
use Rattle.paths.proofs.Newest.{Bits, ends, trail, Lower, total, Beats, Winner}

-- ---- inputs

pub inputs_bits : (n : ℕ) (bs : List ℕ) → Inputs n bs → Bits n bs
inputs_bits zero [] h = tt
inputs_bits zero (b ∷ bs) h = absurd (omega (arith, h.size))
inputs_bits (suc n) [] h = absurd (omega (arith, h.size))
inputs_bits (suc n) (b ∷ bs) h = (h.bits 0 (omega arith), inputs_bits n bs (record { size = omega (arith, h.size); bits = λ k l. h.bits (suc k) (omega arith) }))

pub bits_inputs : (n : ℕ) (bs : List ℕ) → Bits n bs → Inputs n bs
bits_inputs zero [] h = record { size = refl; bits = λ k l. absurd (omega arith) }
bits_inputs zero (b ∷ bs) h = elim h [ ]
bits_inputs (suc n) [] h = elim h [ ]
bits_inputs (suc n) (b ∷ bs) h = let i = bits_inputs n bs h.1 in record { size = ap suc i.size; bits = at i }
  where
    at : Inputs n bs → (k : ℕ) → k < suc n → get_or (b ∷ bs) k 0 < 2
    at i zero l = h.0
    at i (suc k) l = i.bits k (omega arith)

pub inputs_reverse : (n : ℕ) (bs : List ℕ) → Inputs n bs → Inputs n (reverse bs)
inputs_reverse n bs h = record {
  size = length-reverse bs ∙ h.size;
  bits = λ k l. let i : k < length bs = omega (arith, h.size) in subst (λ x. x < 2) (sym (get_or-reverse bs k 0 i)) (h.bits (length bs - 1 - k) (omega (arith, h.size)));
}

-- ---- one more input at the end

pub end_push : (C : Code) (s : ℕ) (bs : List ℕ) (b : ℕ) → end_from C s (bs ++ (b ∷ [])) ≡ C.next (end_from C s bs) b
end_push C s [] b = refl
end_push C s (x ∷ bs) b = end_push C (C.next s x) bs b

pub states_push : (C : Code) (s : ℕ) (bs : List ℕ) (b : ℕ) → states_from C s (bs ++ (b ∷ [])) ≡ states_from C s bs ++ (C.next (end_from C s bs) b ∷ [])
states_push C s [] b = refl
states_push C s (x ∷ bs) b = ap (λ ys. C.next s x ∷ ys) (states_push C (C.next s x) bs b)

pub total_push : {X : Type 0} (C : Code) (M : Metric X) (costs : Costs) (k s : ℕ) (t : X) (bs : List ℕ) (b : ℕ) → total_from C M costs k s t (bs ++ (b ∷ [])) ≡ stepped C M costs (k + length bs) (end_from C s bs) b (total_from C M costs k s t bs)
total_push C M costs k s t [] b = let e : k ≡ k + 0 = omega arith in ap (λ j. stepped C M costs j s b t) e
total_push C M costs k s t (x ∷ bs) b =
    let e : suc k + length bs ≡ k + suc (length bs) = omega arith in
    let u = total_from C M costs (suc k) (C.next s x) (stepped C M costs k s x t) bs in
    total_push C M costs (suc k) (C.next s x) (stepped C M costs k s x t) bs b ∙ ap (λ j. stepped C M costs j (end_from C (C.next s x) bs) b u) e

-- ---- the three of a path

module _ (C : Code) where
  pub end_reverse : (bs : List ℕ) → path_end C (reverse bs) ≡ ends C bs
  end_reverse [] = refl
  end_reverse (b ∷ bs) = ap (path_end C) (reverse-cons b bs) ∙ end_push C 0 (reverse bs) b ∙ ap (λ s. C.next s b) (end_reverse bs)

  pub states_reverse : (bs : List ℕ) → path_states C (reverse bs) ≡ reverse (trail C bs)
  states_reverse [] = refl
  states_reverse (b ∷ bs) =
      ap (path_states C) (reverse-cons b bs) ∙ states_push C 0 (reverse bs) b ∙ ap (λ s. path_states C (reverse bs) ++ (C.next s b ∷ [])) (end_reverse bs) ∙ ap (λ xs. xs ++ (C.next (ends C bs) b ∷ [])) (states_reverse bs) ∙ sym (reverse-cons (C.next (ends C bs) b) (trail C bs))

  pub total_reverse : {X : Type 0} (M : Metric X) (costs : Costs) (bs : List ℕ) → path_total C M costs (reverse bs) ≡ total C M costs bs
  total_reverse M costs [] = refl
  total_reverse M costs (b ∷ bs) =
      let l : 0 + length (reverse bs) ≡ length bs = omega (arith, length-reverse bs) in
      ap (path_total C M costs) (reverse-cons b bs) ∙ total_push C M costs 0 0 M.start (reverse bs) b ∙ ap (λ k. stepped C M costs k (path_end C (reverse bs)) b (path_total C M costs (reverse bs))) l ∙ ap (λ s. stepped C M costs (length bs) s b (path_total C M costs (reverse bs))) (end_reverse bs) ∙ ap (stepped C M costs (length bs) (ends C bs) b) (total_reverse M costs bs)

  pub trail_size : (bs : List ℕ) → length (trail C bs) ≡ length bs
  trail_size [] = refl
  trail_size (b ∷ bs) = ap suc (trail_size bs)

-- ---- the order of trails

pub lower_earlier : (xs ys : List ℕ) → length xs ≡ length ys → Lower xs ys → Earlier (reverse xs) (reverse ys)
lower_earlier [] ys l h = elim h [ ]
lower_earlier (x ∷ xs) [] l h = elim h [ ]
lower_earlier (x ∷ xs) (y ∷ ys) l h = subst (λ zs. Earlier zs (reverse (y ∷ ys))) (sym (reverse-cons x xs)) (subst (λ zs. Earlier (reverse xs ++ (x ∷ [])) zs) (sym (reverse-cons y ys)) (pushed h (λ k. lower_earlier xs ys (omega arith) k)))
  where
    lx : length (reverse xs) ≡ length xs
    lx = length-reverse xs

    ly : length (reverse ys) ≡ length xs
    ly = omega (arith, length-reverse ys)

    lp : length (reverse xs ++ (x ∷ [])) ≡ length xs + 1
    lp = length_push (reverse xs) x ∙ ap (λ n. n + 1) lx

    at_x : get_or (reverse xs ++ (x ∷ [])) (length xs) 0 ≡ x
    at_x = get_or_push (reverse xs) x 0 (length xs) lx

    at_y : get_or (reverse ys ++ (y ∷ [])) (length xs) 0 ≡ y
    at_y = get_or_push (reverse ys) y 0 (length xs) ly

    before_x : (k : ℕ) → k < length xs → get_or (reverse xs ++ (x ∷ [])) k 0 ≡ get_or (reverse xs) k 0
    before_x k i = get_or_append_left (reverse xs) (x ∷ []) 0 k (omega (arith, lx))

    before_y : (k : ℕ) → k < length xs → get_or (reverse ys ++ (y ∷ [])) k 0 ≡ get_or (reverse ys) k 0
    before_y k i = get_or_append_left (reverse ys) (y ∷ []) 0 k (omega (arith, ly))

    pushed : (x < y) ⊎ ((x ≡ y) × Lower xs ys) → (Lower xs ys → Earlier (reverse xs) (reverse ys)) → Earlier (reverse xs ++ (x ∷ [])) (reverse ys ++ (y ∷ []))
    pushed (inl d) f = record { last = length xs; within = omega (arith, lp); smaller = omega (arith, at_x, at_y); alike = λ k i j. absurd (omega (arith, lp)) }
    pushed (inr d) f =
        let e = f d.1 in
        let i : e.last < length xs = omega (arith, e.within, lx) in
        record {
          last = e.last;
          within = omega (arith, lp);
          smaller = omega (arith, e.smaller, before_x e.last i, before_y e.last i);
          alike = λ k a b.
              elim (cases_order k (length xs)) [
                | inl q ↦ ap (λ m. get_or (reverse xs ++ (x ∷ [])) m 0) q ∙ at_x ∙ d.0 ∙ sym at_y ∙ ap (λ m. get_or (reverse ys ++ (y ∷ [])) m 0) (sym q)
                | inr q ↦
                    elim q [
                      | inl j ↦ before_x k j ∙ e.alike k a (omega (arith, lx)) ∙ sym (before_y k j)
                      | inr j ↦ absurd (omega (arith, lp))
                    ]
              ];
        }

pub never_both_earlier : (xs ys : List ℕ) → length xs ≡ length ys → Earlier xs ys → Earlier ys xs → ⊥
never_both_earlier xs ys l p q =
    elim (cases_order p.last q.last) [
      | inl e ↦ omega (arith, p.smaller, q.smaller, ap (λ k. get_or xs k 0) e, ap (λ k. get_or ys k 0) e)
      | inr d ↦
          elim d [
            | inl e ↦ omega (arith, p.alike q.last e (omega (arith, q.within)), q.smaller)
            | inr e ↦ omega (arith, q.alike p.last e (omega (arith, p.within)), p.smaller)
          ]
    ]

-- ---- the preference

module _ {X : Type 0} (C : Code) (M : Metric X) (costs : Costs) where
  pub beats_preferred : (bs cs : List ℕ) → length bs ≡ length cs → Beats C M costs bs cs → Preferred C M costs (reverse bs) (reverse cs)
  beats_preferred bs cs l h = record {
    not_higher = subst (λ t. M.lt t (path_total C M costs (reverse bs)) ≡ false) (sym (total_reverse C M costs cs)) (subst (λ t. M.lt (total C M costs cs) t ≡ false) (sym (total_reverse C M costs bs)) h.not_higher);
    tie = λ e. turned (h.tie (sym (total_reverse C M costs cs) ∙ e ∙ total_reverse C M costs bs));
  }
    where
      turned : (cs ≡ bs) ⊎ Lower (trail C bs) (trail C cs) → (reverse cs ≡ reverse bs) ⊎ Earlier (path_states C (reverse bs)) (path_states C (reverse cs))
      turned (inl e) = inl (ap reverse e)
      turned (inr d) =
          inr (subst (λ xs. Earlier xs (path_states C (reverse cs))) (sym (states_reverse C bs)) (subst (λ xs. Earlier (reverse (trail C bs)) xs) (sym (states_reverse C cs)) (lower_earlier (trail C bs) (trail C cs) (trail_size C bs ∙ l ∙ sym (trail_size C cs)) d)))

  -- the best by the newest input first is the best in the order of time
  pub winner_best : (n : ℕ) (Q R : List ℕ → Type 0) → ((cs : List ℕ) → Q cs → length cs ≡ n) → ((cs : List ℕ) → Q cs → R (reverse cs)) → ((cs : List ℕ) → R cs → Q (reverse cs)) → (t : X) (bs : List ℕ) → Winner C M costs Q t bs → Best C M costs R t (reverse bs)
  winner_best n Q R sized there back t bs w = record {
    among = there bs w.member;
    total_is = total_reverse C M costs bs ∙ w.sum;
    preferred = λ cs h. subst (Preferred C M costs (reverse bs)) (reverse-reverse cs) (beats_preferred bs (reverse cs) (sized bs w.member ∙ sym (sized (reverse cs) (back cs h))) (w.beats (reverse cs) (back cs h)));
  }
