-- A path's total by steps is the message's total by positions: the best message has the least total, and is the only one. Assumes nothing.
use Rattle.std.proofs.Common.{◌≡◌, ℕ, suc, ◌+◌, ◌≤◌, false, ◌≢◌, ◌⊎◌, List, [], ◌∷◌, ◌++◌, length, ℤ, sym, refl, ap, ◌∙◌, subst, inl, inr, arith}
use Rattle.std.proofs.lemmas.Bool.{cases_eq}
use Rattle.paths.specs.Orders.{Metric, adds, most_penalties}
use Rattle.paths.specs.Best.{BestMessage, Setting, most, path_total, total_from}
use Rattle.paths.proofs.Closes.{best_path}
use Rattle.coding.specs.Puncturing.{sent_before}
use Rattle.coding.specs.Encoding.{Coding, code_of, inputs_of, sent_at, sent_bits, sent_from, steps_for}
use Rattle.coding.proofs.Sent.{sent_at_size}
use Rattle.trellis.specs.Penalties.{penalties, penalty, total}
use Rattle.trellis.specs.Nearest.{LeastTotal, OneNearest}
use Rattle.trellis.specs.Steps.{costs_at, width_at}
use Rattle.trellis.proofs.Bearing.{adds_append}
use Rattle.trellis.proofs.Counts.{most_sent, sent_none}
use Rattle.trellis.proofs.Costing.{costs_lawful}

penalties_append : (v : ℕ → ℤ) (j : ℕ) (xs ys : List ℕ) → penalties v j (xs ++ ys) ≡ penalties v j xs ++ penalties v (j + length xs) ys
penalties_append v j [] ys = let e : j ≡ j + 0 = omega arith in ap (λ (i : ℕ). penalties v i ys) e
penalties_append v j (x ∷ xs) ys =
    let e : suc j + length xs ≡ j + suc (length xs) = omega arith in
    ap (λ (ps : List ℕ). penalty (v j) x ∷ ps) (penalties_append v (suc j) xs ys ∙ ap (λ (i : ℕ). penalties v (suc j) xs ++ penalties v i ys) e)

-- two lists are the same or not
alike : (xs ys : List ℕ) → (xs ≡ ys) ⊎ (xs ≢ ys)
alike [] [] = inl refl
alike [] (y ∷ ys) = inr (λ e. let z : ◌≡◌ {A = ℕ} 0 1 = cc in omega arith)
alike (x ∷ xs) [] = inr (λ e. let z : ◌≡◌ {A = ℕ} 0 1 = cc in omega arith)
alike (x ∷ xs) (y ∷ ys) =
    elim (cases_eq x y) [
      | inl e ↦ elim (alike xs ys) [ inl d ↦ inl (cc) | inr d ↦ inr (λ q. d (let t : xs ≡ ys = cc in t)) ]
      | inr e ↦ inr (λ q. e (let t : x ≡ y = cc in t))
    ]

module _ {X : Type 0} (Q : Coding) (M : Metric X) (v : ℕ → ℤ) where
  by_positions : (k s : ℕ) (t : X) (bs : List ℕ) → total_from (code_of Q) M (costs_at Q.rate v) k s t bs ≡ adds M t (penalties v (sent_before Q.rate k) (sent_from Q k s bs))
  by_positions k s t [] = refl
  by_positions k s t (b ∷ bs) =
      let C = code_of Q in
      let j = sent_before Q.rate k in
      let here = sent_at Q k s b in
      let rest = sent_from Q (suc k) (C.next s b) bs in
      by_positions (suc k) (C.next s b) (adds M t (penalties v j here)) bs
      ∙ ap (λ (i : ℕ). adds M (adds M t (penalties v j here)) (penalties v i rest)) (sym (sent_at_size Q k s b))
      ∙ sym (adds_append M t (penalties v j here) (penalties v (j + length here) rest))
      ∙ ap (λ (ps : List ℕ). adds M t ps) (sym (penalties_append v j here rest))

  pub total_steps : (ms : List ℕ) → total Q M v ms ≡ path_total (code_of Q) M (costs_at Q.rate v) (inputs_of Q ms)
  total_steps ms = sym (by_positions 0 0 M.start (inputs_of Q ms) ∙ ap (λ (i : ℕ). adds M M.start (penalties v i (sent_bits Q ms))) (sent_none Q.rate))

  pub least_total : (K : ℕ) (t : X) (ms : List ℕ) → BestMessage (code_of Q) M (costs_at Q.rate v) Q.tail K t ms → LeastTotal Q K M v ms t
  least_total K t ms b = record {
    bits = b.bits;
    own = total_steps ms ∙ b.own;
    not_lower = λ rs i. subst (λ (x : X). M.lt x t ≡ false) (sym (total_steps rs)) (b.not_lower rs i);
    tie = λ rs i other e. elim (b.tie rs i (sym (total_steps rs) ∙ e)) [ inl q ↦ absurd (other q) | inr q ↦ q ];
  }

  best_message : (K : ℕ) (t : X) (ms : List ℕ) → LeastTotal Q K M v ms t → BestMessage (code_of Q) M (costs_at Q.rate v) Q.tail K t ms
  best_message K t ms b = record {
    bits = b.bits;
    own = sym (total_steps ms) ∙ b.own;
    not_lower = λ rs i. subst (λ (x : X). M.lt x t ≡ false) (total_steps rs) (b.not_lower rs i);
    tie = λ rs i e. elim (alike rs ms) [ inl q ↦ inl q | inr q ↦ inr (b.tie rs i q (total_steps rs ∙ e)) ];
  }

pub one_nearest : {X : Type 0} → OneNearest X
one_nearest Q K O v laws few limits ms rs t u b d =
    let M = O.metric in
    let n = steps_for Q K in
    let s : Setting (code_of Q) M (costs_at Q.rate v) (width_at Q.rate) = record { code = Q.trellis.lawful; order = O.lawful; paid = costs_lawful v limits Q.rate } in
    let fits : most (width_at Q.rate) n ≤ most_penalties = omega (arith, most_sent Q.rate n) in
    let one : ms ≡ rs = (best_path (code_of Q) M (costs_at Q.rate v) (width_at Q.rate) s n fits).one_best Q.tail laws K refl t u ms rs (best_message Q M v K t ms b) (best_message Q M v K u rs d) in
    (one, sym b.own ∙ ap (total Q M v) one ∙ d.own)
