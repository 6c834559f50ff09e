-- `Beats`: in a row, by one more input, and of two sets of paths. Assumes nothing.
use Rattle.std.proofs.Common.{◌≡◌, ℕ, zero, suc, ◌+◌, ◌<◌, ◌≤◌, Bool, true, false, cond, ◌⊎◌, List, [], ◌∷◌, length, Some, None, Option, sym, refl, ap, ◌∙◌, subst, inl, inr, arith}
use Rattle.std.proofs.lemmas.Bool.{both_ways}
use Rattle.paths.specs.Codes.{Code}
use Rattle.paths.specs.Orders.{Metric, most_penalties, Reached, adds}
use Rattle.paths.specs.Survivors.{Costs, chosen, takes_second}
use Rattle.paths.specs.Best.{Small, most, Setting}
use Rattle.paths.proofs.Newest.{Bits, ends, trail, Lower, total, Beats, Winner, Won}
use Rattle.paths.proofs.Totals.{level, never_under_itself, adds_keep, adds_tie, width_of, small_of, in_states, total_more, reached_total}

pub lower_chain : (xs ys zs : List ℕ) → Lower xs ys → Lower ys zs → Lower xs zs
lower_chain [] ys zs p q = elim p [ ]
lower_chain (x ∷ xs) [] zs p q = elim p [ ]
lower_chain (x ∷ xs) (y ∷ ys) [] p q = elim q [ ]
lower_chain (x ∷ xs) (y ∷ ys) (z ∷ zs) (inl p) (inl q) = inl (omega arith)
lower_chain (x ∷ xs) (y ∷ ys) (z ∷ zs) (inl p) (inr q) = inl (omega (arith, q.0))
lower_chain (x ∷ xs) (y ∷ ys) (z ∷ zs) (inr p) (inl q) = inl (omega (arith, p.0))
lower_chain (x ∷ xs) (y ∷ ys) (z ∷ zs) (inr p) (inr q) = inr (p.0 ∙ q.0, lower_chain xs ys zs p.1 q.1)

pub never_lower_than_itself : (xs : List ℕ) → Lower xs xs → ⊥
never_lower_than_itself [] p = p
never_lower_than_itself (x ∷ xs) (inl p) = omega arith
never_lower_than_itself (x ∷ xs) (inr p) = never_lower_than_itself xs p.1

module _ {X : Type 0} {C : Code} {M : Metric X} {costs : Costs} {width : ℕ → ℕ} (g : Setting C M costs width) where
  -- the lower end makes the lower trail
  pub lower_ends : (n : ℕ) (bs cs : List ℕ) → Bits n bs → Bits n cs → ends C bs < ends C cs → Lower (trail C bs) (trail C cs)
  lower_ends zero [] [] h k l = omega arith
  lower_ends zero [] (c ∷ cs) h k l = elim k [ ]
  lower_ends zero (b ∷ bs) cs h k l = elim h [ ]
  lower_ends (suc n) [] cs h k l = elim h [ ]
  lower_ends (suc n) (b ∷ bs) [] h k l = elim k [ ]
  lower_ends (suc n) (b ∷ bs) (c ∷ cs) h k l = inl l

  module _ (n : ℕ) (fits : most width n ≤ most_penalties) where
    pub beats_itself : (bs : List ℕ) → Bits n bs → Beats C M costs bs bs
    beats_itself bs h = record { not_higher = never_under_itself g (most width n) (total C M costs bs) fits (reached_total g n bs h); tie = λ _. inl refl }

    pub beats_chain : (bs cs ds : List ℕ) → Bits n bs → Bits n cs → Bits n ds → Beats C M costs bs cs → Beats C M costs cs ds → Beats C M costs bs ds
    beats_chain bs cs ds hb hc hd p q = record {
      not_higher = (level g.order).chain (most width n) (total C M costs ds) (total C M costs cs) (total C M costs bs) fits rd rc rb q.not_higher p.not_higher;
      tie = λ e.
          let f : total C M costs cs ≡ total C M costs bs =
          (level g.order).same (most width n) (total C M costs cs) (total C M costs bs) fits rc rb p.not_higher (subst (λ t. M.lt t (total C M costs cs) ≡ false) e q.not_higher) in
          joined (p.tie f) (q.tie (e ∙ sym f));
    }
      where
        rb : Reached M (most width n) (total C M costs bs)
        rb = reached_total g n bs hb

        rc : Reached M (most width n) (total C M costs cs)
        rc = reached_total g n cs hc

        rd : Reached M (most width n) (total C M costs ds)
        rd = reached_total g n ds hd

        joined : (cs ≡ bs) ⊎ Lower (trail C bs) (trail C cs) → (ds ≡ cs) ⊎ Lower (trail C cs) (trail C ds) → (ds ≡ bs) ⊎ Lower (trail C bs) (trail C ds)
        joined (inl e) (inl f) = inl (f ∙ e)
        joined (inl e) (inr f) = inr (subst (λ xs. Lower (trail C xs) (trail C ds)) e f)
        joined (inr e) (inl f) = inr (subst (λ xs. Lower (trail C bs) (trail C xs)) (sym f) e)
        joined (inr e) (inr f) = inr (lower_chain (trail C bs) (trail C cs) (trail C ds) e f)

  -- the same input more
  pub beats_more : (n s b : ℕ) (bs cs : List ℕ) → most width (suc n) ≤ most_penalties → b < 2 → Bits n bs → Bits n cs → ends C bs ≡ s → ends C cs ≡ s → Beats C M costs bs cs → Beats C M costs (b ∷ bs) (b ∷ cs)
  beats_more n s b bs cs fits hb h k e f p = record {
    not_higher = subst (λ t. M.lt t (total C M costs (b ∷ bs)) ≡ false) (sym ec) (subst (λ t. M.lt (adds M (total C M costs cs) ps) t ≡ false) (sym eb) (adds_keep g (most width n) (total C M costs bs) (total C M costs cs) ps in_reach rb rc small p.not_higher));
    tie = λ d. led (p.tie (adds_tie g (most width n) (total C M costs bs) (total C M costs cs) ps in_reach rb rc small p.not_higher (sym ec ∙ d ∙ eb)));
  }
    where
      ps : List ℕ
      ps = costs n (C.first s b) (C.second s b)

      eb : total C M costs (b ∷ bs) ≡ adds M (total C M costs bs) ps
      eb = total_more g n s b bs h e

      ec : total C M costs (b ∷ cs) ≡ adds M (total C M costs cs) ps
      ec = total_more g n s b cs k f

      rb : Reached M (most width n) (total C M costs bs)
      rb = reached_total g n bs h

      rc : Reached M (most width n) (total C M costs cs)
      rc = reached_total g n cs k

      hs : s < C.states
      hs = subst (λ x. x < C.states) e (in_states g n bs h)

      small : Small ps
      small = small_of g n s b hs hb

      in_reach : most width n + length ps ≤ most_penalties
      in_reach = omega (arith, width_of g n s b hs hb)

      led : (cs ≡ bs) ⊎ Lower (trail C bs) (trail C cs) → ((b ∷ cs) ≡ (b ∷ bs)) ⊎ Lower (trail C (b ∷ bs)) (trail C (b ∷ cs))
      led (inl d) = inl (ap (λ xs. b ∷ xs) d)
      led (inr d) = inr (inr (ap (λ x. C.next x b) (e ∙ sym f), d))

  -- The best of Q's paths and the best of R's, where each of Q's has a lower trail than each of R's, give the best of both.
  module _ (n : ℕ) (fits : most width n ≤ most_penalties) (P Q R : List ℕ → Type 0) (bits : (cs : List ℕ) → P cs → Bits n cs) (of-Q : (cs : List ℕ) → Q cs → P cs) (of-R : (cs : List ℕ) → R cs → P cs) (either : (cs : List ℕ) → P cs → Q cs ⊎ R cs) (below : (bs cs : List ℕ) → Q bs → R cs → Lower (trail C bs) (trail C cs)) where
    first_won : (t : X) (bs : List ℕ) → Winner C M costs Q t bs → ((cs : List ℕ) → R cs → Beats C M costs bs cs) → Winner C M costs P t bs
    first_won t bs w k = record { member = of-Q bs w.member; sum = w.sum; beats = λ cs p. elim (either cs p) [ inl q ↦ w.beats cs q | inr r ↦ k cs r ] }

    second_won : (u : X) (cs : List ℕ) → Winner C M costs R u cs → ((ds : List ℕ) → Q ds → Beats C M costs cs ds) → Winner C M costs P u cs
    second_won u cs w k = record { member = of-R cs w.member; sum = w.sum; beats = λ ds p. elim (either ds p) [ inl q ↦ k ds q | inr r ↦ w.beats ds r ] }

    both_won : (t u : X) (bs cs : List ℕ) (c : Bool) → M.lt u t ≡ c → Winner C M costs Q t bs → Winner C M costs R u cs → Won C M costs P (cond c (Some u) (Some t)) (cond c cs bs)
    both_won t u bs cs true e w v =
        second_won u cs v (λ ds q. beats_chain n fits cs bs ds (bits cs (of-R cs v.member)) (bits bs (of-Q bs w.member)) (bits ds (of-Q ds q)) ahead (w.beats ds q))
      where
        rt : Reached M (most width n) (total C M costs bs)
        rt = reached_total g n bs (bits bs (of-Q bs w.member))

        ru : Reached M (most width n) (total C M costs cs)
        ru = reached_total g n cs (bits cs (of-R cs v.member))

        under : M.lt (total C M costs cs) (total C M costs bs) ≡ true
        under = subst (λ x. M.lt x (total C M costs bs) ≡ true) (sym v.sum) (subst (λ x. M.lt u x ≡ true) (sym w.sum) e)

        ahead : Beats C M costs cs bs
        ahead = record {
          not_higher = (level g.order).one_way (most width n) (total C M costs cs) (total C M costs bs) fits ru rt under;
          tie = λ d. absurd (both_ways (M.lt (total C M costs cs) (total C M costs bs)) (subst (λ x. M.lt (total C M costs cs) x ≡ false) (sym d) (never_under_itself g (most width n) (total C M costs cs) fits ru)) under);
        }
    both_won t u bs cs false e w v =
        first_won t bs w (λ ds r. beats_chain n fits bs cs ds (bits bs (of-Q bs w.member)) (bits cs (of-R cs v.member)) (bits ds (of-R ds r)) ahead (v.beats ds r))
      where
        ahead : Beats C M costs bs cs
        ahead = record {
          not_higher = subst (λ x. M.lt x (total C M costs bs) ≡ false) (sym v.sum) (subst (λ x. M.lt u x ≡ false) (sym w.sum) e);
          tie = λ _. inr (below bs cs w.member v.member);
        }

    pub merged : (o p : Option X) (bs cs : List ℕ) → Won C M costs Q o bs → Won C M costs R p cs → Won C M costs P (chosen M o p) (cond (takes_second M o p) cs bs)
    merged None None bs cs w v = λ ds h. elim (either ds h) [ inl q ↦ w ds q | inr r ↦ v ds r ]
    merged None (Some u) bs cs w v = second_won u cs v (λ ds q. absurd (w ds q))
    merged (Some t) None bs cs w v = first_won t bs w (λ ds r. absurd (v ds r))
    merged (Some t) (Some u) bs cs w v = both_won t u bs cs (M.lt u t) refl w v
