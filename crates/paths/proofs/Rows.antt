-- Rows and words: from step to step, at the start and at the end. Assumes nothing.
use Rattle.std.proofs.Common.{◌≡◌, ℕ, zero, suc, ◌+◌, ◌^◌, ◌<◌, ◌≤◌, Bool, true, false, cond, eqb, ◌≢◌, List, length, get_or, set, is_some, Some, None, Option, sym, refl, ap, ◌∙◌, subst, inl, inr, arith}
use lib.Bits.{bit_or}
use Rattle.std.proofs.lemmas.Nat.{pow_below}
use Rattle.std.proofs.lemmas.List.{get_or-set_same, get_or-set_other}
use Rattle.std.proofs.lemmas.Bool.{cases_order, ne_eqb}
use Rattle.paths.specs.Codes.{Code, CodeLaws}
use Rattle.paths.specs.Orders.{Metric, Bears, OrderLaws, most_penalties}
use Rattle.paths.specs.Survivors.{Costs, along, chosen, takes_second, survivor_total, came_higher, survivor, traced}
use Rattle.paths.specs.Best.{Least, Setting, most}
use Rattle.paths.specs.Rows.{Marks, bits_of, held, kept, Holding, entry, decision, Row, Words, Found, better}
use Rattle.paths.proofs.Totals.{bears}
use Rattle.paths.proofs.Leasts.{no_some, least_begins, least_skips, least_keeps, least_takes}
use Rattle.paths.proofs.Ends.{reached_survivor}
use Rattle.paths.proofs.Marking.{up_to, bit_past, marks_none, marks_more}
use Rattle.paths.proofs.Tracing.{traced_same}

-- ---- a row that is filled state by state

module _ {X : Type 0} (M : Metric X) (f : ℕ → Option X) where
  pub holding_none : (row : List X) → Holding M f 0 row 0
  holding_none row = record { marked = marks_none (λ s. is_some (f s)); totals = λ s t l e. absurd (omega arith) }

  pub holding_more : (j : ℕ) (row : List X) (mask : ℕ) (o : Option X) → Holding M f j row mask → j < length row → o ≡ f j → Holding M f (j + 1) (kept row j o) (cond (is_some o) (bit_or mask (2 ^ j)) mask)
  holding_more j row mask None h l e = record {
    marked = marks_more (λ s. is_some (f s)) j mask false h.marked (ap is_some e);
    totals = λ s t i q.
        elim (cases_order s j) [
          | inl d ↦ absurd (no_some (e ∙ ap f (sym d) ∙ q))
          | inr d ↦ elim d [ inl k ↦ h.totals s t k q | inr k ↦ absurd (omega arith) ]
        ];
  }
  holding_more j row mask (Some u) h l e = record {
    marked = marks_more (λ s. is_some (f s)) j mask true h.marked (ap is_some e);
    totals = λ s t i q.
        elim (cases_order s j) [
          | inl d ↦ (let w : u ≡ t = same (e ∙ ap f (sym d) ∙ q) in ap (λ k. get_or (set row j u) k M.start) d ∙ get_or-set_same row j u M.start l ∙ w)
          | inr d ↦ elim d [ inl k ↦ (let ne : s ≢ j = omega arith in get_or-set_other row j s u M.start ne ∙ h.totals s t k q) | inr k ↦ absurd (omega arith) ]
        ];
  }
    where
      same : {a b : X} → Some a ≡ Some b → a ≡ b
      same p = cc

  -- the totals that the row and its mask have are f's
  pub held_is : (j : ℕ) (row : List X) (mask : ℕ) → Holding M f j row mask → (s : ℕ) → s < j → held M row mask s ≡ f s
  held_is j row mask h s l = told (f s) refl
    where
      told : (o : Option X) → f s ≡ o → held M row mask s ≡ f s
      told None e = ap (λ b. cond b (Some (get_or row s M.start)) None) (h.marked.holds s l ∙ ap is_some e) ∙ sym e
      told (Some t) e = ap (λ b. cond b (Some (get_or row s M.start)) None) (h.marked.holds s l ∙ ap is_some e) ∙ ap Some (h.totals s t l e) ∙ sym e

-- ---- the rows of a search

module _ {X : Type 0} {C : Code} (M : Metric X) (costs : Costs) (laws : CodeLaws C) where
  -- the start in state 0 alone
  pub row_first : (totals : ℕ → Option X) → ((s : ℕ) → s < C.states → totals s ≡ cond (eqb s 0) (Some M.start) None) → Row C M costs 0 totals
  unfolding survivor_total
  row_first totals h = record { holds = h }

  -- as it stands in a row where state 0 has the start, and is the only one marked
  pub row_start : (row : List X) (t : X) → 0 < length row → t ≡ M.start → Row C M costs 0 (held M (set row 0 t) 1)
  row_start row t l e = row_first (held M (set row 0 t) 1) at
    where
      at : (s : ℕ) → s < C.states → held M (set row 0 t) 1 s ≡ cond (eqb s 0) (Some M.start) None
      at zero h = ap Some (get_or-set_same row 0 t M.start l ∙ e)
      at (suc s) h =
          let high : 2 ^ 0 < 2 ^ suc s = pow_below 0 (suc s) (omega arith) in
          ap (λ b. cond b (Some (get_or (set row 0 t) (suc s) M.start)) None) (bit_past 1 (suc s) high) ∙ ap (λ b. cond b (Some M.start) None) (sym (ne_eqb (suc s) 0 (omega arith)))

  module _ (n : ℕ) (totals : ℕ → Option X) (full : Row C M costs n totals) where
    pub entry_is : (j : ℕ) → j < C.states → entry C M costs n totals j ≡ survivor_total C M costs (n + 1) j
    unfolding survivor_total
    entry_is j hj =
        let one : suc n ≡ n + 1 = omega arith in
        ap (λ o. chosen M (along C M costs n (C.lower j) o) (along C M costs n (C.higher j) (totals (C.higher j).from))) (full.holds (C.lower j).from (laws.lower_enters j hj).from_state)
        ∙ ap (λ o. chosen M (along C M costs n (C.lower j) (survivor_total C M costs n (C.lower j).from)) (along C M costs n (C.higher j) o)) (full.holds (C.higher j).from (laws.higher_enters j hj).from_state)
        ∙ ap (λ k. survivor_total C M costs k j) one

    pub decision_is : (j : ℕ) → j < C.states → decision C M costs n totals j ≡ came_higher C M costs n j
    unfolding came_higher
    decision_is j hj =
        ap (λ o. takes_second M (along C M costs n (C.lower j) o) (along C M costs n (C.higher j) (totals (C.higher j).from))) (full.holds (C.lower j).from (laws.lower_enters j hj).from_state)
        ∙ ap (λ o. takes_second M (along C M costs n (C.lower j) (survivor_total C M costs n (C.lower j).from)) (along C M costs n (C.higher j) o)) (full.holds (C.higher j).from (laws.higher_enters j hj).from_state)

    pub words_more : (w : ℕ) (ws : List ℕ) → n < length ws → Words C M costs n ws → Marks (decision C M costs n totals) C.states w → Words C M costs (n + 1) (set ws n w)
    words_more w ws l h k = record {
      holds =
          up_to (λ i. Marks (came_higher C M costs i) C.states (get_or (set ws n w) i 0)) n
          (λ i j. let ne : i ≢ n = omega arith in subst (Marks (came_higher C M costs i) C.states) (sym (get_or-set_other ws n i w 0 ne)) (h.holds i j))
          (subst (Marks (came_higher C M costs n) C.states) (sym (get_or-set_same ws n w 0 l)) (record { below = k.below; holds = λ s i. k.holds s i ∙ decision_is s i }));
    }

  pub words_none : (ws : List ℕ) → Words C M costs 0 ws
  words_none ws = record { holds = λ k l. absurd (omega arith) }

  -- the way back by the words is the survivor
  pub words_trace : (n e : ℕ) (ws : List ℕ) → Words C M costs n ws → e < C.states → traced C (bits_of ws) n e ≡ survivor C M costs n e
  words_trace n e ws h he = traced_same laws (bits_of ws) (came_higher C M costs) n (λ k s l i. (h.holds k l).holds s i) e he

-- the totals of a row are within the laws, and bear as many penalties more as the count allows
pub row_bears : {X : Type 0} {C : Code} {M : Metric X} {costs : Costs} {width : ℕ → ℕ} → Setting C M costs width → (left n : ℕ) → most width n + left ≤ most_penalties → (totals : ℕ → Option X) → Row C M costs n totals → (s : ℕ) (t : X) → s < C.states → totals s ≡ Some t → Bears M left t
row_bears {width = width} g left n fits totals full s t l e = bears left (most width n) t fits (reached_survivor g n (omega arith) s t l (sym (full.holds s l) ∙ e))

-- one state more in the search for the least
pub found_more : {X : Type 0} {M : Metric X} → OrderLaws M → (totals : ℕ → Option X) (size : ℕ) → ((k : ℕ) (u : X) → k < size → totals k ≡ Some u → Bears M 0 u) → (j : ℕ) → j < size → (best : Option (ℕ × X)) → Found M totals j best → (o : Option X) → totals j ≡ o → Found M totals (j + 1) (better M best j o)
found_more laws totals size reach j l None h None e = up_to (λ k. totals k ≡ None) j h e
found_more laws totals size reach j l None h (Some u) e = least_begins laws totals size reach j u h l e
found_more laws totals size reach j l (Some p) h None e = least_skips laws totals size reach j p.0 p.1 h l e
found_more {M = M} laws totals size reach j l (Some p) h (Some u) e = told (M.lt u p.1) refl
  where
    told : (c : Bool) → M.lt u p.1 ≡ c → Found M totals (j + 1) (cond c (Some (j, u)) (Some p))
    told true d = least_takes laws totals size reach j p.0 p.1 h l u e d
    told false d = least_keeps laws totals size reach j p.0 p.1 h l u e d

-- the least of a row is the least of the survivors
pub least_row : {X : Type 0} (C : Code) (M : Metric X) (costs : Costs) (n s : ℕ) (t : X) (totals : ℕ → Option X) → Row C M costs n totals → Least M totals C.states s t → Least M (survivor_total C M costs n) C.states s t
least_row C M costs n s t totals h l = record {
  inside = l.inside;
  has = sym (h.holds s l.inside) ∙ l.has;
  lowest = λ k u hk e. l.lowest k u hk (h.holds k hk ∙ e);
  first = λ k u hk e. l.first k u hk (h.holds k (omega (arith, l.inside)) ∙ e);
}
