-- What the last row and the decision words come to. Assumes nothing.
use Rattle.std.proofs.Common.{◌≡◌, ℕ, ◌+◌, ◌<◌, ◌≤◌, Bool, true, false, cond, ltb, List, reverse, get_or, take, ℤ, Some, None, Option, sym, refl, ap, ◌∙◌, subst, arith, rules}
use Rattle.std.specs.Option.{IsSome}
use Rattle.std.proofs.lemmas.Bool.{lt-ltb}
use Rattle.paths.specs.Codes.{Code}
use Rattle.paths.specs.Endings.{Tail, Tail.unclosed, Tail.closed_by, TailLaws, closing_steps}
use Rattle.paths.specs.Orders.{Bears, Metric, Ordered, most_penalties}
use Rattle.paths.specs.Survivors.{Costs, survivor_path, survivor_total, traced}
use Rattle.paths.specs.Best.{BestMessage, Ended, Least, Setting, SurvivorsBest, most}
use Rattle.paths.specs.Rows.{Passes, Row, Words, bit_of, bits_of, held}
use Rattle.paths.proofs.Closings.{closing_takes_steps}
use Rattle.paths.proofs.Closes.{best_path}
use Rattle.paths.proofs.Leasts.{no_some}
use Rattle.paths.proofs.Rows.{least_row, row_bears, words_trace}
use Rattle.paths.proofs.Tracing.{front_traced}
use Rattle.coding.specs.Encoding.{Coding, code_of}
use Rattle.trellis.specs.Nearest.{LeastTotal}
use Rattle.trellis.specs.Penalties.{soft_at}
use Rattle.trellis.specs.Steps.{RowEnd, costs_at, width_at}
use Rattle.trellis.proofs.Costing.{all_limited, costs_lawful}
use Rattle.trellis.proofs.Granting.{few_penalties}
use Rattle.trellis.proofs.Totalling.{least_total}

same_pair : {X : Type 0} {p q : ℕ × X} → Some p ≡ Some q → p ≡ q
same_pair e = cc

-- a row that holds a total of state 0 holds the one that stands there
stands_there : {X : Type 0} (b : Bool) (x t : X) → cond b (Some x) None ≡ Some t → cond b (Some x) None ≡ Some x
stands_there true x t e = refl
stands_there false x t e = absurd (no_some e)

module _ {X : Type 0} {C : Code} {M : Metric X} {costs : Costs} {width : ℕ → ℕ} (g : Setting C M costs width) (n : ℕ) (fits : most width n ≤ most_penalties) (row : List X) (mask : ℕ) (full : Row C M costs n (held M row mask)) where
  paths : SurvivorsBest C M costs n
  paths = best_path C M costs width g n fits

  -- a path is closed where it has closing steps
  closed_end : (T : Tail) → TailLaws C T → (m : ℕ) → m + closing_steps T ≡ n → (c : Bool) → c ≡ ltb 0 (closing_steps T) → (s : ℕ) (t : X) → RowEnd M c row mask C.states (Some (s, t)) → Ended M T (survivor_total C M costs n) C.states s t
  closed_end unclosed laws m long c e s t h = let l : Least M (held M row mask) C.states s t = subst (λ (b : Bool). RowEnd M b row mask C.states (Some (s, t))) e h in least_row C M costs n s t (held M row mask) full l
  closed_end (closed_by E) laws m long c e s t h =
      let x = get_or row 0 M.start in
      let z = paths.some_end (closed_by E) laws m long in
      let f : ◌≡◌ {A = Option (ℕ × X)} (Some (s, t)) (Some (0, x)) = subst (λ (b : Bool). RowEnd M b row mask C.states (Some (s, t))) (e ∙ lt-ltb 0 E.memory (closing_takes_steps C E g.code laws)) h in
      let here = full.holds 0 g.code.some in
      (ap (λ (p : ℕ × X). p.0) (same_pair f), sym here ∙ stands_there (bit_of mask 0) x z.1.0 (here ∙ z.1.1.1) ∙ ap (λ (p : ℕ × X). Some p.1) (sym (same_pair f)))

  module _ (T : Tail) (laws : TailLaws C T) (m : ℕ) (long : m + closing_steps T ≡ n) (c : Bool) (closed : c ≡ ltb 0 (closing_steps T)) where
    pub never_none : RowEnd M c row mask C.states None → ⊥
    never_none h = apart T laws long closed
      where
        apart : (U : Tail) → TailLaws C U → m + closing_steps U ≡ n → c ≡ ltb 0 (closing_steps U) → ⊥
        apart unclosed l e d =
            let none : (k : ℕ) → k < C.states → held M row mask k ≡ None = subst (λ (b : Bool). RowEnd M b row mask C.states None) d h in
            let z = paths.some_end unclosed l m e in
            no_some (sym (none z.0 z.1.1.inside) ∙ full.holds z.0 z.1.1.inside ∙ z.1.1.has)
        apart (closed_by E) l e d =
            let f : ◌≡◌ {A = Option (ℕ × X)} None (Some (0, get_or row 0 M.start)) = subst (λ (b : Bool). RowEnd M b row mask C.states None) (d ∙ lt-ltb 0 E.memory (closing_takes_steps C E g.code l)) h in
            no_some f

    module _ (s : ℕ) (t : X) (end : RowEnd M c row mask C.states (Some (s, t))) where
      pub end_inside : s < C.states
      end_inside = inside T (closed_end T laws m long c closed s t end)
        where
          inside : (U : Tail) → Ended M U (survivor_total C M costs n) C.states s t → s < C.states
          inside unclosed e = e.inside
          inside (closed_by E) e = omega (arith, e.0, g.code.some)

      -- the way back from there is the best message
      pub found_best : (ws : List ℕ) (u : ℕ) (out : List ℕ) → Words C M costs n ws → Passes C (bits_of ws) n s m u → out ≡ reverse (traced C (bits_of ws) m u) → BestMessage C M costs T m t out
      found_best ws u out words passes done =
          let e : out ≡ take m (survivor_path C M costs n s) = done ∙ sym (front_traced C (bits_of ws) n s m u passes) ∙ ap (λ (ts : List ℕ). take m (reverse ts)) (words_trace M costs g.code n s ws words end_inside) in
          subst (BestMessage C M costs T m t) (sym e) (paths.ends_best T laws m long s t (closed_end T laws m long c closed s t end))

-- ---- the search of a coding

module _ {X : Type 0} (Q : Coding) (O : Ordered X) (soft : List ℤ) (K closing : ℕ) (laws : TailLaws (code_of Q) Q.tail) (short : K ≤ 4090) (size : closing ≡ closing_steps Q.tail) (row : List X) (mask : ℕ) (full : Row (code_of Q) O.metric (costs_at Q.rate (soft_at soft)) (K + closing) (held O.metric row mask)) (states : ℕ) (same : states ≡ (code_of Q).states) where
  setting : Setting (code_of Q) O.metric (costs_at Q.rate (soft_at soft)) (width_at Q.rate)
  setting = record { code = Q.trellis.lawful; order = O.lawful; paid = costs_lawful (soft_at soft) (all_limited soft) Q.rate }

  long : K + closing_steps Q.tail ≡ K + closing
  long = omega (arith, size)

  fits : most (width_at Q.rate) (K + closing) ≤ most_penalties
  fits = few_penalties Q.rate (code_of Q) Q.tail K (K + closing) laws short long

  pub end_bears : (s : ℕ) (t : X) → s < states → held O.metric row mask s ≡ Some t → Bears O.metric 0 t
  end_bears s t l e = row_bears setting 0 (K + closing) (omega (arith, fits)) (held O.metric row mask) full s t (omega (arith, same)) e

  -- the last row has an end, and the way back from there is the nearest message
  pub has_end : (o : Option (ℕ × X)) → RowEnd O.metric (ltb 0 closing) row mask states o → IsSome o
  has_end None h = absurd (never_none setting (K + closing) fits row mask full Q.tail laws K long (ltb 0 closing) (ap (ltb 0) size) (subst (λ (i : ℕ). RowEnd O.metric (ltb 0 closing) row mask i None) same h))
  has_end (Some p) h = search rules

  module _ (o : Option (ℕ × X)) (s : ℕ) (t : X) (found : o ≡ Some (s, t)) (end : RowEnd O.metric (ltb 0 closing) row mask states o) where
    ends : RowEnd O.metric (ltb 0 closing) row mask (code_of Q).states (Some (s, t))
    ends = subst (λ (i : ℕ). RowEnd O.metric (ltb 0 closing) row mask i (Some (s, t))) same (subst (λ (x : Option (ℕ × X)). RowEnd O.metric (ltb 0 closing) row mask states x) found end)

    pub finds_least : (ws : List ℕ) (u : ℕ) (out : List ℕ) → Words (code_of Q) O.metric (costs_at Q.rate (soft_at soft)) (K + closing) ws → Passes (code_of Q) (bits_of ws) (K + closing) s K u → out ≡ reverse (traced (code_of Q) (bits_of ws) K u) → LeastTotal Q K O.metric (soft_at soft) out t
    finds_least ws u out words passes done =
        least_total Q O.metric (soft_at soft) K t out (found_best setting (K + closing) fits row mask full Q.tail laws K long (ltb 0 closing) (ap (ltb 0) size) s t ends ws u out words passes done)
