-- One step of the search as a step of the survivors. Assumes nothing.
use Rattle.std.proofs.Common.{◌≡◌, ℕ, ◌+◌, ◌<◌, List, length, get_or, set, Some, None, Option, refl, ap, ◌∙◌}
use Rattle.paths.specs.Codes.{Branch, Code, CodeLaws, Enters}
use Rattle.paths.specs.Orders.{Metric, adds}
use Rattle.paths.specs.Survivors.{Costs, along, chosen, takes_second}
use Rattle.paths.specs.Rows.{Holding, Marks, Row, Words, decision, entry, held}
use Rattle.paths.proofs.Rows.{held_is, entry_is, words_more}
use Rattle.trellis.specs.declared.cost.Cost.{Cost}
use Rattle.trellis.specs.declared.table.Fork.{Fork}
use Rattle.trellis.specs.Steps.{Tabled, carried, fork_higher, fork_total, no_fork, pair_pays, paired, way_by}

module _ {C : Code} (laws : CodeLaws C) (table : List Fork) (tabled : Tabled C C.states table) where
  module _ {X : Type 0} (M : Metric X) (costs : Costs) (k : ℕ) (q : Cost) (pays : (c d : ℕ) → c < 2 → d < 2 → pair_pays q (paired c d) ≡ costs k c d) (totals : ℕ → Option X) where
    carried_along : (s : ℕ) (r : Branch) → Enters C s r → (o : Option X) → carried M q (way_by C r) o ≡ along C M costs k r o
    carried_along s r e None = refl
    carried_along s r e (Some t) = ap (λ (ps : List ℕ). Some (adds M t ps)) (pays (C.first r.from r.input) (C.second r.from r.input) (laws.first_bit r.from r.input e.from_state e.by_bit) (laws.second_bit r.from r.input e.from_state e.by_bit))

    lower_along : (s : ℕ) → s < C.states → carried M q (way_by C (C.lower s)) (totals (C.lower s).from) ≡ along C M costs k (C.lower s) (totals (C.lower s).from)
    lower_along s l = carried_along s (C.lower s) (laws.lower_enters s l) (totals (C.lower s).from)

    higher_along : (s : ℕ) → s < C.states → carried M q (way_by C (C.higher s)) (totals (C.higher s).from) ≡ along C M costs k (C.higher s) (totals (C.higher s).from)
    higher_along s l = carried_along s (C.higher s) (laws.higher_enters s l) (totals (C.higher s).from)

    fork_entry : (s : ℕ) → s < C.states → fork_total M q totals (get_or table s no_fork) ≡ entry C M costs k totals s
    fork_entry s l =
        ap (fork_total M q totals) (tabled.stands s l)
        ∙ ap (λ (x : Option X). chosen M x (carried M q (way_by C (C.higher s)) (totals (C.higher s).from))) (lower_along s l)
        ∙ ap (λ (x : Option X). chosen M (along C M costs k (C.lower s) (totals (C.lower s).from)) x) (higher_along s l)

    fork_decision : (s : ℕ) → s < C.states → fork_higher M q totals (get_or table s no_fork) ≡ decision C M costs k totals s
    fork_decision s l =
        ap (fork_higher M q totals) (tabled.stands s l)
        ∙ ap (λ (x : Option X). takes_second M x (carried M q (way_by C (C.higher s)) (totals (C.higher s).from))) (lower_along s l)
        ∙ ap (λ (x : Option X). takes_second M (along C M costs k (C.lower s) (totals (C.lower s).from)) x) (higher_along s l)

    module _ (full : Row C M costs k totals) where
      pub row_strides : (new : List X) (mask : ℕ) → Holding M (λ s. fork_total M q totals (get_or table s no_fork)) C.states new mask → Row C M costs (k + 1) (held M new mask)
      row_strides new mask h = record { holds = λ s l. held_is M (λ s. fork_total M q totals (get_or table s no_fork)) C.states new mask h s l ∙ fork_entry s l ∙ entry_is M costs laws k totals full s l }

      pub words_stride : (w : ℕ) (ws : List ℕ) → k < length ws → Words C M costs k ws → Marks (λ s. fork_higher M q totals (get_or table s no_fork)) C.states w → Words C M costs (k + 1) (set ws k w)
      words_stride w ws l h m = words_more M costs laws k totals full w ws l h (record { below = m.below; holds = λ s i. m.holds s i ∙ fork_decision s i })
