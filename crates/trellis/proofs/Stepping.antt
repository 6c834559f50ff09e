-- What a step gives one state, and what totals bear after it. Assumes nothing.
use Rattle.std.proofs.Common.{◌≡◌, ℕ, ◌<◌, Bool, true, cond, List, length, get_or, Some, None, Option, sym, refl, ap, ◌∙◌, subst}
use Rattle.std.proofs.lemmas.List.{get_or_read}
use Rattle.paths.specs.Orders.{Metric, Bears}
use Rattle.paths.specs.Survivors.{takes_second}
use Rattle.paths.specs.Rows.{bit_of, held}
use Rattle.paths.proofs.Leasts.{no_some}
use Rattle.trellis.specs.declared.cost.Cost.{Cost}
use Rattle.trellis.specs.declared.table.Way.{Way}
use Rattle.trellis.specs.declared.table.Fork.{Fork}
use Rattle.trellis.specs.Steps.{carried, cost_width, fork_total, fork_higher}
use Rattle.trellis.proofs.Bearing.{bears_both}

-- ---- totals of a row

module _ {X : Type 0} (M : Metric X) (row : List X) (mask s : ℕ) where
  pub held_read : (x : X) → bit_of mask s ≡ true → s < length row → x ≡ get_or row s x → held M row mask s ≡ Some x
  held_read x b l is = ap (λ (c : Bool). cond c (Some (get_or row s M.start)) None) b ∙ ap Some (sym (get_or_read row s x l is M.start))

-- ---- one state

module _ {X : Type 0} (M : Metric X) (q : Cost) where
  -- a total that is brought is within the laws
  pub carried_bears : (w : Way) → w.bits < 4 → (o : Option X) → ((t : X) → o ≡ Some t → Bears M (cost_width q) t) → (r : Option X) → r ≡ carried M q w o → (t : X) → r ≡ Some t → Bears M 0 t
  carried_bears w h None b r e t f = absurd (no_some (sym e ∙ f))
  carried_bears w h (Some u) b r e t f = subst (Bears M 0) (same (sym e ∙ f)) (bears_both q w.bits u h (b u refl))
    where
      same : {a b : X} → Some a ≡ Some b → a ≡ b
      same p = cc

  module _ (totals : ℕ → Option X) (f : Fork) (a b : Option X) (ea : a ≡ carried M q f.lower (totals f.lower.from)) (eb : b ≡ carried M q f.higher (totals f.higher.from)) (c : Bool) (ec : c ≡ takes_second M a b) where
    pub higher_is : c ≡ fork_higher M q totals f
    higher_is = ec ∙ ap (λ (x : Option X). takes_second M x b) ea ∙ ap (λ (x : Option X). takes_second M (carried M q f.lower (totals f.lower.from)) x) eb

    pub total_is : (o : Option X) → o ≡ cond c b a → o ≡ fork_total M q totals f
    total_is o e =
        e ∙ ap (λ (x : Bool). cond x b a) higher_is
        ∙ ap (λ (x : Option X). cond (fork_higher M q totals f) x a) eb
        ∙ ap (λ (x : Option X). cond (fork_higher M q totals f) (carried M q f.higher (totals f.higher.from)) x) ea
