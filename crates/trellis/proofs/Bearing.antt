-- What totals bear before, between and after the penalties of a step. Assumes nothing.
use Rattle.std.proofs.Common.{◌≡◌, ℕ, ◌+◌, ◌<◌, cond, List, [], ◌∷◌, ◌++◌, length, is_some, Option, Some, None, sym, refl, subst, arith}
use Rattle.paths.specs.Orders.{Metric, Bears, adds}
use Rattle.paths.specs.Best.{Small}
use Rattle.paths.proofs.Bearing.{bears_fewer, bears_adds}
use Rattle.trellis.specs.declared.cost.BitCost.{BitCost}
use Rattle.trellis.specs.declared.cost.Cost.{Cost}
use Rattle.trellis.specs.Steps.{pays, pair_pays, cost_width}

small_pays : (o : Option BitCost) (e : ℕ) → e < 4 → Small (pays o e)
small_pays None e h = tt
small_pays (Some b) e h = (b.light e h, tt)

pub adds_append : {X : Type 0} (M : Metric X) (t : X) (ps qs : List ℕ) → adds M t (ps ++ qs) ≡ adds M (adds M t ps) qs
adds_append M t [] qs = refl
adds_append M t (p ∷ ps) qs = adds_append M (M.add t p) ps qs

length_pays : (o : Option BitCost) (e : ℕ) → length (pays o e) ≡ cond (is_some o) 1 0
length_pays None e = refl
length_pays (Some b) e = refl

module _ {X : Type 0} {M : Metric X} (q : Cost) (e : ℕ) (t : X) (h : e < 4) (b : Bears M (cost_width q) t) where
  -- the second penalty is borne after the first, and the total after both is within the laws
  pub bears_second : Bears M (cond (is_some q.second) 1 0) (adds M t (pays q.first e))
  bears_second =
      bears_adds (cond (is_some q.second) 1 0) t (pays q.first e) (small_pays q.first e h) (bears_fewer (cond (is_some q.second) 1 0 + length (pays q.first e)) (cost_width q) t (omega (arith, length_pays q.first e)) b)

  pub bears_both : Bears M 0 (adds M t (pair_pays q e))
  bears_both = subst (Bears M 0) (sym (adds_append M t (pays q.first e) (pays q.second e))) (bears_adds 0 (adds M t (pays q.first e)) (pays q.second e) (small_pays q.second e h) (bears_fewer (0 + length (pays q.second e)) (cond (is_some q.second) 1 0) (adds M t (pays q.first e)) (omega (arith, length_pays q.second e)) bears_second))
