-- Totals that bear more penalties bear fewer, and bear what is left once some are added. Assumes nothing.
use Rattle.std.proofs.Common.{ℕ, suc, ◌+◌, ◌≤◌, List, [], ◌∷◌, length, arith}
use Rattle.paths.specs.Orders.{Metric, Reached.more, Bears, adds, heaviest}
use Rattle.paths.specs.Best.{Small}

module _ {X : Type 0} {M : Metric X} where
  pub bears_fewer : (m n : ℕ) (t : X) → m ≤ n → Bears M n t → Bears M m t
  bears_fewer m n t h b = record { count = b.count; room = omega (arith, b.room); reached = b.reached }

  pub bears_add : (n p : ℕ) (t : X) → p ≤ heaviest → Bears M (suc n) t → Bears M n (M.add t p)
  bears_add n p t h b = record { count = suc b.count; room = omega (arith, b.room); reached = more b.reached h }

  pub bears_adds : (n : ℕ) (t : X) (ps : List ℕ) → Small ps → Bears M (n + length ps) t → Bears M n (adds M t ps)
  bears_adds n t [] h b = bears_fewer n (n + 0) t (omega arith) b
  bears_adds n t (p ∷ ps) h b = bears_adds n (M.add t p) ps h.1 (bears_add (n + length ps) p t h.0 (bears_fewer (suc (n + length ps)) (n + suc (length ps)) t (omega arith) b))
