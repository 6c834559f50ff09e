-- How large a total of n penalties is. Assumes nothing.
use Rattle.std.proofs.Common.{ℕ, ◌*◌, ◌≤◌, Bool, true, false, cond, ltb, arith}
use Rattle.paths.specs.Orders.{Reached, Reached.none, Reached.more, heaviest}
use Rattle.orders.specs.Sum.{sums}
use Rattle.orders.specs.CountFirst.{counts}

pub sum_bound : {n t : ℕ} → Reached sums n t → t ≤ heaviest * n
sum_bound none = omega arith
sum_bound (more r h) = omega (arith, sum_bound r)

at_most_one : (b : Bool) → cond b 1 0 ≤ 1
at_most_one true = omega arith
at_most_one false = omega arith

pub counts_bound : {n : ℕ} {t : ℕ × ℕ} → Reached counts n t → (t.0 ≤ n) × (t.1 ≤ heaviest * n)
counts_bound none = (omega arith, omega arith)
counts_bound (more {n} {t} {p} r h) = let b = counts_bound r in let o = at_most_one (ltb 0 p) in (omega arith, omega arith)
