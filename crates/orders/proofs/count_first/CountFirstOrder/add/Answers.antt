-- `CountFirstOrder::add` meets its contract: count and sum of a total that bears one penalty more leave room for it.
use Rattle.std.proofs.Common.{ltb, Bool, true, false, ◌≤◌, arith}
use Rattle.std.specs.Int.{from_bool}
use Rattle.orders.proofs.Bounds.{counts_bound}
use Rattle.orders.proofs.count_first.CountFirstOrder.add.Goals as goal

at_most_one : (b : Bool) → from_bool b ≤ 1
at_most_one true = omega arith
at_most_one false = omega arith

pub overflow_add-result : goal.overflow_add-result
overflow_add-result c =
    let b = counts_bound c.requires.bears.reached in
    omega (arith, c.from.ensures, at_most_one (ltb 0 c.args.penalty), c.requires.bears.room)

pub overflow_add-result-2 : goal.overflow_add-result-2
overflow_add-result-2 c = let b = counts_bound c.requires.bears.reached in omega (arith, c.from-2.ensures, c.requires.light, c.requires.bears.room)
