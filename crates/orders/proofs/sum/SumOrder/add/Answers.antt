-- `SumOrder::add` meets its contract: a total that bears one penalty more leaves room for it.
use Rattle.std.proofs.Common.{arith}
use Rattle.orders.proofs.Bounds.{sum_bound}
use Rattle.orders.proofs.sum.SumOrder.add.Goals as goal

pub overflow_add-result : goal.overflow_add-result
overflow_add-result c = omega (arith, c.from.ensures, c.requires.light, c.requires.bears.room, sum_bound c.requires.bears.reached)
