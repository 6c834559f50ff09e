-- `step::paid_both` meets its contract: a total that bears both penalties bears the second after the first.
use Rattle.std.proofs.Common.{cond, is_some, sym, subst}
use Rattle.paths.specs.Orders.{Bears}
use Rattle.trellis.proofs.Bearing.{bears_second}
use Rattle.trellis.proofs.step.paid_both.Goals as goal

pub paid-requires : goal.paid-requires
paid-requires g c =
    let M = (g.O.Order.order c.args.order.now).metric in
    record { two_bits = c.requires.two_bits; bears = subst (Bears M (cond (is_some c.args.cost.now.second) 1 0)) (sym c.paid-first.ensures) (bears_second c.args.cost.now c.args.bits c.args.total c.requires.two_bits c.requires.bears) }
