-- `Reckoner::pay` meets its contract: a penalty that is added is one that is borne.
use Rattle.std.proofs.Common.{sym, subst}
use Rattle.paths.specs.Orders.{Bears}
use Rattle.paths.proofs.Bearing.{bears_add}
use Rattle.tally.proofs.reckoning.Reckoner.pay.Goals as goal

pub returns-in-Some-clause-bears : goal.returns-in-Some-clause-bears
returns-in-Some-clause-bears g c = λ n b.
    subst (Bears (g.O.Order.order c.args.self.now.order.now).metric n) (sym c.add.ensures) (bears_add n c.penalty_at.result c.args.total c.penalty_at.ensures.light b)
