-- What the loop of `Reckoner::nearest_by_listing` keeps.
use Rattle.paths.specs.Orders.{Bears}
use Rattle.std.proofs.Common.{IfSome}
use Rattle.tally.proofs.reckoning.Reckoner.nearest_by_listing.Given as goal

abbrev pub invariant-loop-number : goal.invariant-loop-number
invariant-loop-number g l = IfSome l.nearest (λ one. Bears (g.O.Order.order l.self.order.now).metric 0 one.total)
