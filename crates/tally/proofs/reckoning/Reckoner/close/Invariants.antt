-- `Reckoner::close`: the closing inputs that are left lead to the total of all of them.
use Rattle.std.proofs.Common.{◌-◌}
use Rattle.coding.specs.Meaning.{coding_of}
use Rattle.trellis.specs.Penalties.{soft_at}
use Rattle.trellis.proofs.Costing.{all_limited}
use Rattle.tally.proofs.Walks.{Closing}
use Rattle.tally.proofs.reckoning.Reckoner.close.Given as goal

abbrev pub invariant-loop : goal.invariant-loop
invariant-loop g l =
    Closing (coding_of g.C.Code.trellis g.E.Ending.tail l.self.coding.now) (g.O.Order.order l.self.order.now).metric (soft_at l.self.soft.now) (all_limited l.self.soft.now) l.fn.from (l.end - l.counter) l.walk
