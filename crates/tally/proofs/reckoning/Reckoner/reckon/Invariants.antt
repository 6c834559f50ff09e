-- `Reckoner::reckon`: the bytes so far are bits, and what is left of the message leads to its total.
use Rattle.coding.specs.Meaning.{coding_of}
use Rattle.trellis.specs.Penalties.{soft_at}
use Rattle.trellis.proofs.Costing.{all_limited}
use Rattle.tally.proofs.Walks.{Taken}
use Rattle.tally.proofs.reckoning.Reckoner.reckon.Given as goal

abbrev pub invariant-loop-input : goal.invariant-loop-input
invariant-loop-input g l =
    Taken (coding_of g.C.Code.trellis g.E.Ending.tail l.self.coding.now) (g.O.Order.order l.self.order.now).metric (soft_at l.self.soft.now) (all_limited l.self.soft.now) l.message l.input-index l.walk
