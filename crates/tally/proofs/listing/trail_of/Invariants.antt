-- `listing::trail_of`: the state is one of the code's.
use Rattle.std.proofs.Common.{◌<◌}
use Rattle.tally.proofs.listing.trail_of.Given as goal

abbrev pub invariant-loop-step : goal.invariant-loop-step
invariant-loop-step g l = l.state < (g.C.Code.trellis l.coding.code).code.states
