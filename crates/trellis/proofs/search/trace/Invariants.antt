-- What the loop of `search::trace` keeps.
use Rattle.std.proofs.Common.{length}
use Rattle.paths.specs.Rows.{Tracing, bits_of}
use Rattle.trellis.proofs.search.trace.Given as goal

abbrev pub invariant-loop-step : goal.invariant-loop-step
invariant-loop-step g l = Tracing (g.C.Code.trellis l.code).code (bits_of l.decisions) (length l.initial.out) l.end l.step l.state l.out
