-- What the loop of `table::tabulate` keeps.
use Rattle.trellis.specs.Steps.{Tabled}
use Rattle.trellis.proofs.table.tabulate.Given as goal

abbrev pub invariant-loop-state : goal.invariant-loop-state
invariant-loop-state g l = Tabled (g.C.Code.trellis l.code).code l.state l.fork-items
