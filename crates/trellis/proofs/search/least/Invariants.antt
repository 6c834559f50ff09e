-- What the loop of `search::least` keeps.
use Rattle.paths.specs.Rows.{Found, held}
use Rattle.trellis.proofs.search.least.Given as goal

abbrev pub invariant-loop-state : goal.invariant-loop-state
invariant-loop-state g l = let M = (g.O.Order.order l.order).metric in Found M (held M l.totals.row.now l.totals.reached) l.state l.best
