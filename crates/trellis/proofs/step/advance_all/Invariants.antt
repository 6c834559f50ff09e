-- What the loop of `step::advance_all` keeps.
use Rattle.std.proofs.Common.{get_or}
use Rattle.paths.specs.Rows.{held}
use Rattle.trellis.specs.Steps.{fork_total, fork_higher, no_fork}
use Rattle.trellis.proofs.Falling.{Falling}
use Rattle.trellis.proofs.step.advance_all.Given as goal

abbrev pub invariant-loop-state : goal.invariant-loop-state
invariant-loop-state g l =
    let M = (g.O.Order.order l.order).metric in
    let totals = held M l.old.row.now l.old.reached in
    Falling M (λ s. fork_total M l.cost totals (get_or l.table.forks.now s no_fork)) (λ s. fork_higher M l.cost totals (get_or l.table.forks.now s no_fork)) l.table.states l.state l.new l.word
