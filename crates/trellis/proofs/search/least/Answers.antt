-- `search::least` meets its contract: each turn looks at one state more.
use Rattle.std.proofs.Common.{◌+◌, sym, ◌∙◌, subst}
use Rattle.paths.specs.Rows.{Found, held}
use Rattle.paths.proofs.Rows.{found_more}
use Rattle.trellis.proofs.search.least.Goals as goal

pub loop-state-preserved : goal.loop-state-preserved
loop-state-preserved g c =
    let M = (g.O.Order.order c.args.order.now).metric in
    let totals = held M c.args.totals.now.row.now c.args.totals.now.reached in
    let s = c.loop-state.state in
    subst (Found M totals (s + 1)) (sym c.bettered-best.ensures) (found_more (g.O.Order.order c.args.order.now).lawful totals c.args.states c.requires.bears s c.loop-state-test.true c.loop-state.best c.loop-state.invariant c.total.result (sym (c.total.ensures M.start)))

pub bettered-best-requires-clause-total : goal.bettered-best-requires-clause-total
bettered-best-requires-clause-total g c t e =
    let M = (g.O.Order.order c.args.order.now).metric in
    c.requires.bears c.loop-state.state t c.loop-state-test.true (sym (c.total.ensures M.start) ∙ e)
