-- `search::find` meets its contract: the way back from the end of the best path is the nearest message.
use Rattle.std.proofs.Common.{length, ◌∙◌, arith}
use Rattle.coding.specs.Meaning.{coding_of}
use Rattle.trellis.proofs.Finding.{end_bears, finds_least, has_end}
use Rattle.trellis.proofs.search.find.Goals as goal

pub best_end-requires : goal.best_end-requires
best_end-requires g c =
    let Q = coding_of g.C.Code.trellis g.E.Ending.tail c.args.coding.now in
    let closing = c.from-closing.result in
    let lawful = c.closing_steps.ensures.lawful in
    let size = c.from-closing.ensures ∙ c.closing_steps.ensures.is in
    let laws = Q.trellis.lawful in
    record {
      some = omega (arith, c.new.ensures.states, laws.some);
      few = omega (arith, c.new.ensures.states, laws.few);
      size = omega (arith, c.new.ensures.states, c.requires.totals_size, c.march-reached.auto.totals);
      bears = end_bears Q (g.O.Order.order c.args.order.now) c.args.soft.now (length c.args.message.now) closing lawful c.requires.short size c.march-reached.new.totals c.march-reached.result c.march-reached.ensures.row c.new.result.states c.new.ensures.states;
    }

pub unwrap-end-requires : goal.unwrap-end-requires
unwrap-end-requires g c =
    let Q = coding_of g.C.Code.trellis g.E.Ending.tail c.args.coding.now in
    let closing = c.from-closing.result in
    let lawful = c.closing_steps.ensures.lawful in
    let size = c.from-closing.ensures ∙ c.closing_steps.ensures.is in
    has_end Q (g.O.Order.order c.args.order.now) c.args.soft.now (length c.args.message.now) closing lawful c.requires.short size c.march-reached.new.totals c.march-reached.result c.march-reached.ensures.row c.new.result.states c.new.ensures.states c.best_end.result c.best_end.ensures

pub returns : goal.returns
returns g c =
    let Q = coding_of g.C.Code.trellis g.E.Ending.tail c.args.coding.now in
    let closing = c.from-closing.result in
    let lawful = c.closing_steps.ensures.lawful in
    let size = c.from-closing.ensures ∙ c.closing_steps.ensures.is in
    finds_least Q (g.O.Order.order c.args.order.now) c.args.soft.now (length c.args.message.now) closing lawful c.requires.short size c.march-reached.new.totals c.march-reached.result c.march-reached.ensures.row c.new.result.states c.new.ensures.states c.best_end.result c.unwrap-end.result.0 c.unwrap-end.result.1 c.unwrap-end.ensures c.best_end.ensures c.march-reached.new.decisions c.descend-state.result c.trace.new.out c.march-reached.ensures.words c.descend-state.ensures c.trace.ensures
