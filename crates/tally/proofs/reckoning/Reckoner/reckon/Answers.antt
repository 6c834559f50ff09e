-- `Reckoner::reckon` meets its contract: each step takes one bit of the message, and the closing inputs are left.
use Rattle.std.proofs.Common.{◌+◌, sym, subst, arith}
use Rattle.coding.specs.Meaning.{coding_of}
use Rattle.trellis.specs.Penalties.{soft_at}
use Rattle.trellis.proofs.Costing.{all_limited}
use Rattle.tally.proofs.Walks.{Taken, all_taken, none_taken, one_more}
use Rattle.tally.proofs.reckoning.Reckoner.reckon.Goals as goal

pub loop-input-init : goal.loop-input-init
loop-input-init g c =
    let Q = coding_of g.C.Code.trellis g.E.Ending.tail c.args.self.now.coding.now in
    let M = (g.O.Order.order c.args.self.now.order.now).metric in
    let soft = c.args.self.now.soft.now in
    let v = soft_at soft in
    none_taken Q M v (all_limited soft) c.args.message.now c.zero.result c.zero.ensures

pub loop-input-preserved : goal.loop-input-preserved
loop-input-preserved g c =
    let Q = coding_of g.C.Code.trellis g.E.Ending.tail c.args.self.now.coding.now in
    let M = (g.O.Order.order c.args.self.now.order.now).metric in
    let soft = c.args.self.now.soft.now in
    let v = soft_at soft in
    let l = c.loop-input in
    subst (Taken Q M v (all_limited soft) c.args.message.now (l.input-index + 1)) (sym c.step-walk.ensures) (one_more Q M v (all_limited soft) c.args.message.now l.input-index l.walk c.loop-input-test.true (omega (arith, c.loop-input-test.true)) (omega (arith, c.if-input-gt1.false)) l.invariant)

pub returns-clause-is : goal.returns-clause-is
returns-clause-is g c =
    let Q = coding_of g.C.Code.trellis g.E.Ending.tail c.args.self.now.coding.now in
    let M = (g.O.Order.order c.args.self.now.order.now).metric in
    let soft = c.args.self.now.soft.now in
    let v = soft_at soft in
    let l = c.loop-input in
    all_taken Q M v (all_limited soft) c.args.message.now l.input-index l.walk c.close.result (omega (arith, c.loop-input-test.false)) (omega arith) l.invariant c.close.ensures.is
