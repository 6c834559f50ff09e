-- `Reckoner::close` meets its contract: each step takes one of the closing inputs that are left.
use Rattle.std.proofs.Common.{ℕ, ◌+◌, ◌-◌, ◌*◌, sym, subst, arith}
use Rattle.coding.specs.Meaning.{coding_of}
use Rattle.paths.proofs.Bearing.{bears_fewer}
use Rattle.trellis.specs.Penalties.{soft_at}
use Rattle.trellis.proofs.Costing.{all_limited}
use Rattle.tally.proofs.Totals.{closing_bit}
use Rattle.tally.proofs.Walks.{Closing, closing_ends, closing_goes, closing_starts}
use Rattle.tally.proofs.reckoning.Reckoner.close.Goals as goal

pub loop-init : goal.loop-init
loop-init g c =
    let Q = coding_of g.C.Code.trellis g.E.Ending.tail c.args.self.now.coding.now in
    let M = (g.O.Order.order c.args.self.now.order.now).metric in
    let soft = c.args.self.now.soft.now in
    let v = soft_at soft in
    closing_starts Q M v (all_limited soft) c.args.from (c.closing_steps-end.result - 0) (omega (arith, c.closing_steps-end.ensures.is)) c.closing_steps-end.ensures.lawful c.requires.short c.requires.going

pub step-walk-requires-clause-input : goal.step-walk-requires-clause-input
step-walk-requires-clause-input g c =
    let Q = coding_of g.C.Code.trellis g.E.Ending.tail c.args.self.now.coding.now in
    omega (arith, c.closing_input-input.ensures, closing_bit Q.trellis.code Q.tail c.loop.walk.state c.closing_steps-end.ensures.lawful c.loop.invariant.going.inside)

pub loop-preserved : goal.loop-preserved
loop-preserved g c =
    let Q = coding_of g.C.Code.trellis g.E.Ending.tail c.args.self.now.coding.now in
    let M = (g.O.Order.order c.args.self.now.order.now).metric in
    let soft = c.args.self.now.soft.now in
    let v = soft_at soft in
    let l = c.loop in
    let n : ℕ = c.closing_steps-end.result - (l.counter + 1) in
    let goes =
    closing_goes Q M v (all_limited soft) c.args.from l.walk (c.closing_steps-end.result - l.counter) n c.closing_input-input.result (omega (arith, c.loop-test.true)) (omega (arith, c.closing_steps-end.ensures.is)) c.closing_steps-end.ensures.lawful c.closing_input-input.ensures l.invariant in
    subst (Closing Q M v (all_limited soft) c.args.from n) (sym c.step-walk.ensures) goes

pub returns : goal.returns
returns g c =
    let Q = coding_of g.C.Code.trellis g.E.Ending.tail c.args.self.now.coding.now in
    let M = (g.O.Order.order c.args.self.now.order.now).metric in
    let soft = c.args.self.now.soft.now in
    let v = soft_at soft in
    let l = c.loop in
    record {
      is = closing_ends Q M v (all_limited soft) c.args.from l.walk (c.closing_steps-end.result - l.counter) (omega (arith, c.loop-test.false)) l.invariant;
      bears = bears_fewer 0 (2 * (4096 - l.walk.step)) l.walk.total (omega arith) l.invariant.going.bears;
    }
