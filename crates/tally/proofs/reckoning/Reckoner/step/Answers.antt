-- `Reckoner::step` meets its contract: what its code bits pay is what the step costs.
use Rattle.std.proofs.Common.{◌≡◌, suc, ◌+◌, ◌-◌, ◌*◌, arith}
use Rattle.coding.specs.Meaning.{coding_of}
use Rattle.paths.proofs.Bearing.{bears_fewer}
use Rattle.tally.proofs.Walks.{step_paid}
use Rattle.tally.proofs.reckoning.Reckoner.step.Goals as goal

pub pay_both-total-requires : goal.pay_both-total-requires
pay_both-total-requires g c = bears_fewer 2 (2 * (4096 - c.args.walk.step)) c.args.walk.total (omega (arith, c.requires.short)) c.requires.going.bears

pub returns : goal.returns
returns g c =
    let Q = coding_of g.C.Code.trellis g.E.Ending.tail c.args.self.now.coding.now in
    let M = (g.O.Order.order c.args.self.now.order.now).metric in
    let w = c.args.walk in
    let b = c.branch-state in
    let softs = c.soft_numbers-first_soft in
    let step : w.step + 1 ≡ suc w.step = omega arith in
    let state = b.ensures.next in
    let total =
    step_paid M w.total c.pay_both-total.result c.args.self.now.soft.now Q.rate w.step b.result.1 (Q.trellis.code.first w.state c.args.input) b.result.2 (Q.trellis.code.second w.state c.args.input) softs.result.0 softs.result.1 b.ensures.first b.ensures.second softs.ensures.first softs.ensures.second c.pay_both-total.ensures in
    cc
