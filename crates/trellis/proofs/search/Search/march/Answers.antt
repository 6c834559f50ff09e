-- `Search::march` meets its contract: from the start on, two steps a turn.
use Rattle.std.proofs.Common.{rules, ◌+◌, ◌-◌, ◌/◌, arith}
use Rattle.trellis.proofs.Counts.{sent_le}
use Rattle.trellis.proofs.search.Search.march.Goals as goal

pub start-reached-requires-clause-room : goal.start-reached-requires-clause-room
start-reached-requires-clause-room g c = omega (arith, sent_le c.args.rate 1 c.args.steps (omega (arith, c.requires.some)), c.requires.room)

pub loop-step-init : goal.loop-step-init
loop-step-init g c = record { even = (c.args.steps / 2, omega arith); row = search rules; words = search rules }

pub stride-halfway-requires-clause-room : goal.stride-halfway-requires-clause-room
stride-halfway-requires-clause-room g c = omega (arith, sent_le c.args.rate (c.loop-step.step + 1) c.args.steps (omega (arith, c.loop-step-test.true)), c.requires.room)

pub stride-reached-requires-clause-room : goal.stride-reached-requires-clause-room
stride-reached-requires-clause-room g c =
    let even = c.loop-step.invariant.even in
    omega (arith, sent_le c.args.rate (c.loop-step.step + 1 + 1) c.args.steps (omega (arith, even.1, c.loop-step-test.true)), c.requires.room)

pub loop-step-preserved : goal.loop-step-preserved
loop-step-preserved g c =
    let even = c.loop-step.invariant.even in
    record {
      even = (even.0 - 1, omega (arith, even.1, c.loop-step-test.true));
      row = search rules;
      words = search rules;
    }
