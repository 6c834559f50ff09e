-- `search::trace` meets its contract: each turn goes one step back, and writes its input.
use Rattle.std.proofs.Common.{◌≡◌, ◌-◌, length, set, sym, refl, subst, arith}
use Rattle.paths.specs.Rows.{Tracing, bits_of}
use Rattle.paths.proofs.Tracing.{trace_starts, trace_down, trace_ends}
use Rattle.trellis.specs.Steps.{branch_by}
use Rattle.trellis.proofs.search.trace.Goals as goal

pub loop-step-init : goal.loop-step-init
loop-step-init g c = trace_starts (g.C.Code.trellis c.args.code.now).lawful (bits_of c.args.decisions.now) (length c.args.out.now) c.args.end c.args.out.now refl c.requires.inside

pub loop-step-preserved : goal.loop-step-preserved
loop-step-preserved g c =
    let C = (g.C.Code.trellis c.args.code.now).code in
    let back = bits_of c.args.decisions.now in
    let n = length c.args.out.now in
    let out = set c.loop-step.out (c.loop-step.step - 1) c.entered_by-branch.result.input in
    subst (λ s. Tracing C back n c.args.end (c.loop-step.step - 1) s out) (sym c.from-state.ensures)
    (trace_down (g.C.Code.trellis c.args.code.now).lawful back n c.args.end c.loop-step.step c.loop-step.state c.loop-step.out (branch_by c.entered_by-branch.result) c.loop-step-test.true c.loop-step.auto.step c.loop-step.invariant c.entered_by-branch.ensures)

pub returns : goal.returns
returns g c =
    let C = (g.C.Code.trellis c.args.code.now).code in
    let back = bits_of c.args.decisions.now in
    let n = length c.args.out.now in
    let z : c.loop-step.step ≡ 0 = omega (arith, c.loop-step-test.false) in
    sym (trace_ends (g.C.Code.trellis c.args.code.now).lawful back n c.args.end c.loop-step.state c.loop-step.out (subst (λ k. Tracing C back n c.args.end k c.loop-step.state c.loop-step.out) z c.loop-step.invariant))
