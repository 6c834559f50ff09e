-- `PlannedLink::encode` meets its contract: after k steps the cells hold the labels of what k steps send.
use Rattle.std.proofs.Common.{◌≡◌, ◌<◌, length, get_or, sym, refl, ap, ◌∙◌, subst, arith}
use Rattle.coding.specs.Encoding.{inputs_of, steps_for}
use Rattle.paths.specs.Endings.{closing_input}
use Rattle.paths.specs.Paths.{Inputs}
use Rattle.sending.specs.Labelling.{EncodedFor}
use Rattle.sending.specs.Links.{linked}
use Rattle.sending.proofs.Encodings.{closing_input_at, encoded_all, encoded_more, encoded_none, message_input, ready, state_inside}
use Rattle.sending.proofs.planned.PlannedLink.encode.Goals as goal

pub loop-input-init : goal.loop-input-init
loop-input-init g c =
    let L = linked g.C.Code.trellis g.E.Ending.tail g.I.Interleaver.interleaving c.args.self.now.link in
    record { step = refl; encoded = encoded_none L.coding c.args.message.now L.interleaving L.m L.B c.args.cells.now c.requires.blank }

pub step-at-requires : goal.step-at-requires
step-at-requires g c =
    let L = linked g.C.Code.trellis g.E.Ending.tail g.I.Interleaver.interleaving c.args.self.now.link in
    let ms = c.args.message.now in
    let l = c.loop-input in
    let at = l.at in
    let early : at.step < length ms = omega (arith, l.invariant.step, c.loop-input-test.true) in
    let is : get_or ms l.input-index 0 ≡ get_or (inputs_of L.coding ms) at.step 0 = ap (λ k. get_or ms k 0) (sym l.invariant.step) ∙ message_input L.coding ms at.step early in
    let r = ready L c.args.self.now.planned ms c.requires.message at.step at.state at.position (get_or ms l.input-index 0) l.cells l.invariant.encoded (omega arith) is (l.auto.cells ∙ c.requires.sized) in
    record { state = r.state; input = r.input; few = r.few; short = r.short; taking = r.taking }

pub loop-input-preserved : goal.loop-input-preserved
loop-input-preserved g c =
    let L = linked g.C.Code.trellis g.E.Ending.tail g.I.Interleaver.interleaving c.args.self.now.link in
    let ms = c.args.message.now in
    let l = c.loop-input in
    let at = l.at in
    let early : at.step < length ms = omega (arith, l.invariant.step, c.loop-input-test.true) in
    let is : get_or ms l.input-index 0 ≡ get_or (inputs_of L.coding ms) at.step 0 = ap (λ k. get_or ms k 0) (sym l.invariant.step) ∙ message_input L.coding ms at.step early in
    let next = c.step-at.result in
    let did = c.step-at.ensures in
    record {
      step = omega (arith, did.step, l.invariant.step);
      encoded = subst (λ k. EncodedFor L ms k next.state next.position c.step-at.new.cells) (sym did.step)
          (encoded_more L.coding ms L.interleaving L.m L.B at.step at.state at.position l.cells l.invariant.encoded (omega arith) (get_or ms l.input-index 0) next.state next.position c.step-at.new.cells is did.state did.position did.holds);
    }

pub loop-init : goal.loop-init
loop-init g c =
    let l = c.loop-input in
    record { step = omega (arith, l.invariant.step, c.loop-input-test.false, l.auto.input-index-end); encoded = l.invariant.encoded }

pub closing_input-input-requires : goal.closing_input-input-requires
closing_input-input-requires g c =
    let L = linked g.C.Code.trellis g.E.Ending.tail g.I.Interleaver.interleaving c.args.self.now.link in
    let ms = c.args.message.now in
    let l = c.loop in
    let at = l.at in
    let early : at.step < steps_for L.coding (length ms) = omega (arith, l.invariant.step, c.loop-test.true, c.closing_steps-end.ensures.is, l.auto.counter-end) in
    let whole : Inputs (length ms) ms = subst (λ n. Inputs n ms) (sym c.requires.message.size) c.requires.message in
    state_inside L.coding ms L.interleaving L.m L.B at.step at.state at.position l.cells l.invariant.encoded early c.args.self.now.planned.ending whole

pub step-at-requires-in-loop : goal.step-at-requires-in-loop
step-at-requires-in-loop g c =
    let L = linked g.C.Code.trellis g.E.Ending.tail g.I.Interleaver.interleaving c.args.self.now.link in
    let ms = c.args.message.now in
    let l = c.loop in
    let at = l.at in
    let v = c.closing_input-input.result in
    let early : at.step < steps_for L.coding (length ms) = omega (arith, l.invariant.step, c.loop-test.true, c.closing_steps-end.ensures.is, l.auto.counter-end) in
    let is : v ≡ get_or (inputs_of L.coding ms) at.step 0 =
    c.closing_input-input.ensures ∙ ap (closing_input L.coding.tail) l.invariant.encoded.state_is ∙ closing_input_at L.coding ms at.step (omega (arith, l.invariant.step)) early in
    let r = ready L c.args.self.now.planned ms c.requires.message at.step at.state at.position v l.cells l.invariant.encoded early is (l.auto.cells ∙ c.loop-input.auto.cells ∙ c.requires.sized) in
    record { state = r.state; input = r.input; few = r.few; short = r.short; taking = r.taking }

pub loop-preserved : goal.loop-preserved
loop-preserved g c =
    let L = linked g.C.Code.trellis g.E.Ending.tail g.I.Interleaver.interleaving c.args.self.now.link in
    let ms = c.args.message.now in
    let l = c.loop in
    let at = l.at in
    let v = c.closing_input-input.result in
    let early : at.step < steps_for L.coding (length ms) = omega (arith, l.invariant.step, c.loop-test.true, c.closing_steps-end.ensures.is, l.auto.counter-end) in
    let is : v ≡ get_or (inputs_of L.coding ms) at.step 0 =
    c.closing_input-input.ensures ∙ ap (closing_input L.coding.tail) l.invariant.encoded.state_is ∙ closing_input_at L.coding ms at.step (omega (arith, l.invariant.step)) early in
    let next = c.step-at-in-loop.result in
    let did = c.step-at-in-loop.ensures in
    record {
      step = omega (arith, did.step, l.invariant.step);
      encoded = subst (λ k. EncodedFor L ms k next.state next.position c.step-at-in-loop.new.cells) (sym did.step)
          (encoded_more L.coding ms L.interleaving L.m L.B at.step at.state at.position l.cells l.invariant.encoded early v next.state next.position c.step-at-in-loop.new.cells is did.state did.position did.holds);
    }

pub returns : goal.returns
returns g c =
    let L = linked g.C.Code.trellis g.E.Ending.tail g.I.Interleaver.interleaving c.args.self.now.link in
    let ms = c.args.message.now in
    let l = c.loop in
    let at = l.at in
    let done : at.step ≡ steps_for L.coding (length ms) = omega (arith, l.invariant.step, c.loop-test.false, l.auto.counter-end, c.closing_steps-end.ensures.is) in
    encoded_all L.coding ms L.interleaving L.m L.B at.step at.state at.position l.cells l.invariant.encoded done
