-- `Link::send` meets its contract: what is filled is the frame, and so carries the message.
use Rattle.std.proofs.Common.{◌≡◌, ◌++◌, take, drop, sym, ap, ◌∙◌, subst}
use Rattle.sending.specs.declared.plan.FrameSize.{FrameSize}
use Rattle.sending.specs.Cells.{sent_cells}
use Rattle.sending.specs.Links.{cells, linked}
use Rattle.sending.specs.Sends.{Carried, filled}
use Rattle.sending.proofs.Sendings.{buffer_inputs, cells_carry}
use Rattle.sending.proofs.link.Link.send.Goals as goal

pub fill-requires-clause-message : goal.fill-requires-clause-message
fill-requires-clause-message g c = buffer_inputs c.from-bits.result c.args.self.now.plan.message_bits c.args.message.now c.if-message-bits.false c.from-bits.ensures (sym c.if-not-all_bits.ensures)

pub returns-clause-carried : goal.returns-clause-carried
returns-clause-carried g c =
    let L = linked g.C.Code.trellis g.E.Ending.tail g.I.Interleaver.interleaving c.args.self.now in
    let size = c.in_ok-size.ensures in
    let old = c.args.cells.now in
    let n = c.from-bits.result in
    let ms = take n c.args.message.now in
    let count : c.in_ok-size.size.cells ≡ cells L = ap (λ (z : FrameSize). z.cells) size.sizes in
    let whole : c.fill.new.cells ++ drop c.in_ok-size.size.cells old ≡ filled L ms old =
    ap (λ xs. xs ++ drop c.in_ok-size.size.cells old) c.fill.ensures ∙ ap (λ x. sent_cells L ms ++ drop x old) count in
    subst (λ k. Carried L (take k c.args.message.now) (c.fill.new.cells ++ drop c.in_ok-size.size.cells old)) c.from-bits.ensures
    (subst (Carried L ms) (sym whole) (cells_carry L size.planned ms (buffer_inputs n L.K c.args.message.now c.if-message-bits.false c.from-bits.ensures (sym c.if-not-all_bits.ensures)) (drop (cells L) old)))
