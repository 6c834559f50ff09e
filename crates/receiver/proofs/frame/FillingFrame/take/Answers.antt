-- `FillingFrame::take` meets its contract: the frame has room for the cell.
use Rattle.std.proofs.Common.{◌≡◌, ℕ, ◌*◌, ◌<◌, ◌≤◌, length, ap, ◌∙◌, arith}
use Rattle.interleaving.specs.Interleaving.{size}
use Rattle.sending.specs.declared.plan.FrameSize.{FrameSize}
use Rattle.sending.specs.Links.{block, blocks, linked}
use Rattle.sending.proofs.Sizes.{cells_are}
use Rattle.receiver.proofs.frame.FillingFrame.take.Goals as goal

pub write-requires : goal.write-requires
write-requires g c =
    let L = linked g.C.Code.trellis g.E.Ending.tail g.I.Interleaver.interleaving c.args.self.now.setup.link in
    let b = c.layout.result.block in
    let same : size b.bits b.cells ≡ block L = ap (λ (m : ℕ). size m b.cells) c.layout.ensures.bits ∙ ap (size L.m) c.layout.ensures.cells in
    let room : blocks L * size b.bits b.cells ≤ length c.args.soft.now = omega (arith, ap (λ (n : ℕ). blocks L * n) same, c.requires.whole) in
    let inside : c.args.self.now.taken < blocks L * b.cells =
    omega (arith, ap (λ (z : FrameSize). z.cells) c.requires.granted.sizes, c.if-self-size.false, cells_are L c.requires.granted.planned, ap (λ (n : ℕ). blocks L * n) c.layout.ensures.cells) in
    (blocks L, room, inside)
