-- `Link::frame_size` meets its contract: the positions of a frame fit their type.
use Rattle.std.proofs.Common.{◌+◌, ◌^◌, ◌<◌, arith, rules}
use Rattle.coding.proofs.Patterns.{sent_most}
use Rattle.interleaving.specs.Interleaving.{Sized}
use Rattle.interleaving.proofs.Bounds.{size_le}
use Rattle.sending.proofs.link.Link.frame_size.Goals as goal

pub raised_to_blocks-positions-requires-clause-fits : goal.raised_to_blocks-positions-requires-clause-fits
raised_to_blocks-positions-requires-clause-fits g c =
    let plan = c.args.self.now.plan in
    let z : Sized plan.bits_per_axis plan.block_cells = search rules in
    let few : c.from.result + c.from-2.result < 2 ^ 32 = omega arith in
    omega (arith, c.sent_in-sent.ensures, sent_most plan.rate (c.from.result + c.from-2.result), c.positions.ensures, size_le plan.bits_per_axis plan.block_cells z.few_bits z.few_cells)
