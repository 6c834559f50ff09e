-- `FirstStep`'s `position` meets its contract: what it computes fits its type.
use Rattle.std.proofs.Common.{arith}
use Rattle.interleaving.proofs.Bounds.{back_inside, rows_some, size_le}
use Rattle.interleaving.proofs.steps.FirstStepInterleaver.position.Goals as goal

pub nonzero_rem-result : goal.nonzero_rem-result
nonzero_rem-result c = rw (c.positions.ensures, c.from-columns.ensures) (rows_some c.args.self.now.columns c.args.block.bits c.args.block.cells c.args.place c.args.block.sized c.requires.taken c.requires.within)

pub overflow_mul-result : goal.overflow_mul-result
overflow_mul-result c = rw (c.positions.ensures, c.from-columns.ensures) (omega (arith, back_inside c.args.self.now.columns c.args.block.bits c.args.block.cells c.args.place c.args.block.sized c.requires.taken c.requires.within, size_le c.args.block.bits c.args.block.cells c.args.block.sized.few_bits c.args.block.sized.few_cells))

pub nonzero_div-result : goal.nonzero_div-result
nonzero_div-result c = nonzero_rem-result c

pub overflow_add-result : goal.overflow_add-result
overflow_add-result c = rw (c.positions.ensures, c.from-columns.ensures) (omega (arith, back_inside c.args.self.now.columns c.args.block.bits c.args.block.cells c.args.place c.args.block.sized c.requires.taken c.requires.within, size_le c.args.block.bits c.args.block.cells c.args.block.sized.few_bits c.args.block.sized.few_cells))
