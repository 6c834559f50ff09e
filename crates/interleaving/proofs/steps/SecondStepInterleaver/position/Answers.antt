-- `SecondStep`'s `position` meets its contract: what it computes fits its type.
use Rattle.std.proofs.Common.{arith}
use Rattle.interleaving.proofs.Bounds.{column_inside, product_le, size_le}
use Rattle.interleaving.proofs.steps.SecondStepInterleaver.position.Goals as goal

pub overflow_mul-result-2 : goal.overflow_mul-result-2
overflow_mul-result-2 c = rw c.from.ensures (omega (arith, product_le c.args.self.now.columns c.args.block.bits c.args.block.cells c.args.place c.args.block.sized c.requires.taken c.requires.within))

pub overflow_add-result : goal.overflow_add-result
overflow_add-result c = rw (c.positions-n.ensures, c.from.ensures) (omega (arith, column_inside c.args.self.now.columns c.args.block.bits c.args.block.cells c.args.place c.args.block.sized c.requires.taken c.requires.within, size_le c.args.block.bits c.args.block.cells c.args.block.sized.few_bits c.args.block.sized.few_cells))
