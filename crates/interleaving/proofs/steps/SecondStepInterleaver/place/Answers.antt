-- `SecondStep`'s `place` meets its contract: what it computes fits its type.
use Rattle.std.proofs.Common.{arith}
use Rattle.interleaving.proofs.Bounds.{column_inside, product_le}
use Rattle.interleaving.proofs.steps.SecondStepInterleaver.place.Goals as goal

pub overflow_mul-result-2 : goal.overflow_mul-result-2
overflow_mul-result-2 c = rw c.from.ensures (omega (arith, product_le c.args.self.now.columns c.args.block.bits c.args.block.cells c.args.position c.args.block.sized c.requires.taken c.requires.within))

pub overflow_sub-result : goal.overflow_sub-result
overflow_sub-result c = rw (c.positions-n.ensures, c.from.ensures) (omega (arith, column_inside c.args.self.now.columns c.args.block.bits c.args.block.cells c.args.position c.args.block.sized c.requires.taken c.requires.within))
