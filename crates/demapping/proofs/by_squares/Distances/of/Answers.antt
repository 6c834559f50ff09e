-- `Distances::of` meets its contract: an axis has at most the 16 levels of the table.
use Rattle.std.proofs.Common.{arith}
use Rattle.qam.proofs.Axes.{levels_few}
use Rattle.demapping.proofs.by_squares.Distances.of.Goals as goal

pub returns-clause-each : goal.returns-clause-each
returns-clause-each c = record { each = λ i h. c.loop-number.invariant i (omega (arith, levels_few c.args.axis.bits c.args.axis.is_axis.few)) }
