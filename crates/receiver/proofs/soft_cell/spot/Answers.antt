-- `soft_cell::spot` meets its contract: its parts fit, since it does.
use Rattle.std.proofs.Common.{arith}
use Rattle.receiver.proofs.soft_cell.spot.Goals as goal

pub overflow_mul-result : goal.overflow_mul-result
overflow_mul-result g c = rw (c.from-cells.ensures, c.positions.ensures) (omega (arith, c.requires.fits))

pub overflow_add-result : goal.overflow_add-result
overflow_add-result g c = rw (c.position.ensures, c.cell_bits.ensures, c.positions.ensures, c.from-cells.ensures) (omega (arith, c.requires.fits))
