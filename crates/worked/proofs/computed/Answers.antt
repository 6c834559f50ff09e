-- `computed` carries its theorem: antt computes each number.
use mathlib.Core.Path.{refl}
use lib.Count.{ones, ones_in}
use Rattle.coding.specs.Puncturing.{sends_first, sends_second}
use Rattle.worked.proofs.computed.Goals as goal

pub returns : goal.returns
unfolding ones ones_in sends_first sends_second
returns c = record { all = record { two_bits_1 = refl; two_bits_191 = refl; three_bits_1 = refl; long_of_1 = refl; long_of_1_punctured = refl; recursive_of_10 = refl; soft_bits = c.worked_soft_bits.ensures; totals = c.worked_totals.ensures } }
