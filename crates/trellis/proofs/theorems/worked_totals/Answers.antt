-- `worked_totals` carries the worked example, by computation.
use Rattle.std.proofs.Common.{refl}
use Rattle.coding.specs.Puncturing.{sends_first, sends_second}
use Rattle.trellis.specs.Worked.{WorkedTotals}
use Rattle.trellis.proofs.theorems.worked_totals.Goals as goal

totals : WorkedTotals
unfolding sends_first sends_second
totals = record { of_00 = refl; of_01 = refl; of_10 = refl; of_11 = refl }

pub returns : goal.returns
returns c = totals
