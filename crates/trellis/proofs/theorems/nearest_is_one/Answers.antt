-- `nearest_is_one` carries its theorem.
use Rattle.trellis.proofs.Totalling.{one_nearest}
use Rattle.trellis.proofs.theorems.nearest_is_one.Goals as goal

pub returns : goal.returns
returns g c = one_nearest
