-- `shown` carries the theorems.
use Rattle.reception.proofs.Nearest.{least_is_nearest}
use Rattle.reception.proofs.Coming.{unharmed_comes_back}
use Rattle.reception.proofs.Preferring.{counts_prefer_free, sums_prefer_free}
use Rattle.reception.proofs.shown.Goals as goal

pub returns : goal.returns
returns g c = record { nearest = least_is_nearest; back = unharmed_comes_back; sums = sums_prefer_free; counts = counts_prefer_free }
