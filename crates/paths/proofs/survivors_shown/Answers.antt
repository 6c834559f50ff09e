-- `survivors_shown` carries its theorem.
use Rattle.paths.proofs.Closes.{best_path}
use Rattle.paths.proofs.survivors_shown.Goals as goal

pub returns : goal.returns
returns g c = record { best = best_path }
