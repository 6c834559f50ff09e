-- `theorems::shown` carries the theorems.
use Rattle.interleaving.proofs.Bijective.{every_interleaver, every_column_count, two_step_takes}
use Rattle.interleaving.proofs.Spots.{every_position_once}
use Rattle.interleaving.proofs.theorems.shown.Goals as goal

pub returns : goal.returns
returns c = record { each = every_interleaver; columns = every_column_count; taken = two_step_takes; once = every_position_once }
