-- `shown` carries its theorem.
use Rattle.alternating.proofs.Parities.{cannot_be_closed}
use Rattle.alternating.proofs.shown.Goals as goal

pub returns : goal.returns
returns c = record { never = cannot_be_closed }
