-- `shown` carries the theorems.
use Rattle.paths.proofs.Closings.{closing_takes_steps}
use Rattle.paths.proofs.Tests.{lawful_from_ok, closer_from_ok}
use Rattle.paths.proofs.shown.Goals as goal

pub returns : goal.returns
returns c = record { codes = lawful_from_ok; closers = closer_from_ok; closing = closing_takes_steps }
