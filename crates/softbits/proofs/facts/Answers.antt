-- `facts` meets its contract: the tables were computed.
use Rattle.softbits.proofs.Theorems.{no_remainder, exact_few, same_sign, same_at_last}
use Rattle.softbits.proofs.Nearest.{near_is_nearest}
use Rattle.softbits.proofs.Signs.{signs_tell}
use Rattle.softbits.proofs.facts.Goals as goal

pub returns : goal.returns
returns c = record { divides = no_remainder; range = exact_few; same_sign = same_sign; same_last = same_at_last; nearest = near_is_nearest; tell = signs_tell }
