-- What C is lent: the long code, closed, at rate 1/2; and the number that answers a call. Assumes nothing.
use Rattle.std.specs.Prelude.{ℕ, Some, None, Option}
use Rattle.paths.specs.Endings.{Tail.closed_by}
use Rattle.coding.specs.declared.puncture.Rate.TheVariants.{Half}
use Rattle.coding.specs.Encoding.{Coding}
use Rattle.coding.specs.Long.{long_closer, long_trellis}
use Rattle.trellis.specs.Nearest.{coded}

abbrev pub long_coding : Coding
long_coding = coded long_trellis (closed_by long_closer) Half

-- 0 where nothing is refused
abbrev pub answered : Option ℕ → ℕ
answered None = 0
answered (Some n) = n
