-- What the loop of `Distances::of` keeps: the squares so far.
use Rattle.std.proofs.Common.{◌≡◌, ℕ, ◌<◌}
use Rattle.softbits.specs.SoftBits.{apart}
use Rattle.demapping.specs.Steps.{at}
use Rattle.demapping.proofs.by_squares.Distances.of.Given as goal

abbrev pub invariant-loop-number : goal.invariant-loop-number
invariant-loop-number l = (j : ℕ) → j < l.number → at l.square-items j ≡ apart l.axis.bits l.reading.steps j
