-- What the loop of `Distances::least_with` keeps: the least so far.
use Rattle.std.proofs.Common.{◌≡◌, eqb}
use Rattle.qam.specs.Levels.{label_bit}
use Rattle.softbits.specs.SoftBits.{first_with, least}
use Rattle.demapping.specs.Steps.{at}
use Rattle.demapping.proofs.by_squares.Distances.least_with.Given as goal

abbrev pub invariant-loop-number : goal.invariant-loop-number
invariant-loop-number l = l.least ≡ least (λ i. eqb (label_bit l.self.axis.bits l.k i) l.c) (at l.self.squared) (at l.self.squared (first_with l.self.axis.bits l.k l.c)) l.number
