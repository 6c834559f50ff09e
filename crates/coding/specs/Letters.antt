-- The letters by which a plan names a code and an end, and the numbers by which it names a rate. Assumes nothing.
use Rattle.std.specs.Prelude.{ℕ, cond, Some, None, Option, ◌==◌}
use Rattle.coding.specs.declared.kind.CodeKind.{CodeKind}
use Rattle.coding.specs.declared.kind.CodeKind.TheVariants.{Long, Recursive}
use Rattle.coding.specs.declared.ending.End.{End}
use Rattle.coding.specs.declared.ending.End.TheVariants.{Closed, Open}
use Rattle.coding.specs.declared.puncture.Rate.{Rate}
use Rattle.coding.specs.declared.puncture.Rate.TheVariants.{Half, TwoThirds, ThreeQuarters}

-- 'L' is 76 and 'R' is 82
abbrev pub code_lettered : ℕ → Option CodeKind
code_lettered l = cond (l == 76) (Some Long) (cond (l == 82) (Some Recursive) None)

-- 'C' is 67 and 'O' is 79
abbrev pub end_lettered : ℕ → Option End
end_lettered l = cond (l == 67) (Some Closed) (cond (l == 79) (Some Open) None)

-- 1, 2 and 3 for the rates 1/2, 2/3 and 3/4
abbrev pub rate_numbered : ℕ → Option Rate
rate_numbered n = cond (n == 1) (Some Half) (cond (n == 2) (Some TwoThirds) (cond (n == 3) (Some ThreeQuarters) None))
