-- The texts that name a code, an end and a rate. Assumes nothing.
use Rattle.std.specs.Prelude.{ℕ, List, codes}
use Rattle.coding.specs.declared.kind.CodeKind.{CodeKind}
use Rattle.coding.specs.declared.kind.CodeKind.TheVariants.{Long, Recursive}
use Rattle.coding.specs.declared.ending.End.{End}
use Rattle.coding.specs.declared.ending.End.TheVariants.{Closed, Open}
use Rattle.coding.specs.declared.puncture.Rate.{Rate}
use Rattle.coding.specs.declared.puncture.Rate.TheVariants.{Half, TwoThirds, ThreeQuarters}

abbrev pub code_name : CodeKind → List ℕ
code_name Long = codes "L"
code_name Recursive = codes "R"

abbrev pub end_name : End → List ℕ
end_name Closed = codes "C"
end_name Open = codes "O"

abbrev pub rate_name : Rate → List ℕ
rate_name Half = codes "1/2"
rate_name TwoThirds = codes "2/3"
rate_name ThreeQuarters = codes "3/4"
