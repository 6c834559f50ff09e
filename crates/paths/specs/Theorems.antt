-- What is shown of every code. Assumes nothing.
use Rattle.std.specs.Prelude.{◌≡◌, ◌<◌, true}
use Rattle.paths.specs.Codes.{Code, CodeLaws}
use Rattle.paths.specs.Endings.{Closer, CloserLaws}
use Rattle.paths.specs.Tests.{code_ok, closer_ok}

-- a code that passes the test keeps its laws
abbrev pub CodeTest : Type 0
CodeTest = (C : Code) → code_ok C ≡ true → CodeLaws C

-- a way of closing that passes the test keeps its laws
abbrev pub CloserTest : Type 0
CloserTest = (C : Code) (E : Closer) → CodeLaws C → closer_ok C E ≡ true → CloserLaws C E

-- to close takes at least one step: no code is closed by nothing
abbrev pub ClosingTakesSteps : Type 0
ClosingTakesSteps = (C : Code) (E : Closer) → CodeLaws C → CloserLaws C E → 0 < E.memory
