-- The number of each refusal, and which row of a table of checks is met first. Assumes nothing.
use Rattle.std.specs.Prelude.{ℕ, Bool, cond, ◌||◌, List, [], ◌∷◌, Some, None, Option, nat_lt}
use Rattle.refusals.specs.declared.Refusal.{Refusal}
use Rattle.refusals.specs.declared.Refusal.TheVariants.{BitsPerAxis, MessageLength, BlockLength, BlockNotTaken, SoftNumbers, ReadingRange, WeightRange, FrameFull, CellsMissing, DecisionStore, TotalStore, MessageBuffer, MessageBit, CellBuffer}

-- the number that a refusal goes by
abbrev pub number : Refusal → ℕ
number BitsPerAxis = 1
number MessageLength = 2
number BlockLength = 3
number BlockNotTaken = 4
number SoftNumbers = 5
number ReadingRange = 6
number WeightRange = 7
number FrameFull = 8
number CellsMissing = 9
number DecisionStore = 10
number TotalStore = 11
number MessageBuffer = 12
number MessageBit = 13
number CellBuffer = 14

-- n is below low or above high
abbrev pub outside : ℕ → ℕ → ℕ → Bool
outside low high n = nat_lt n low || nat_lt high n

-- Of a table of checks, each with its number: the number of the first that is met.
abbrev pub first_met : List (Bool × ℕ) → Option ℕ
first_met [] = None
first_met (r ∷ rs) = cond r.0 (Some r.1) (first_met rs)
