-- Which code bits of each step are sent: a pattern for first and one for second code bits, repeated from step 0. Assumes nothing.
use Rattle.std.specs.Prelude.{ℕ, zero, suc, ◌+◌, ◌*◌, ◌/◌, ◌%◌, Bool, true, false, cond, List, [], ◌∷◌, length, slice_index_or}
use Rattle.coding.specs.declared.puncture.Rate.{Rate}
use Rattle.coding.specs.declared.puncture.Rate.TheVariants.{Half, TwoThirds, ThreeQuarters}

-- true where the code bit is sent
abbrev pub first_row : Rate → List Bool
first_row Half = true ∷ []
first_row TwoThirds = true ∷ true ∷ []
first_row ThreeQuarters = true ∷ true ∷ false ∷ []

abbrev pub second_row : Rate → List Bool
second_row Half = true ∷ []
second_row TwoThirds = true ∷ false ∷ []
second_row ThreeQuarters = true ∷ false ∷ true ∷ []

-- whether the first, and the second, code bit of step k is sent
unfoldable pub sends_first : Rate → ℕ → Bool
sends_first rate k = slice_index_or (first_row rate) (k % length (first_row rate)) false

unfoldable pub sends_second : Rate → ℕ → Bool
sends_second rate k = slice_index_or (second_row rate) (k % length (second_row rate)) false

-- how many bits n steps send: so the position of the first bit that is sent at step n
unfoldable pub sent_before : Rate → ℕ → ℕ
sent_before rate zero = 0
sent_before rate (suc k) = sent_before rate k + cond (sends_first rate k) 1 0 + cond (sends_second rate k) 1 0

-- the same without counting step by step
abbrev pub sent_in_all : Rate → ℕ → ℕ
sent_in_all Half n = 2 * n
sent_in_all TwoThirds n = (3 * n + 1) / 2
sent_in_all ThreeQuarters n = (4 * n + 2) / 3
