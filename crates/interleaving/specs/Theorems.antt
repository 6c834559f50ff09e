-- What is shown of every interleaver, and of the two steps for every number of columns. Assumes nothing.
use Rattle.std.specs.Prelude.{◌≡◌, ℕ, ◌*◌, ◌%◌, ◌<◌, ◌≤◌, true, ◌==◌}
use Rattle.interleaving.specs.Interleaving.{Interleaving, Sized, size}
use Rattle.interleaving.specs.Steps.{first, second}
use Rattle.interleaving.specs.TwoStep.{two_step}

-- place and position are inverse bijections of the numbers below n
pub record Bijections (n : ℕ) (place position : ℕ → ℕ) : Type 0 where
  pub places : (j : ℕ) → j < n → place j < n
  pub positions : (p : ℕ) → p < n → position p < n
  pub back : (j : ℕ) → j < n → position (place j) ≡ j
  pub forth : (p : ℕ) → p < n → place (position p) ≡ p

-- on every block that an interleaver takes
abbrev pub EveryInterleaver : Type 0
EveryInterleaver = (X : Interleaving) (m b : ℕ) → Sized m b → X.takes m b ≡ true → Bijections (size m b) (X.place m b) (X.position m b)

-- each step, wherever c columns divide 2b; m and b of any size
pub record BothSteps (c m b : ℕ) : Type 0 where
  pub first_step : Bijections (size m b) ((first c).place m b) ((first c).position m b)
  pub second_step : Bijections (size m b) ((second c).place m b) ((second c).position m b)

abbrev pub EveryColumnCount : Type 0
EveryColumnCount = (c m b : ℕ) → 1 ≤ c → 1 ≤ m → 1 ≤ b → (2 * b) % c ≡ 0 → BothSteps c m b

-- the two steps of 16 columns take a block exactly where 8 divides b
abbrev pub TwoStepTakes : Type 0
TwoStepTakes = (m b : ℕ) → two_step.takes m b ≡ (b % 8 == 0)
