-- Which messages have a total that is reckoned by itself, and what it is. Assumes nothing.
use Rattle.std.specs.Prelude.{◌≡◌, ℕ, ◌≤◌, List, length, ℤ, Some, None, Option}
use Rattle.paths.specs.Orders.{Metric}
use Rattle.paths.specs.Paths.{Inputs}
use Rattle.coding.specs.Encoding.{Coding}
use Rattle.trellis.specs.Penalties.{total}

-- at most 4,090 bytes, each a bit
pub record Reckonable (ms : List ℕ) : Type 0 where
  pub few : length ms ≤ 4090
  pub bits : Inputs (length ms) ms

-- the message's total, or none exactly where the message is not such
abbrev pub Reckoned : {X : Type 0} → Coding → Metric X → (ℕ → ℤ) → List ℕ → Option X → Type 0
Reckoned Q M v ms (Some t) = Reckonable ms × (total Q M v ms ≡ t)
Reckoned Q M v ms None = Reckonable ms → ⊥
