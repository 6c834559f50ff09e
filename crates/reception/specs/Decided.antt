-- What a decoder promises of its message, over what was received. Assumes nothing.
use Rattle.std.specs.Prelude.{ℕ, ◌+◌, ◌*◌, ◌≤◌, List}
use Rattle.paths.specs.Orders.{IsSum, Metric}
use Rattle.paths.specs.Paths.{Inputs}
use Rattle.softbits.specs.SoftBits.{divisor}
use Rattle.softbits.specs.Demapping.{IsExact}
use Rattle.trellis.specs.Nearest.{LeastTotal}
use Rattle.reception.specs.Entries.{Entry, Reception, received_at}
use Rattle.reception.specs.Distances.{distance, gaps}

-- The message ms of K bits has the total t, no rival's total is lower, and a rival of the same total has a later trail. Where totals
-- are sums, its distance exceeds a rival's by at most 256 times the weighted gaps where the two differ; with the exact demapper no
-- rival's distance is smaller.
pub record Decided {X : Type 0} (R : Reception) (M : Metric X) (es : List Entry) (ms : List ℕ) (t : X) : Type 0 where
  pub least : LeastTotal R.link.coding R.link.K M (received_at R es) ms t
  pub near_enough : IsSum M → (rs : List ℕ) → Inputs R.link.K rs → distance R es ms ≤ distance R es rs + divisor * gaps R es ms rs
  pub nearest : IsSum M → IsExact R.demapping → (rs : List ℕ) → Inputs R.link.K rs → distance R es ms ≤ distance R es rs
