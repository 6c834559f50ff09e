-- What is shown of every reception. Assumes nothing.
use Rattle.std.specs.Prelude.{◌≡◌, ℕ, List}
use Rattle.paths.specs.Orders.{IsSum, Metric}
use Rattle.paths.specs.Paths.{Inputs}
use Rattle.softbits.specs.Demapping.{Tells}
use Rattle.sending.specs.Links.{Planned, cells}
use Rattle.sending.specs.Cells.{sent_cells}
use Rattle.trellis.specs.Nearest.{LeastTotal}
use Rattle.reception.specs.Entries.{AllInRange, Entry, Reception, received_at}
use Rattle.reception.specs.Decided.{Decided}
use Rattle.reception.specs.Unharmed.{PrefersFree, Weights, unharmed}

-- the message of the least total is as near as the demapper allows, and with the exact one the nearest
abbrev pub LeastIsNearest : Type 0 → Type 0
LeastIsNearest X = (R : Reception) (M : Metric X) (es : List Entry) (ms : List ℕ) (t : X) → Planned R.link → AllInRange es →
    LeastTotal R.link.coding R.link.K M (received_at R es) ms t → Decided R M es ms t

-- Cells sent and received unharmed, with any weights above zero: a message of the least total sends the same cells. For every demapper
-- that tells the bits of a level, and every order that prefers what pays nothing.
abbrev pub UnharmedComesBack : Type 0 → Type 0
UnharmedComesBack X = (R : Reception) (M : Metric X) (ms rs ws : List ℕ) (t : X) → Planned R.link → Tells R.demapping → PrefersFree M → Inputs R.link.K ms → Weights (cells R.link) ws →
    LeastTotal R.link.coding R.link.K M (received_at R (unharmed (sent_cells R.link ms) ws)) rs t → sent_cells R.link rs ≡ sent_cells R.link ms

-- where totals are sums, all penalties 0 are lower than any that are not all 0
abbrev pub SumsPreferFree : Type 0 → Type 0
SumsPreferFree X = (M : Metric X) → IsSum M → PrefersFree M
