-- What every call on a frame checks first: its plan and its soft store. Assumes nothing.
use Rattle.std.specs.Prelude.{◌≡◌, ℕ, ◌≤◌, Some, Ok, Err, Result}
use Rattle.refusals.specs.declared.Refusal.{Refusal}
use Rattle.refusals.specs.Numbers.{first_met, number}
use Rattle.sending.specs.declared.plan.FrameSize.{FrameSize}
use Rattle.sending.specs.Links.{Link, positions}
use Rattle.sending.specs.Sizes.{GrantedSize}
use Rattle.receiver.specs.Rows.{open_rows}

-- the sizes, of a plan that no row refuses and a store with a number for each position; or the number of the first row that is met
abbrev pub Checked : Link → ℕ → Result FrameSize Refusal → Type 0
Checked L store (Ok z) = GrantedSize L z × (positions L ≤ store)
Checked L store (Err r) = first_met (open_rows L store) ≡ Some (number r)
