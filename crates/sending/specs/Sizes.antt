-- What the sizes of a frame are. Assumes nothing.
use Rattle.std.specs.Prelude.{◌≡◌, Some, None, Ok, Err, Result}
use Rattle.refusals.specs.declared.Refusal.{Refusal}
use Rattle.refusals.specs.Numbers.{number}
use Rattle.sending.specs.declared.plan.FrameSize.{FrameSize}
use Rattle.sending.specs.Links.{Link, Planned, block, cells, plan_refusal, positions, sent, steps}

abbrev pub size_of : Link → FrameSize
size_of L = record { steps = steps L; sent = sent L; block = block L; positions = positions L; cells = cells L }

-- The answer to a plan: its sizes, of a plan that no row refuses; or the number of the first row that does.
pub record GrantedSize (L : Link) (z : FrameSize) : Type 0 where
  pub no_row : plan_refusal L ≡ None
  pub sizes : z ≡ size_of L
  pub planned : Planned L

abbrev pub SizedUp : Link → Result FrameSize Refusal → Type 0
SizedUp L (Ok z) = GrantedSize L z
SizedUp L (Err f) = plan_refusal L ≡ Some (number f)
