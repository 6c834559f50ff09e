-- A message's path, reckoned step by step. Assumes nothing.
use Rattle.std.specs.Prelude.{ℕ, suc, ◌-◌, ◌*◌, ◌<◌, List, [], ◌∷◌, ℤ, Some, None, Option}
use Rattle.paths.specs.Best.{total_from}
use Rattle.paths.specs.Orders.{Bears, Metric}
use Rattle.paths.specs.Survivors.{stepped}
use Rattle.coding.specs.Encoding.{Coding, code_of}
use Rattle.tally.specs.declared.reckoning.Walk.{Walk}
use Rattle.trellis.specs.Penalties.{limited, penalty}
use Rattle.trellis.specs.Steps.{costs_at}

-- what a code bit pays at its soft number, if it is sent
abbrev pub paid_at : Option ℤ → ℕ → List ℕ
paid_at None c = []
paid_at (Some z) c = penalty (limited z) c ∷ []

-- one step by the input b, and what is come to by the inputs bs
abbrev pub walked : {X : Type 0} → Coding → Metric X → (ℕ → ℤ) → Walk X → ℕ → Walk X
walked Q M v w b = record { step = suc w.step; state = (code_of Q).next w.state b; total = stepped (code_of Q) M (costs_at Q.rate v) w.step w.state b w.total }

abbrev pub comes_to : {X : Type 0} → Coding → Metric X → (ℕ → ℤ) → Walk X → List ℕ → X
comes_to Q M v w bs = total_from (code_of Q) M (costs_at Q.rate v) w.step w.state w.total bs

-- a state of the code, and a total that bears the penalties of the steps up to 4,096
pub record Going {X : Type 0} (Q : Coding) (M : Metric X) (w : Walk X) : Type 0 where
  pub inside : w.state < (code_of Q).states
  pub bears : Bears M (2 * (4096 - w.step)) w.total
