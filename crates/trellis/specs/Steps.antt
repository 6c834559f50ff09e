-- What one step of the search does: its penalties, its table of branches, its row and its decisions. Assumes nothing.
use Rattle.std.specs.Prelude.{◌≡◌, ℕ, ◌+◌, ◌*◌, ◌<◌, Bool, true, false, cond, List, [], ◌∷◌, ◌++◌, get_or, is_some, ℤ, Some, None, Option, slice_index, slice_index_or}
use Rattle.paths.specs.Codes.{Branch, Code}
use Rattle.paths.specs.Orders.{Metric, adds}
use Rattle.paths.specs.Survivors.{chosen, takes_second}
use Rattle.paths.specs.Rows.{held, Found}
use Rattle.coding.specs.declared.puncture.Rate.{Rate}
use Rattle.coding.specs.Puncturing.{sends_first, sends_second, sent_before}
use Rattle.coding.specs.Encoding.{if_sent}
use Rattle.trellis.specs.declared.cost.BitCost.{BitCost}
use Rattle.trellis.specs.declared.cost.Cost.{Cost}
use Rattle.trellis.specs.declared.search.Entered.{Entered}
use Rattle.trellis.specs.declared.table.Way.{Way}
use Rattle.trellis.specs.declared.table.Fork.{Fork}
use Rattle.trellis.specs.Penalties.{penalties}

-- ---- penalties

-- the penalties of the code bits c and d at step k, where position j has the soft number v j
abbrev pub costs_at : Rate → (ℕ → ℤ) → ℕ → ℕ → ℕ → List ℕ
costs_at rate v k c d = penalties v (sent_before rate k) (if_sent (sends_first rate k) c ++ if_sent (sends_second rate k) d)

-- how many they are
abbrev pub width_at : Rate → ℕ → ℕ
width_at rate k = cond (sends_first rate k) 1 0 + cond (sends_second rate k) 1 0

-- two code bits as one number
abbrev pub paired : ℕ → ℕ → ℕ
paired c d = 2 * c + d

-- what a code bit pays where both are the pair e, and what both pay
abbrev pub pays : Option BitCost → ℕ → List ℕ
pays None e = []
pays (Some b) e = slice_index b.by_pair e ∷ []

abbrev pub pair_pays : Cost → ℕ → List ℕ
pair_pays q e = pays q.first e ++ pays q.second e

abbrev pub cost_width : Cost → ℕ
cost_width q = cond (is_some q.first) 1 0 + cond (is_some q.second) 1 0

-- ---- branches

-- a branch with its code bits, and the two branches into a state
abbrev pub way_by : Code → Branch → Way
way_by C r = record { from = r.from; bits = paired (C.first r.from r.input) (C.second r.from r.input) }

abbrev pub fork_at : Code → ℕ → Fork
fork_at C s = record { lower = way_by C (C.lower s); higher = way_by C (C.higher s) }

-- a branch as the way back meets it
abbrev pub branch_by : Entered → Branch
branch_by e = record { from = e.from; input = e.input }

-- what stands in a table where nothing was written
abbrev pub no_fork : Fork
no_fork = record { lower = record { from = 0; bits = 0 }; higher = record { from = 0; bits = 0 } }

-- the table has the branches into the states below j
pub record Tabled (C : Code) (j : ℕ) (table : List Fork) : Type 0 where
  pub stands : (s : ℕ) → s < j → slice_index_or table s no_fork ≡ fork_at C s

-- its branches leave states of the table, and have code bits
pub record WayInside (states : ℕ) (w : Way) : Type 0 where
  pub from_state : w.from < states
  pub two_bits : w.bits < 4

abbrev pub ForksInside : ℕ → List Fork → Type 0
ForksInside states table = (s : ℕ) → s < states → WayInside states (get_or table s no_fork).lower × WayInside states (get_or table s no_fork).higher

-- ---- totals

-- a total carried along a branch
abbrev pub carried : {X : Type 0} → Metric X → Cost → Way → Option X → Option X
carried M q w None = None
carried M q w (Some t) = Some (adds M t (pair_pays q w.bits))

-- what a state is given where the two branches into it are f: its total, and whether it came by the higher
abbrev pub fork_total : {X : Type 0} → Metric X → Cost → (ℕ → Option X) → Fork → Option X
fork_total M q totals f = chosen M (carried M q f.lower (totals f.lower.from)) (carried M q f.higher (totals f.higher.from))

abbrev pub fork_higher : {X : Type 0} → Metric X → Cost → (ℕ → Option X) → Fork → Bool
fork_higher M q totals f = takes_second M (carried M q f.lower (totals f.lower.from)) (carried M q f.higher (totals f.higher.from))

-- ---- the end

-- where the best path ends: in state 0 if it is closed, and else in the state of the least total
abbrev pub RowEnd : {X : Type 0} → Metric X → Bool → List X → ℕ → ℕ → Option (ℕ × X) → Type 0
RowEnd M true row mask states r = r ≡ Some (0, slice_index_or row 0 M.start)
RowEnd M false row mask states r = Found M (held M row mask) states r
