-- What the rows of totals and the decision words of a search hold, and the way back through the words. Assumes nothing.
use Rattle.std.specs.Prelude.{◌≡◌, ℕ, ◌/◌, ◌%◌, ◌^◌, ◌<◌, Bool, cond, List, ◌++◌, reverse, length, drop, is_some, Some, None, Option, ◌==◌, slice_index, slice_index_or, slice_set}
use Rattle.paths.specs.Codes.{Code}
use Rattle.paths.specs.Orders.{Metric}
use Rattle.paths.specs.Survivors.{Costs, along, chosen, takes_second, survivor_total, came_higher, traced}
use Rattle.paths.specs.Best.{Least}

-- ---- words

-- bit s of w
abbrev pub bit_of : ℕ → ℕ → Bool
bit_of w s = w / 2 ^ s % 2 == 1

-- a word of j bits, which are f's
pub record Marks (f : ℕ → Bool) (j w : ℕ) : Type 0 where
  pub below : w < 2 ^ j
  pub holds : (s : ℕ) → s < j → bit_of w s ≡ f s

-- the bits of a list of words
abbrev pub bits_of : List ℕ → ℕ → ℕ → Bool
bits_of ws k s = bit_of (slice_index ws k) s

-- ---- rows

-- the totals in a row: those of the states that the mask marks, and no other
abbrev pub held : {X : Type 0} → Metric X → List X → ℕ → ℕ → Option X
held M row mask s = cond (bit_of mask s) (Some (slice_index_or row s M.start)) None

-- a row with the total of the state j, if it has one
abbrev pub kept : {X : Type 0} → List X → ℕ → Option X → List X
kept row j None = row
kept row j (Some t) = slice_set row j t

-- a row and its mask have the totals f of the states below j
pub record Holding {X : Type 0} (M : Metric X) (f : ℕ → Option X) (j : ℕ) (row : List X) (mask : ℕ) : Type 0 where
  pub marked : Marks (λ s. is_some (f s)) j mask
  pub totals : (s : ℕ) (t : X) → s < j → f s ≡ Some t → slice_index_or row s M.start ≡ t

-- what the state s is given at step n, from the totals before: its total, and whether it came by the branch `higher s`
abbrev pub entry : {X : Type 0} → Code → Metric X → Costs → ℕ → (ℕ → Option X) → ℕ → Option X
entry C M costs n totals s = chosen M (along C M costs n (C.lower s) (totals (C.lower s).from)) (along C M costs n (C.higher s) (totals (C.higher s).from))

abbrev pub decision : {X : Type 0} → Code → Metric X → Costs → ℕ → (ℕ → Option X) → ℕ → Bool
decision C M costs n totals s = takes_second M (along C M costs n (C.lower s) (totals (C.lower s).from)) (along C M costs n (C.higher s) (totals (C.higher s).from))

-- the totals after n steps are the survivors'
pub record Row {X : Type 0} (C : Code) (M : Metric X) (costs : Costs) (n : ℕ) (totals : ℕ → Option X) : Type 0 where
  pub holds : (s : ℕ) → s < C.states → totals s ≡ survivor_total C M costs n s

-- the words of the first n steps say how the survivors came
pub record Words {X : Type 0} (C : Code) (M : Metric X) (costs : Costs) (n : ℕ) (ws : List ℕ) : Type 0 where
  pub holds : (k : ℕ) → k < n → Marks (came_higher C M costs k) C.states (slice_index ws k)

-- ---- the least of a row

-- The search for the least among the states below j has found this: none has a total, or the least and its total.
abbrev pub Found : {X : Type 0} → Metric X → (ℕ → Option X) → ℕ → Option (ℕ × X) → Type 0
Found M totals j None = (k : ℕ) → k < j → totals k ≡ None
Found M totals j (Some p) = Least M totals j p.0 p.1

-- what is found with the total of j besides
abbrev pub better : {X : Type 0} → Metric X → Option (ℕ × X) → ℕ → Option X → Option (ℕ × X)
better M best j None = best
better M None j (Some u) = Some (j, u)
better M (Some p) j (Some u) = cond (M.lt u p.1) (Some (j, u)) (Some p)

-- ---- the way back

-- The way back from the state e after n steps passes through the state s after k steps.
pub record Passes (C : Code) (back : ℕ → ℕ → Bool) (n e k s : ℕ) : Type 0 where
  pub inside : s < C.states
  pub split : (xs : List ℕ) × (traced C back n e ≡ xs ++ traced C back k s)

-- It has come to the state s after k steps, and `out` has the inputs from step k on.
pub record Tracing (C : Code) (back : ℕ → ℕ → Bool) (n e k s : ℕ) (out : List ℕ) : Type 0 where
  pub room : length out ≡ n
  pub inside : s < C.states
  pub split : reverse (traced C back n e) ≡ reverse (traced C back k s) ++ drop k out
