-- The best path and the best message: what is promised of survivors, in the order of time. Assumes nothing.
use Rattle.std.specs.Prelude.{◌≡◌, ℕ, zero, suc, ◌+◌, ◌<◌, ◌≤◌, true, false, ◌⊎◌, List, [], ◌∷◌, length, take, Some, Option, MatchOption, slice_index, slice_index_or}
use Rattle.paths.specs.Codes.{Code, CodeLaws}
use Rattle.paths.specs.Paths.{Inputs, path_end, path_states}
use Rattle.paths.specs.Endings.{Tail, Tail.unclosed, Tail.closed_by, TailLaws, closing_steps, inputs}
use Rattle.paths.specs.Orders.{Metric, OrderLaws, heaviest, most_penalties}
use Rattle.paths.specs.Survivors.{Costs, stepped, survivor_total, survivor_path}

-- ---- what is asked

-- none of the penalties is above the heaviest
abbrev pub Small : List ℕ → Type 0
Small [] = Unit {0}
Small (p ∷ ps) = (p ≤ heaviest) × Small ps

-- step k adds `width k` penalties, whatever its code bits are, and none above the heaviest
pub record CostsLaws (costs : Costs) (width : ℕ → ℕ) : Type 0 where
  pub count : (k c d : ℕ) → c < 2 → d < 2 → length (costs k c d) ≡ width k
  pub small : (k c d : ℕ) → c < 2 → d < 2 → Small (costs k c d)

-- how many penalties the first n steps add
abbrev pub most : (ℕ → ℕ) → ℕ → ℕ
most width zero = 0
most width (suc n) = most width n + width n

-- the laws of a code, of an order and of the steps' penalties
pub record Setting {X : Type 0} (C : Code) (M : Metric X) (costs : Costs) (width : ℕ → ℕ) : Type 0 where
  pub code : CodeLaws C
  pub order : OrderLaws M
  pub paid : CostsLaws costs width

-- ---- paths by their totals

-- t with the penalties of the steps k, k + 1, .. from the state s
abbrev pub total_from : {X : Type 0} → Code → Metric X → Costs → ℕ → ℕ → X → List ℕ → X
total_from C M costs k s t [] = t
total_from C M costs k s t (b ∷ bs) = total_from C M costs (suc k) (C.next s b) (stepped C M costs k s b t) bs

abbrev pub path_total : {X : Type 0} → Code → Metric X → Costs → List ℕ → X
path_total C M costs bs = total_from C M costs 0 0 M.start bs

-- xs has the smaller state at the last step where the two differ
pub record Earlier (xs ys : List ℕ) : Type 0 where
  pub last : ℕ
  pub within : last < length xs
  pub smaller : slice_index_or xs last 0 < slice_index ys last
  pub alike : (k : ℕ) → last < k → k < length xs → slice_index xs k ≡ slice_index ys k

-- The path bs is to be preferred to cs: its total is not higher, and at equal totals cs is bs or its states come later.
pub record Preferred {X : Type 0} (C : Code) (M : Metric X) (costs : Costs) (bs cs : List ℕ) : Type 0 where
  pub not_higher : M.lt (path_total C M costs cs) (path_total C M costs bs) ≡ false
  pub tie : path_total C M costs cs ≡ path_total C M costs bs → (cs ≡ bs) ⊎ Earlier (path_states C bs) (path_states C cs)

-- bs is the path preferred among those of which Q holds, and its total is t
pub record Best {X : Type 0} (C : Code) (M : Metric X) (costs : Costs) (Q : List ℕ → Type 0) (t : X) (bs : List ℕ) : Type 0 where
  pub among : Q bs
  pub total_is : path_total C M costs bs ≡ t
  pub preferred : (cs : List ℕ) → Q cs → Preferred C M costs bs cs

-- n inputs that lead to s
pub record Leading (C : Code) (n s : ℕ) (bs : List ℕ) : Type 0 where
  pub inputs : Inputs n bs
  pub leads : path_end C bs ≡ s

-- Of the messages of n bits, each with its closing inputs, ms is the best, and its total is t.
pub record BestMessage {X : Type 0} (C : Code) (M : Metric X) (costs : Costs) (T : Tail) (n : ℕ) (t : X) (ms : List ℕ) : Type 0 where
  pub bits : Inputs n ms
  pub own : path_total C M costs (inputs C T ms) ≡ t
  pub not_lower : (rs : List ℕ) → Inputs n rs → M.lt (path_total C M costs (inputs C T rs)) t ≡ false
  pub tie : (rs : List ℕ) → Inputs n rs → path_total C M costs (inputs C T rs) ≡ t → (rs ≡ ms) ⊎ Earlier (path_states C (inputs C T ms)) (path_states C (inputs C T rs))

-- ---- where the best path ends

-- s is, among the states below j, the one of the least total, t, and of equal ones the first; `totals` has each state's total
pub record Least {X : Type 0} (M : Metric X) (totals : ℕ → Option X) (j s : ℕ) (t : X) : Type 0 where
  pub inside : s < j
  pub has : totals s ≡ Some t
  pub lowest : (k : ℕ) (u : X) → k < j → totals k ≡ Some u → M.lt u t ≡ false
  pub first : (k : ℕ) (u : X) → k < s → totals k ≡ Some u → M.lt t u ≡ true

-- the state of the least total, or state 0 where the path is closed
abbrev pub Ended : {X : Type 0} → Metric X → Tail → (ℕ → Option X) → ℕ → ℕ → X → Type 0
Ended M unclosed totals size s t = Least M totals size s t
Ended M (closed_by E) totals size s t = (s ≡ 0) × (totals 0 ≡ Some t)

-- ---- the theorem

-- What is promised of n steps.
pub record SurvivorsBest {X : Type 0} (C : Code) (M : Metric X) (costs : Costs) (n : ℕ) : Type 0 where
  -- the survivor of s is the best path of n inputs to s; without one there is no such path
  pub survivors : (s : ℕ) → s < C.states → MatchOption (survivor_total C M costs n s) ((cs : List ℕ) → Leading C n s cs → ⊥) (λ t. Best C M costs (Leading C n s) t (survivor_path C M costs n s))
  -- however the frame ends, the survivor of the state in which it ends is the best message with its closing inputs
  pub ends_best : (T : Tail) → TailLaws C T → (m : ℕ) → m + closing_steps T ≡ n → (s : ℕ) (t : X) → Ended M T (survivor_total C M costs n) C.states s t → BestMessage C M costs T m t (take m (survivor_path C M costs n s))
  -- there is such a state
  pub some_end : (T : Tail) → TailLaws C T → (m : ℕ) → m + closing_steps T ≡ n → (s : ℕ) × ((t : X) × Ended M T (survivor_total C M costs n) C.states s t)
  -- other inputs take other states, so a rival of equal total that is another path comes strictly later
  pub apart : (bs cs : List ℕ) → Inputs n bs → Inputs n cs → path_states C bs ≡ path_states C cs → bs ≡ cs
  -- two best messages are one
  pub one_best : (T : Tail) → TailLaws C T → (m : ℕ) → m + closing_steps T ≡ n → (t u : X) (ms rs : List ℕ) → BestMessage C M costs T m t ms → BestMessage C M costs T m u rs → ms ≡ rs

-- For each code, order of totals and penalties that keep the laws, and as many steps as the count of penalties allows.
abbrev pub BestPath : Type 0 → Type 0
BestPath X = (C : Code) (M : Metric X) (costs : Costs) (width : ℕ → ℕ) → Setting C M costs width → (n : ℕ) → most width n ≤ most_penalties → SurvivorsBest C M costs n
