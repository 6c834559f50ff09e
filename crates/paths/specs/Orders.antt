-- What an order of totals is: how totals start, take a penalty and compare, and the laws that it owes. Assumes nothing.
use Rattle.std.specs.Prelude.{◌≡◌, ℕ, zero, suc, ◌+◌, ◌≤◌, Bool, true, false, List, [], ◌∷◌, nat_lt}

-- the largest penalty, and how many penalties a total must bear
abbrev pub heaviest : ℕ
heaviest = 16_759_809

abbrev pub most_penalties : ℕ
most_penalties = 8_192

-- What totals are: how they start, how a penalty is added, and which is lower.
pub record Metric (X : Type 0) : Type 0 where
  pub start : X
  pub add : X → ℕ → X
  pub lt : X → X → Bool

-- penalties added one after another
abbrev pub adds : {X : Type 0} → Metric X → X → List ℕ → X
adds M t [] = t
adds M t (p ∷ ps) = adds M (M.add t p) ps

-- t is the start with n penalties added, each at most the heaviest
pub data Reached {X : Type 0} (M : Metric X) : ℕ → X → Type 0 where
  none : Reached M zero M.start
  more : {n : ℕ} {t : X} {p : ℕ} → Reached M n t → p ≤ heaviest → Reached M (suc n) (M.add t p)

-- t is reached by so few penalties that n more may follow
pub record Bears {X : Type 0} (M : Metric X) (n : ℕ) (t : X) : Type 0 where
  pub count : ℕ
  pub room : count + n ≤ most_penalties
  pub reached : Reached M count t

-- What an order owes, of any totals within the most penalties, whether or not they took equally many: of two, at most one is lower;
-- "not lower" goes on from total to total; two of which neither is lower are the same; and the lower of two stays strictly lower
-- when both take the same penalty. Nothing is owed of the order in which penalties come, nor of a penalty of 0.
pub record OrderLaws {X : Type 0} (M : Metric X) : Type 0 where
  pub one_way : (t u : X) → Bears M 0 t → Bears M 0 u → M.lt t u ≡ true → M.lt u t ≡ false
  pub chain : (t u v : X) → Bears M 0 t → Bears M 0 u → Bears M 0 v → M.lt t u ≡ false → M.lt u v ≡ false → M.lt t v ≡ false
  pub same : (t u : X) → Bears M 0 t → Bears M 0 u → M.lt t u ≡ false → M.lt u t ≡ false → t ≡ u
  pub strict : (t u : X) (p : ℕ) → p ≤ heaviest → Bears M 1 t → Bears M 1 u → M.lt t u ≡ true → M.lt (M.add t p) (M.add u p) ≡ true

-- an order with its laws
pub record Ordered (X : Type 0) : Type 0 where
  pub metric : Metric X
  pub lawful : OrderLaws metric

-- Totals that are sums: some reading of totals as numbers takes the start to 0, adding to +, and lower to <.
pub record IsSum {X : Type 0} (M : Metric X) : Type 0 where
  pub size : X → ℕ
  pub from_zero : size M.start ≡ 0
  pub adds_up : (t : X) (p : ℕ) → size (M.add t p) ≡ size t + p
  pub by_size : (t u : X) → M.lt t u ≡ nat_lt (size t) (size u)
