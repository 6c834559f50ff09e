-- Paths with their newest input first, and what it is to be the best of some. Assumes nothing.
use Rattle.std.proofs.Common.{◌≡◌, ℕ, zero, suc, ◌<◌, false, ◌⊎◌, List, [], ◌∷◌, length, Some, None, Option}
use Rattle.paths.specs.Codes.{Code}
use Rattle.paths.specs.Orders.{Metric}
use Rattle.paths.specs.Survivors.{Costs, stepped}

-- n bits
abbrev pub Bits : ℕ → List ℕ → Type 0
Bits zero [] = Unit {0}
Bits zero (b ∷ bs) = ⊥
Bits (suc n) [] = ⊥
Bits (suc n) (b ∷ bs) = (b < 2) × Bits n bs

-- the state in which they end, from s
abbrev pub from : Code → ℕ → List ℕ → ℕ
from C s [] = s
from C s (b ∷ bs) = C.next (from C s bs) b

abbrev pub ends : Code → List ℕ → ℕ
ends C bs = from C 0 bs

abbrev pub trail : Code → List ℕ → List ℕ
trail C [] = []
trail C (b ∷ bs) = C.next (ends C bs) b ∷ trail C bs

-- of two trails, newest state first: lower at the first difference
abbrev pub Lower : List ℕ → List ℕ → Type 0
Lower [] ys = ⊥
Lower (x ∷ xs) [] = ⊥
Lower (x ∷ xs) (y ∷ ys) = (x < y) ⊎ ((x ≡ y) × Lower xs ys)

abbrev pub total : {X : Type 0} → Code → Metric X → Costs → List ℕ → X
total C M costs [] = M.start
total C M costs (b ∷ bs) = stepped C M costs (length bs) (ends C bs) b (total C M costs bs)

-- the path bs is as good as cs or better: not of a higher total, and at equal totals the same path, or the one of the lower trail
pub record Beats {X : Type 0} (C : Code) (M : Metric X) (costs : Costs) (bs cs : List ℕ) : Type 0 where
  pub not_higher : M.lt (total C M costs cs) (total C M costs bs) ≡ false
  pub tie : total C M costs cs ≡ total C M costs bs → (cs ≡ bs) ⊎ Lower (trail C bs) (trail C cs)

-- bs is the best of the paths of which Q holds, and its total is t
pub record Winner {X : Type 0} (C : Code) (M : Metric X) (costs : Costs) (Q : List ℕ → Type 0) (t : X) (bs : List ℕ) : Type 0 where
  pub member : Q bs
  pub sum : total C M costs bs ≡ t
  pub beats : (cs : List ℕ) → Q cs → Beats C M costs bs cs

-- the same where there may be no such path
abbrev pub Won : {X : Type 0} → Code → Metric X → Costs → (List ℕ → Type 0) → Option X → List ℕ → Type 0
Won C M costs Q None bs = (cs : List ℕ) → Q cs → ⊥
Won C M costs Q (Some t) bs = Winner C M costs Q t bs

-- cs has n inputs and ends in s
pub record Into (C : Code) (n s : ℕ) (cs : List ℕ) : Type 0 where
  pub bits : Bits n cs
  pub arrives : ends C cs ≡ s
