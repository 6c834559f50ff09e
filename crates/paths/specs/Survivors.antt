-- The survivor of each state after each step: its total, how it came, and its inputs on the way back. Assumes nothing.
use Rattle.std.specs.Prelude.{ℕ, zero, suc, Bool, true, false, cond, List, [], ◌∷◌, reverse, Some, None, Option, ◌==◌}
use Rattle.paths.specs.Codes.{Branch, Code}
use Rattle.paths.specs.Orders.{Metric, adds}

-- What each step costs: the penalties of the code bits c and d at step k, in the order in which they are added.
abbrev pub Costs : Type 0
Costs = ℕ → ℕ → ℕ → List ℕ

-- t with the penalties of the branch out of s by b, at step k
abbrev pub stepped : {X : Type 0} → Code → Metric X → Costs → ℕ → ℕ → ℕ → X → X
stepped C M costs k s b t = adds M t (costs k (C.first s b) (C.second s b))

-- a total carried along a branch at step k
abbrev pub along : {X : Type 0} → Code → Metric X → Costs → ℕ → Branch → Option X → Option X
along C M costs k r None = None
along C M costs k r (Some t) = Some (stepped C M costs k r.from r.input t)

-- whether the second of two is taken: only where it is lower, or alone
abbrev pub takes_second : {X : Type 0} → Metric X → Option X → Option X → Bool
takes_second M None None = false
takes_second M None (Some u) = true
takes_second M (Some t) None = false
takes_second M (Some t) (Some u) = M.lt u t

abbrev pub chosen : {X : Type 0} → Metric X → Option X → Option X → Option X
chosen M t u = cond (takes_second M t u) u t

-- the total of the survivor of the state s after n steps; None where no path leads there
unfoldable pub survivor_total : {X : Type 0} → Code → Metric X → Costs → ℕ → ℕ → Option X
survivor_total C M costs zero s = cond (s == 0) (Some M.start) None
survivor_total C M costs (suc n) s =
    chosen M (along C M costs n (C.lower s) (survivor_total C M costs n (C.lower s).from)) (along C M costs n (C.higher s) (survivor_total C M costs n (C.higher s).from))

-- whether the survivor of s after n + 1 steps came by the branch `higher s`
unfoldable pub came_higher : {X : Type 0} → Code → Metric X → Costs → ℕ → ℕ → Bool
came_higher C M costs n s =
    takes_second M (along C M costs n (C.lower s) (survivor_total C M costs n (C.lower s).from)) (along C M costs n (C.higher s) (survivor_total C M costs n (C.higher s).from))

-- the branch by which it came
abbrev pub arrival : Code → Bool → ℕ → Branch
arrival C by-higher s = cond by-higher (C.higher s) (C.lower s)

-- the inputs on the way back from s after n steps, where `back k s` says whether the state s after k + 1 steps was entered by `higher s`
unfoldable pub traced : Code → (ℕ → ℕ → Bool) → ℕ → ℕ → List ℕ
traced C back zero s = []
traced C back (suc n) s = (arrival C (back n s) s).input ∷ traced C back n (arrival C (back n s) s).from

-- the survivor itself
abbrev pub survivor : {X : Type 0} → Code → Metric X → Costs → ℕ → ℕ → List ℕ
survivor C M costs n s = traced C (came_higher C M costs) n s

-- the same in the order of time
abbrev pub survivor_path : {X : Type 0} → Code → Metric X → Costs → ℕ → ℕ → List ℕ
survivor_path C M costs n s = reverse (survivor C M costs n s)
