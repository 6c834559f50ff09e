-- What a code is: states numbered from 0, two branches out of each state and two into it. Assumes nothing.
use Rattle.std.specs.Prelude.{◌≡◌, ℕ, ◌<◌, ◌≤◌, ◌⊎◌}

-- One branch into a state: the state that it leaves, and the input that takes it.
pub record Branch : Type 0 where
  pub from : ℕ
  pub input : ℕ

-- A code: its states are the numbers below `states`, and it starts in state 0. From a state and an input come the next state and
-- the first and the second code bit; `lower` and `higher` are the two branches into a state.
pub record Code : Type 0 where
  pub states : ℕ
  pub next : ℕ → ℕ → ℕ
  pub first : ℕ → ℕ → ℕ
  pub second : ℕ → ℕ → ℕ
  pub lower : ℕ → Branch
  pub higher : ℕ → Branch

-- the input b in state p takes the branch r
pub record Takes (p b : ℕ) (r : Branch) : Type 0 where
  pub from_is : p ≡ r.from
  pub input_is : b ≡ r.input

-- r is a branch of the code into the state s
pub record Enters (C : Code) (s : ℕ) (r : Branch) : Type 0 where
  pub from_state : r.from < C.states
  pub by_bit : r.input < 2
  pub into : C.next r.from r.input ≡ s

-- what every code owes
pub record CodeLaws (C : Code) : Type 0 where
  pub some : 0 < C.states
  pub few : C.states ≤ 64
  pub stays : (s b : ℕ) → s < C.states → b < 2 → C.next s b < C.states
  pub first_bit : (s b : ℕ) → s < C.states → b < 2 → C.first s b < 2
  pub second_bit : (s b : ℕ) → s < C.states → b < 2 → C.second s b < 2
  pub lower_enters : (s : ℕ) → s < C.states → Enters C s (C.lower s)
  pub higher_enters : (s : ℕ) → s < C.states → Enters C s (C.higher s)
  pub apart : (s : ℕ) → s < C.states → (C.lower s).from < (C.higher s).from
  pub only : (p b : ℕ) → p < C.states → b < 2 → Takes p b (C.lower (C.next p b)) ⊎ Takes p b (C.higher (C.next p b))

-- a code with its laws
pub record Trellis : Type 0 where
  pub code : Code
  pub lawful : CodeLaws code
