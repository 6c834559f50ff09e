-- How a message's path ends: led back to state 0 by closing inputs, or left where it is. Assumes nothing.
use Rattle.std.specs.Prelude.{◌≡◌, ℕ, zero, suc, ◌<◌, ◌≤◌, List, [], ◌∷◌, ◌++◌}
use Rattle.paths.specs.Codes.{Code}
use Rattle.paths.specs.Paths.{Inputs, end_from, path_end}

-- How a code is led back to state 0: in `memory` steps, by the input `close s` in state s.
pub record Closer : Type 0 where
  pub memory : ℕ
  pub close : ℕ → ℕ

-- n closing inputs from the state s on
abbrev pub closing : Code → Closer → ℕ → ℕ → List ℕ
closing C E zero s = []
closing C E (suc n) s = E.close s ∷ closing C E n (C.next s (E.close s))

-- what it owes: as many closing inputs as the memory says, and no other so many inputs, lead from any state to 0
pub record CloserLaws (C : Code) (E : Closer) : Type 0 where
  pub short : E.memory ≤ 6
  pub bit : (s : ℕ) → s < C.states → E.close s < 2
  pub home : (s : ℕ) → s < C.states → end_from C s (closing C E E.memory s) ≡ 0
  pub only : (s : ℕ) (bs : List ℕ) → s < C.states → Inputs E.memory bs → end_from C s bs ≡ 0 → bs ≡ closing C E E.memory s

-- A frame is left as it ends, or is closed. There is no third ending.
pub data Tail : Type 0 where
  unclosed : Tail
  closed_by : Closer → Tail

-- what an ending owes, of the code C
abbrev pub TailLaws : Code → Tail → Type 0
TailLaws C unclosed = Unit {0}
TailLaws C (closed_by E) = CloserLaws C E

-- how many closing inputs are appended, and the closing input of a state (no frame asks it of an unclosed end)
abbrev pub closing_steps : Tail → ℕ
closing_steps unclosed = 0
closing_steps (closed_by E) = E.memory

abbrev pub closing_input : Tail → ℕ → ℕ
closing_input unclosed s = 0
closing_input (closed_by E) s = E.close s

-- the closing inputs from the state s on
abbrev pub tail_inputs : Code → Tail → ℕ → List ℕ
tail_inputs C unclosed s = []
tail_inputs C (closed_by E) s = closing C E E.memory s

-- a message with its closing inputs
abbrev pub inputs : Code → Tail → List ℕ → List ℕ
inputs C T ms = ms ++ tail_inputs C T (path_end C ms)
