-- Paths of a code from state 0, in the order of time: their inputs, states and end. Assumes nothing.
use Rattle.std.specs.Prelude.{◌≡◌, ℕ, ◌<◌, List, [], ◌∷◌, length, slice_index}
use Rattle.paths.specs.Codes.{Code}

-- n inputs, each a bit
pub record Inputs (n : ℕ) (bs : List ℕ) : Type 0 where
  pub size : length bs ≡ n
  pub bits : (k : ℕ) → k < n → slice_index bs k < 2

-- the state to which inputs lead from s
abbrev pub end_from : Code → ℕ → List ℕ → ℕ
end_from C s [] = s
end_from C s (b ∷ bs) = end_from C (C.next s b) bs

-- the states after each input, from s
abbrev pub states_from : Code → ℕ → List ℕ → List ℕ
states_from C s [] = []
states_from C s (b ∷ bs) = C.next s b ∷ states_from C (C.next s b) bs

-- a path's end and its states
abbrev pub path_end : Code → List ℕ → ℕ
path_end C bs = end_from C 0 bs

abbrev pub path_states : Code → List ℕ → List ℕ
path_states C bs = states_from C 0 bs
