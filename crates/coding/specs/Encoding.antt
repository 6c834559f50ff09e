-- From a message to the bits that are sent: in the order of steps, the first code bit before the second. Assumes nothing.
use Rattle.std.specs.Prelude.{◌≡◌, ℕ, suc, ◌+◌, ◌<◌, Bool, cond, List, [], ◌∷◌, ◌++◌, length, slice_index}
use Rattle.paths.specs.Codes.{Code, Trellis}
use Rattle.paths.specs.Paths.{Inputs, path_states}
use Rattle.paths.specs.Endings.{Tail, TailLaws, closing_steps, inputs}
use Rattle.coding.specs.declared.puncture.Rate.{Rate}
use Rattle.coding.specs.Puncturing.{sends_first, sends_second, sent_before, sent_in_all}

-- what turns a message into sent bits: a code, how its frames end, and the rate
pub record Coding : Type 0 where
  pub trellis : Trellis
  pub tail : Tail
  pub rate : Rate

abbrev pub code_of : Coding → Code
code_of Q = Q.trellis.code

-- the steps of a message of K bits, and how many bits they send
abbrev pub steps_for : Coding → ℕ → ℕ
steps_for Q K = K + closing_steps Q.tail

abbrev pub sent_for : Coding → ℕ → ℕ
sent_for Q K = sent_before Q.rate (steps_for Q K)

-- a message with its closing inputs, and the trail of states of that path, the closing steps included
abbrev pub inputs_of : Coding → List ℕ → List ℕ
inputs_of Q ms = inputs (code_of Q) Q.tail ms

abbrev pub trail_of : Coding → List ℕ → List ℕ
trail_of Q ms = path_states (code_of Q) (inputs_of Q ms)

-- all code bits of inputs from the state s on
abbrev pub code_bits : Code → ℕ → List ℕ → List ℕ
code_bits C s [] = []
code_bits C s (b ∷ bs) = C.first s b ∷ C.second s b ∷ code_bits C (C.next s b) bs

-- a code bit, if it is sent
abbrev pub if_sent : Bool → ℕ → List ℕ
if_sent sends c = cond sends (c ∷ []) []

-- the bits sent at step k, from the state s by the input b
abbrev pub sent_at : Coding → ℕ → ℕ → ℕ → List ℕ
sent_at Q k s b = if_sent (sends_first Q.rate k) ((code_of Q).first s b) ++ if_sent (sends_second Q.rate k) ((code_of Q).second s b)

-- all that are sent from step k and the state s on
abbrev pub sent_from : Coding → ℕ → ℕ → List ℕ → List ℕ
sent_from Q k s [] = []
sent_from Q k s (b ∷ bs) = sent_at Q k s b ++ sent_from Q (suc k) ((code_of Q).next s b) bs

-- a message's sent bits: the j-th, from 0, takes position j
abbrev pub sent_bits : Coding → List ℕ → List ℕ
sent_bits Q ms = sent_from Q 0 0 (inputs_of Q ms)

-- A message of K bits sends as many bits as its steps send, each a bit.
pub record WellSent (Q : Coding) (K : ℕ) (ms : List ℕ) : Type 0 where
  pub as_many : length (sent_bits Q ms) ≡ sent_for Q K
  pub bits : (j : ℕ) → j < length (sent_bits Q ms) → slice_index (sent_bits Q ms) j < 2

abbrev pub MessagesWellSent : Type 0
MessagesWellSent = (Q : Coding) (K : ℕ) (ms : List ℕ) → TailLaws (code_of Q) Q.tail → Inputs K ms → WellSent Q K ms

-- n steps send twice n bits at rate 1/2, (3n + 1) / 2 at 2/3 and (4n + 2) / 3 at 3/4, rounded down
abbrev pub SentCounts : Type 0
SentCounts = (rate : Rate) (n : ℕ) → sent_before rate n ≡ sent_in_all rate n
