-- For the proof of the sender only: cells that hold labels on their axes, before these become levels. Assumes nothing.
use Rattle.std.specs.Prelude.{◌≡◌, ℕ, ◌+◌, ◌-◌, ◌*◌, ◌^◌, ◌<◌, ◌≤◌, cond, List, length, take, pos, nat_lt, slice_index_or}
use Rattle.std.specs.List.{AllByRecursion}
use Rattle.qam.specs.declared.cell.QamCell.{QamCell}
use Rattle.paths.specs.Paths.{path_end}
use Rattle.coding.specs.Puncturing.{sent_before}
use Rattle.coding.specs.Encoding.{Coding, code_of, inputs_of, sent_from}
use Rattle.interleaving.specs.Interleaving.{Interleaving, size}
use Rattle.sending.specs.Links.{Link}
use Rattle.sending.specs.Cells.{in_phase_label, quadrature_label}

-- a cell with the labels p and q
abbrev pub holding : ℕ → ℕ → QamCell
holding p q = record { in_phase = pos p; quadrature = pos q; weight = 1 }

-- the label p with its bit `at`, of m, raised by c; a label that has no such bit stays
abbrev pub raised_to : ℕ → ℕ → ℕ → ℕ
raised_to p below c = p + c * 2 ^ below

-- a cell with its bit i raised by c
abbrev pub with_bit : ℕ → ℕ → ℕ → ℕ → ℕ → QamCell
with_bit m i c p q = cond (nat_lt i m) (holding (raised_to p (m - 1 - i) c) q) (holding p (raised_to q (2 * m - 1 - i) c))

-- x holds labels below 2^m
pub record Labels (m : ℕ) (x : QamCell) : Type 0 where
  pub in_phase : ℕ
  pub quadrature : ℕ
  pub are : x ≡ holding in_phase quadrature
  pub in_phase_small : in_phase < 2 ^ m
  pub quadrature_small : quadrature < 2 ^ m

-- the cells xs hold the labels of the sent bits bs
pub record Holds (X : Interleaving) (m b : ℕ) (bs : List ℕ) (xs : List QamCell) : Type 0 where
  pub bits : AllByRecursion (λ c. c < 2) bs
  pub at : (c : ℕ) (d : QamCell) → c < length xs → slice_index_or xs c d ≡ holding (in_phase_label X m b bs c) (quadrature_label X m b bs c)

-- the cells xs, whole blocks of them, hold the labels of j bits and have room for w more
pub record Taking (X : Interleaving) (m b j w : ℕ) (xs : List QamCell) : Type 0 where
  pub blocks : ℕ
  pub sized : length xs ≡ blocks * b
  pub room : j + w ≤ blocks * size m b
  pub before : List ℕ
  pub counted : length before ≡ j
  pub holds : Holds X m b before xs

-- the same for the cells of a link
abbrev pub HoldsFor : Link → List ℕ → List QamCell → Type 0
HoldsFor L bs xs = Holds L.interleaving L.m L.B bs xs

abbrev pub TakingFor : Link → ℕ → ℕ → List QamCell → Type 0
TakingFor L j w xs = Taking L.interleaving L.m L.B j w xs

-- After k steps of a message: the state, the position of the next bit, and cells with the labels of the bits sent so far.
pub record Encoded (X : Interleaving) (m b : ℕ) (Q : Coding) (ms : List ℕ) (k s j : ℕ) (xs : List QamCell) : Type 0 where
  pub state_is : s ≡ path_end (code_of Q) (take k (inputs_of Q ms))
  pub position_is : j ≡ sent_before Q.rate k
  pub holds : Holds X m b (sent_from Q 0 0 (take k (inputs_of Q ms))) xs

abbrev pub EncodedFor : Link → List ℕ → ℕ → ℕ → ℕ → List QamCell → Type 0
EncodedFor L ms k s j xs = Encoded L.interleaving L.m L.B L.coding ms k s j xs
