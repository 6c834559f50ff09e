-- A code of four states whose states alternate between even and odd, so that nothing closes it. Assumes nothing.
use Rattle.std.specs.Prelude.{◌≡◌, ℕ, ◌+◌, ◌-◌, ◌*◌, ◌/◌, ◌%◌, true, bit_xor, refl}
use Rattle.paths.specs.Codes.{Code, CodeLaws, Trellis}
use Rattle.paths.specs.Endings.{Closer, CloserLaws}
use Rattle.paths.specs.Tests.{code_ok}
use Rattle.paths.proofs.Tests.{lawful_from_ok}

-- the two states that lead into t
abbrev pub below : ℕ → ℕ
below t = 1 - t % 2

abbrev pub above : ℕ → ℕ
above t = 3 - t % 2

-- the input that leads from p to t
abbrev pub input_to : ℕ → ℕ → ℕ
input_to t p = (t + 3 - p) % 4 / 2

-- an input b goes on by 1 + 2b states, round the four; the code bits are b and b ⊕ (state div 2)
abbrev pub alternating : Code
alternating = record {
  states = 4;
  next = λ s b. (s + 1 + 2 * b) % 4;
  first = λ s b. b;
  second = λ s b. bit_xor b (s / 2);
  lower = λ t. record { from = below t; input = input_to t (below t) };
  higher = λ t. record { from = above t; input = input_to t (above t) };
}

alternating_ok : code_ok alternating ≡ true
alternating_ok = refl

pub alternating_laws : CodeLaws alternating
alternating_laws = lawful_from_ok alternating alternating_ok

abbrev pub alternating_trellis : Trellis
alternating_trellis = record { code = alternating; lawful = alternating_laws }

-- no memory and no closing inputs lead every state to 0
abbrev pub CannotBeClosed : Type 0
CannotBeClosed = (E : Closer) → CloserLaws alternating E → ⊥
