-- The recursive code of four states: the state is 2x + y. Assumes nothing.
use Rattle.std.specs.Prelude.{◌≡◌, ℕ, ◌+◌, ◌*◌, ◌/◌, ◌%◌, true, bit_xor, refl}
use Rattle.paths.specs.Codes.{Code, CodeLaws, Trellis}
use Rattle.paths.specs.Endings.{Closer, CloserLaws}
use Rattle.paths.specs.Tests.{code_ok, closer_ok}
use Rattle.paths.proofs.Tests.{lawful_from_ok, closer_from_ok}

-- with the input b, z = b ⊕ x ⊕ y is fed back
abbrev pub fed_back : ℕ → ℕ → ℕ
fed_back s b = bit_xor (bit_xor b (s / 2)) (s % 2)

-- the code bits are b and z ⊕ y, and the next state is 2z + x
abbrev pub recursive : Code
recursive = record {
  states = 4;
  next = λ s b. 2 * fed_back s b + s / 2;
  first = λ s b. b;
  second = λ s b. bit_xor (fed_back s b) (s % 2);
  lower = λ s. record { from = 2 * (s % 2); input = bit_xor (s / 2) (s % 2) };
  higher = λ s. record { from = 2 * (s % 2) + 1; input = bit_xor (bit_xor (s / 2) (s % 2)) 1 };
}

-- twice x ⊕ y closes it
abbrev pub recursive_closer : Closer
recursive_closer = record { memory = 2; close = λ s. bit_xor (s / 2) (s % 2) }

recursive_ok : code_ok recursive ≡ true
recursive_ok = refl

pub recursive_laws : CodeLaws recursive
recursive_laws = lawful_from_ok recursive recursive_ok

recursive_closes : closer_ok recursive recursive_closer ≡ true
recursive_closes = refl

pub recursive_closer_laws : CloserLaws recursive recursive_closer
recursive_closer_laws = closer_from_ok recursive recursive_closer recursive_laws recursive_closes

abbrev pub recursive_trellis : Trellis
recursive_trellis = record { code = recursive; lawful = recursive_laws }
