-- The code of 64 states of IEEE 802.11a (constraint length 7, octal generators 133 and 171). Assumes nothing.
use Rattle.std.specs.Prelude.{◌≡◌, ℕ, ◌+◌, ◌*◌, ◌/◌, ◌%◌, true, bit_and, refl}
use Rattle.std.specs.Int.Count.{ones, ones_in}
use Rattle.paths.specs.Codes.{Code, CodeLaws, Trellis}
use Rattle.paths.specs.Endings.{Closer, CloserLaws}
use Rattle.paths.specs.Tests.{code_ok, closer_ok}
use Rattle.paths.proofs.Tests.{lawful_from_ok, closer_from_ok}

-- the register: 64 times the input, and the state
abbrev pub register : ℕ → ℕ → ℕ
register s b = 64 * b + s

-- the parity of the register under a mask
abbrev pub parity : ℕ → ℕ → ℕ
parity mask r = ones (bit_and r mask) % 2

-- the code bits are the parities under the two masks, and the next state is half the register
abbrev pub long : Code
long = record {
  states = 64;
  next = λ s b. register s b / 2;
  first = λ s b. parity 0o133 (register s b);
  second = λ s b. parity 0o171 (register s b);
  lower = λ s. record { from = 2 * s % 64; input = s / 32 };
  higher = λ s. record { from = 2 * s % 64 + 1; input = s / 32 };
}

-- six zeros close it
abbrev pub long_closer : Closer
long_closer = record { memory = 6; close = λ s. 0 }

long_ok : code_ok long ≡ true
unfolding ones ones_in
long_ok = refl

pub long_laws : CodeLaws long
long_laws = lawful_from_ok long long_ok

long_closes : closer_ok long long_closer ≡ true
long_closes = refl

pub long_closer_laws : CloserLaws long long_closer
long_closer_laws = closer_from_ok long long_closer long_laws long_closes

abbrev pub long_trellis : Trellis
long_trellis = record { code = long; lawful = long_laws }
