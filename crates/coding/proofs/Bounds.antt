-- What the recursive code feeds back is a bit. Assumes nothing.
use Rattle.std.proofs.Common.{ℕ, ◌/◌, ◌%◌, ◌<◌, arith}
use lib.Bits.{bit_xor}
use Rattle.std.proofs.lemmas.Nat.{xor_lt}
use Rattle.coding.specs.Recursive.{fed_back}

pub fed_back_bit : (s b : ℕ) → s < 4 → b < 2 → fed_back s b < 2
fed_back_bit s b l i = xor_lt 1 (bit_xor b (s / 2)) (s % 2) (xor_lt 1 b (s / 2) (omega arith) (omega arith)) (omega arith)
