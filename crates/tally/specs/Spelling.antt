-- A message as a number: its bits, the highest first. Assumes nothing.
use Rattle.std.specs.Prelude.{ℕ, suc, ◌-◌, ◌/◌, ◌%◌, ◌^◌, cond, nat_lt}

-- bit k, from 0, of the last `bits` bits of n, and 0 behind them
abbrev pub spelt_bit : ℕ → ℕ → ℕ → ℕ
spelt_bit n bits k = cond (nat_lt k bits) (n / 2 ^ (bits - suc k) % 2) 0
