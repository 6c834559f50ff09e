-- Where the two steps of IEEE 802.11a send a position, with c columns, and how each is undone. Assumes nothing.
use Rattle.std.specs.Prelude.{ℕ, ◌+◌, ◌-◌, ◌*◌, ◌/◌, ◌%◌, Bool, ◌&&◌, ◌==◌, nat_lt}

-- c columns are some, and divide the 2b numbers of an axis bit
abbrev pub columns_fit : ℕ → ℕ → Bool
columns_fit c b = nat_lt 0 c && (2 * b) % c == 0

-- what the first step does with the position j of n, and how it is undone
abbrev pub first_place : ℕ → ℕ → ℕ → ℕ
first_place c n j = n / c * (j % c) + j / c

abbrev pub first_position : ℕ → ℕ → ℕ → ℕ
first_position c n p = c * (p % (n / c)) + p / (n / c)

-- the same for the second step, at m bits an axis
abbrev pub second_place : ℕ → ℕ → ℕ → ℕ → ℕ
second_place c m n j = m * (j / m) + (j + n - c * j / n) % m

abbrev pub second_position : ℕ → ℕ → ℕ → ℕ → ℕ
second_position c m n p = m * (p / m) + (p + c * p / n) % m
