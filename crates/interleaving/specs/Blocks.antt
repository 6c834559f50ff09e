-- Which cell carries a position of a frame, and which of its bits, from 0; and the position of each bit of a cell. Assumes nothing.
use Rattle.std.specs.Prelude.{◌≡◌, ℕ, ◌+◌, ◌*◌, ◌/◌, ◌%◌, ◌<◌, true}
use Rattle.interleaving.specs.Interleaving.{Interleaving, Sized, size}

-- a cell has bits on two axes
abbrev pub cell_bits : ℕ → ℕ
cell_bits m = 2 * m

-- position j lies in block j / N; place p of a block is bit p mod 2m of its cell p / 2m
abbrev pub cell_of : Interleaving → ℕ → ℕ → ℕ → ℕ
cell_of X m b j = j / size m b * b + X.place m b (j % size m b) / cell_bits m

abbrev pub bit_of : Interleaving → ℕ → ℕ → ℕ → ℕ
bit_of X m b j = X.place m b (j % size m b) % cell_bits m

-- the position of bit i of cell c
abbrev pub spot : Interleaving → ℕ → ℕ → ℕ → ℕ → ℕ
spot X m b c i = c / b * size m b + X.position m b (c % b * cell_bits m + i)

-- Of n blocks: every position is one bit of one cell, and every bit of a cell has one position.
pub record Once (X : Interleaving) (m b n : ℕ) : Type 0 where
  pub cell_inside : (j : ℕ) → j < n * size m b → cell_of X m b j < n * b
  pub bit_inside : (j : ℕ) → j < n * size m b → bit_of X m b j < cell_bits m
  pub its_spot : (j : ℕ) → j < n * size m b → spot X m b (cell_of X m b j) (bit_of X m b j) ≡ j
  pub spot_inside : (c i : ℕ) → c < n * b → i < cell_bits m → spot X m b c i < n * size m b
  pub spot_cell : (c i : ℕ) → c < n * b → i < cell_bits m → cell_of X m b (spot X m b c i) ≡ c
  pub spot_bit : (c i : ℕ) → c < n * b → i < cell_bits m → bit_of X m b (spot X m b c i) ≡ i

abbrev pub EveryPositionOnce : Type 0
EveryPositionOnce = (X : Interleaving) (m b n : ℕ) → Sized m b → X.takes m b ≡ true → Once X m b n
