-- Bounds of what the steps compute, and of the cell of a position. Assumes nothing.
use Rattle.std.proofs.Common.{◌≡◌, ℕ, ◌*◌, ◌/◌, ◌<◌, ◌≤◌, true, mul-pos, mul_left_comm, div-mul-le_self, arith}
use Rattle.std.proofs.lemmas.Nat.{mul-le}
use Rattle.interleaving.specs.Interleaving.{Sized, size}
use Rattle.interleaving.specs.StepLaws.{Cut, column_le, cut, first_back, first_tall}
use Rattle.interleaving.specs.StepPlaces.{columns_fit, first_position}

pub size_le : (m b : ℕ) → m ≤ 4 → b ≤ 64 → size m b ≤ 512
size_le m b hm hb = mul-le (2 * m) b 8 64 (omega arith) hb

pub size_some : (m b : ℕ) → 1 ≤ m → 1 ≤ b → 0 < size m b
size_some m b hm hb = mul-pos (omega arith) hb

pub columns_le : (c m b : ℕ) → Cut c m b → 1 ≤ m → c ≤ size m b
columns_le c m b k hm =
    let some : 0 < m * k.q = mul-pos (omega arith) k.tall in
    omega (arith, k.whole, mul-le c 1 c (m * k.q) (omega arith) some)

-- the first cell of a position's block
pub cells_before : (m b j : ℕ) → 1 ≤ m → 2 * (j / size m b * b) ≤ j
cells_before m b j hm =
    let wide : 2 * b ≤ size m b = mul-le 2 b (2 * m) b (omega arith) (omega arith) in
    omega (arith, mul_left_comm 2 (j / size m b) b, mul-le (j / size m b) (2 * b) (j / size m b) (size m b) (omega arith) wide, div-mul-le_self j (size m b))

-- in a block that c columns fit
module _ (c m b x : ℕ) (z : Sized m b) (t : columns_fit c b ≡ true) (h : x < size m b) where
  pub product_le : c * x ≤ 262144
  product_le =
      let s = size_le m b z.few_bits z.few_cells in
      let w = columns_le c m b (cut c m b z.some_cells t) z.some_bits in
      mul-le c x 512 512 (omega arith) (omega arith)

  pub column_inside : c * x / size m b ≤ size m b
  column_inside = column_le c m b x (cut c m b z.some_cells t) h

  pub rows_some : 0 < size m b / c
  rows_some = first_tall c m b (cut c m b z.some_cells t) z.some_bits

  pub back_inside : first_position c (size m b) x < size m b
  back_inside = first_back c m b x (cut c m b z.some_cells t) z.some_bits h
