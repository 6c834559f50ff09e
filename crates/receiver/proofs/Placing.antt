-- Positions, cells and bits without a bound on the position. Assumes nothing.
use Rattle.std.proofs.Common.{◌≡◌, ℕ, suc, ◌*◌, ◌%◌, ◌<◌, ◌≤◌, true, sym, ap, ◌∙◌, arith}
use Rattle.std.proofs.lemmas.Nat.{mod_below, mul-le, mul-lt}
use Rattle.interleaving.specs.Interleaving.{Interleaving, Sized, size}
use Rattle.interleaving.specs.Blocks.{bit_of, cell_bits, cell_of, spot}
use Rattle.interleaving.proofs.Spots.{every_position_once}

module _ (X : Interleaving) (m b : ℕ) (z : Sized m b) where
  pub bit_below : (j : ℕ) → bit_of X m b j < cell_bits m
  bit_below j = let h = z.some_bits in mod_below (X.place m b (j % size m b)) (cell_bits m) (omega arith)

  pub block_some : 0 < size m b
  block_some = let h = z.some_bits in mul-lt 0 0 (2 * m) b (omega arith) z.some_cells

  -- a position is the spot of its own cell and bit
  pub only_spot : X.takes m b ≡ true → (j c i : ℕ) → cell_of X m b j ≡ c → bit_of X m b j ≡ i → j ≡ spot X m b c i
  only_spot t j c i hc hi =
      let h : j < suc j * size m b = let some = block_some in omega (arith, mul-le (suc j) 1 (suc j) (size m b) (omega arith) some) in
      sym ((every_position_once X m b (suc j) z t).its_spot j h) ∙ ap (λ x. spot X m b x (bit_of X m b j)) hc ∙ ap (spot X m b c) hi

  -- the spot of a bit of a cell lies in the blocks that have the cell
  pub spot_in : X.takes m b ≡ true → (n len c i : ℕ) → n * size m b ≤ len → c < n * b → i < cell_bits m → spot X m b c i < len
  spot_in t n len c i room hc hi = omega (arith, (every_position_once X m b n z t).spot_inside c i hc hi)
