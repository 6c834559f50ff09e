-- A worked example: the totals of the four messages of two bits. Assumes nothing.
use Rattle.std.specs.Prelude.{◌≡◌, ℕ, List, [], ◌∷◌, ℤ, pos, negsuc}
use Rattle.paths.specs.Endings.{Tail.closed_by}
use Rattle.coding.specs.declared.puncture.Rate.TheVariants.{Half}
use Rattle.coding.specs.Recursive.{recursive_closer, recursive_trellis}
use Rattle.orders.specs.Sum.{sums}
use Rattle.trellis.specs.Penalties.{soft_at, total}
use Rattle.trellis.specs.Nearest.{coded}

-- the soft numbers 100, 140, 0, 0, −64, −12, 90, 192
abbrev pub worked_soft : List ℤ
worked_soft = pos 100 ∷ pos 140 ∷ pos 0 ∷ pos 0 ∷ negsuc 63 ∷ negsuc 11 ∷ pos 90 ∷ pos 192 ∷ []

-- a message's total by the recursive code, closed, at rate 1/2, under the sum
abbrev pub worked_total : List ℕ → ℕ
worked_total ms = total (coded recursive_trellis (closed_by recursive_closer) Half) sums (soft_at worked_soft) ms

pub record WorkedTotals : Type 0 where
  pub of_00 : worked_total (0 ∷ 0 ∷ []) ≡ 522
  pub of_01 : worked_total (0 ∷ 1 ∷ []) ≡ 304
  pub of_10 : worked_total (1 ∷ 0 ∷ []) ≡ 12
  pub of_11 : worked_total (1 ∷ 1 ∷ []) ≡ 358
