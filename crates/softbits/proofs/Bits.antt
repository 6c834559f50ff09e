-- What holds at the ten bits of the four axes holds at each bit of each axis. Assumes nothing.
use Rattle.std.proofs.Common.{ℕ, ◌<◌, arith}
use Rattle.qam.specs.Levels.{Axis, BitOf}
use Rattle.qam.proofs.Axes.{by_axis}

-- P at the ten bits: `four_2` is bit 2 of an axis with four
pub record AtTen (P : ℕ → ℕ → Type 0) : Type 0 where
  pub one_1 : P 1 1
  pub two_1 : P 2 1
  pub two_2 : P 2 2
  pub three_1 : P 3 1
  pub three_2 : P 3 2
  pub three_3 : P 3 3
  pub four_1 : P 4 1
  pub four_2 : P 4 2
  pub four_3 : P 4 3
  pub four_4 : P 4 4

past : {X : Type 0} (m k : ℕ) → m < k → BitOf m k → X
past m k l b = absurd (omega (arith, b.last))

pub by_bit : (P : ℕ → ℕ → Type 0) → AtTen P → (m k : ℕ) → Axis m → BitOf m k → P m k
by_bit P t m k a b = by_axis (λ m. (k : ℕ) → Axis k → BitOf m k → P m k) one two three four m a k (record { some = b.first; few = omega (arith, a.few, b.last) }) b
  where
    one : (k : ℕ) → Axis k → BitOf 1 k → P 1 k
    one = by_axis (λ k. BitOf 1 k → P 1 k) (λ _. t.one_1) (past 1 2 (omega arith)) (past 1 3 (omega arith)) (past 1 4 (omega arith))

    two : (k : ℕ) → Axis k → BitOf 2 k → P 2 k
    two = by_axis (λ k. BitOf 2 k → P 2 k) (λ _. t.two_1) (λ _. t.two_2) (past 2 3 (omega arith)) (past 2 4 (omega arith))

    three : (k : ℕ) → Axis k → BitOf 3 k → P 3 k
    three = by_axis (λ k. BitOf 3 k → P 3 k) (λ _. t.three_1) (λ _. t.three_2) (λ _. t.three_3) (past 3 4 (omega arith))

    four : (k : ℕ) → Axis k → BitOf 4 k → P 4 k
    four = by_axis (λ k. BitOf 4 k → P 4 k) (λ _. t.four_1) (λ _. t.four_2) (λ _. t.four_3) (λ _. t.four_4)
