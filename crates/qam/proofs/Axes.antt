-- What holds at one, two, three and four bits holds at every axis. Assumes nothing.
use Rattle.std.proofs.Common.{ℕ, zero, suc, ◌^◌, ◌≤◌, arith, pow_mono}
use Rattle.qam.specs.Levels.{Axis}

pub by_axis : (P : ℕ → Type 0) → P 1 → P 2 → P 3 → P 4 → (m : ℕ) → Axis m → P m
by_axis P a b c d zero x = absurd (omega (arith, x.some))
by_axis P a b c d (suc zero) x = a
by_axis P a b c d (suc (suc zero)) x = b
by_axis P a b c d (suc (suc (suc zero))) x = c
by_axis P a b c d (suc (suc (suc (suc zero)))) x = d
by_axis P a b c d (suc (suc (suc (suc (suc m))))) x = absurd (omega (arith, x.few))

-- an axis has at most 16 levels
pub levels_few : (m : ℕ) → m ≤ 4 → 2 ^ m ≤ 16
levels_few m h = pow_mono h
