-- `gray::label_bit` meets its contract: past its eight bits a label has zeros.
use Rattle.std.proofs.Common.{◌-◌, ◌/◌, ◌%◌, ◌^◌, ◌<◌, ◌≤◌, sym, ap, arith, pow_mono}
use native.Mathlib.Nat.{div-eq_of_lt}
use Rattle.std.proofs.lemmas.Nat.{xor_lt}
use Rattle.qam.specs.Levels.{label}
use Rattle.qam.proofs.gray.label_bit.Goals as goal

pub returns-else-below-lt8 : goal.returns-else-below-lt8
returns-else-below-lt8 c =
    let low : label c.args.number < 2 ^ 8 = xor_lt 8 c.args.number (c.args.number / 2) (omega arith) (omega arith) in
    let wide : 8 ≤ c.args.m - c.args.k = omega (arith, c.saturating_sub-below.ensures) in
    let far : label c.args.number < 2 ^ (c.args.m - c.args.k) = omega (arith, pow_mono {i = 8} wide) in
    sym (ap (λ x. x % 2) (div-eq_of_lt far))
