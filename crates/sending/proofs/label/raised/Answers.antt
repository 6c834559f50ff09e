-- `label::raised` meets its contract: a label and a power of two below 16 fit their types.
use Rattle.std.proofs.Common.{◌≡◌, ◌*◌, ◌%◌, ◌^◌, ◌≤◌, mod-eq_of_lt, arith, pow_mono}
use Rattle.std.proofs.lemmas.Nat.{mul-le}
use Rattle.std.proofs.lemmas.Int.{ints}
use Rattle.sending.proofs.label.raised.Goals as goal

pub returns : goal.returns
returns c p e =
    let small : 2 ^ c.args.below ≤ 8 = pow_mono {i = c.args.below} {j = 3} (omega (arith, c.requires.below)) in
    let few : c.args.bit * 2 ^ c.args.below ≤ 8 = omega (arith, mul-le c.args.bit (2 ^ c.args.below) 1 8 (omega (arith, c.requires.bit)) small) in
    let whole : c.args.bit * 2 ^ c.args.below % 256 ≡ c.args.bit * 2 ^ c.args.below = mod-eq_of_lt (omega arith) in
    let low = c.requires.label.1 in
    let is = c.requires.label.2 in
    omega (arith, ints)
