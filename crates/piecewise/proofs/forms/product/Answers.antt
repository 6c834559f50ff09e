-- `forms::product` meets its contract: a number of at most 4 times one of at most 2,047.
use Rattle.std.proofs.Common.{◌≡◌, ℕ, ◌*◌, ◌≤◌, ℤ, pos, ◌*ℤ◌, nat_abs, arith, w32, SFits, rules}
use Rattle.std.proofs.Math.Nat.{mul-le-mul}
use Rattle.std.proofs.lemmas.Int.{ints, to_z-of_z, unsigned_abs-mul}
use Rattle.piecewise.proofs.forms.product.Goals as goal

product_few : (a b : ℤ) (m n : ℕ) → nat_abs a ≤ m → nat_abs b ≤ n → nat_abs (a *ℤ b) ≤ m * n
product_few a b m n h l = rw unsigned_abs-mul (mul-le-mul h l)

pub returns : goal.returns
returns c =
    let few : nat_abs (c.args.times *ℤ pos c.args.size) ≤ 4 * 2047 = product_few c.args.times (pos c.args.size) 4 2047 c.requires.times (omega (arith, ints, c.requires.size)) in
    let times : c.from.result ≡ c.args.times = search rules in
    let size : c.from-2.result ≡ pos c.args.size = search rules in
    let first : SFits w32 c.args.times = omega (arith, ints, c.ranges.times) in
    let second : SFits w32 (pos c.args.size) = omega (arith, ints, c.ranges.size) in
    let fits : SFits w32 (c.args.times *ℤ pos c.args.size) = omega (arith, ints, few) in
    simp (times, size, to_z-of_z) few
