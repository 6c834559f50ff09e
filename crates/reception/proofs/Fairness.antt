-- One position: the costs of its two bits differ by 256 times its weighted soft bit, give or take the weighted gap. Assumes nothing.
use Rattle.std.proofs.Common.{◌≡◌, ℕ, ◌+◌, ◌*◌, ◌≤◌, ℤ, pos, negsuc, ◌-ℤ◌, ◌*ℤ◌, nat_abs, refl, mul-add, arith}
use borrow.Author.Differences.{up, down, product_is}
use Rattle.std.proofs.lemmas.Int.{ints}
use Rattle.std.proofs.lemmas.Nat.{mul-le}
use Rattle.trellis.specs.Penalties.{penalty}

-- v is the weighted soft bit, g the weighted gap, and `cost c` what the bit c costs
pub record Fair (v : ℤ) (g : ℕ) (cost : ℕ → ℕ) : Type 0 where
  pub of_0 : cost 0 + 256 * penalty v 1 ≤ cost 1 + 256 * penalty v 0 + 256 * g
  pub of_1 : cost 1 + 256 * penalty v 0 ≤ cost 0 + 256 * penalty v 1 + 256 * g

pays_0 : (v : ℤ) → penalty v 0 ≡ up v
pays_0 (pos n) = refl
pays_0 (negsuc n) = refl

pays_1 : (v : ℤ) → penalty v 1 ≡ down v
pays_1 (pos n) = refl
pays_1 (negsuc n) = refl

-- unweighted, with the parts of the answer A and the exact soft bit D
off_0 : (n0 n1 : ℕ) (A D : ℤ) → pos 256 *ℤ D ≡ pos n0 -ℤ pos n1 → n0 + 256 * down A ≤ n1 + 256 * up A + 256 * nat_abs (A -ℤ D)
off_0 n0 n1 A D e = omega (arith, ints)

off_1 : (n0 n1 : ℕ) (A D : ℤ) → pos 256 *ℤ D ≡ pos n0 -ℤ pos n1 → n1 + 256 * up A ≤ n0 + 256 * down A + 256 * nat_abs (A -ℤ D)
off_1 n0 n1 A D e = omega (arith, ints)

scaled : (w a b c d g : ℕ) → a + 256 * b ≤ c + 256 * d + 256 * g → w * a + 256 * (w * b) ≤ w * c + 256 * (w * d) + 256 * (w * g)
scaled w a b c d g h =
    omega (arith, mul-le w (a + 256 * b) w (c + 256 * d + 256 * g) (omega arith) h, mul-add w a (256 * b), mul-add w (c + 256 * d) (256 * g), mul-add w c (256 * d))

pub fair : (w : ℕ) (near : ℕ → ℕ) (A D : ℤ) → pos 256 *ℤ D ≡ pos (near 0) -ℤ pos (near 1) → Fair (pos w *ℤ A) (w * nat_abs (A -ℤ D)) (λ c. w * near c)
fair w near A D whole =
    let v : ℤ = pos w *ℤ A in
    let p = product_is (pos w) A in
    let v0 : penalty v 0 ≡ w * up A = omega (arith, pays_0 v, p.0) in
    let v1 : penalty v 1 ≡ w * down A = omega (arith, pays_1 v, p.1) in
    record {
      of_0 = omega (arith, scaled w (near 0) (down A) (near 1) (up A) (nat_abs (A -ℤ D)) (off_0 (near 0) (near 1) A D whole));
      of_1 = omega (arith, scaled w (near 1) (up A) (near 0) (down A) (nat_abs (A -ℤ D)) (off_1 (near 0) (near 1) A D whole));
    }

-- nothing received costs nothing
pub fair_none : Fair (pos 0) 0 (λ c. 0)
fair_none = record { of_0 = omega arith; of_1 = omega arith }
