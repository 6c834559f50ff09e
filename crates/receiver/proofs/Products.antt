-- A weight times an answer, as the program multiplies them. Assumes nothing.
use Rattle.std.proofs.Common.{◌≡◌, ℕ, ◌≤◌, ℤ, pos, negsuc, ◌*ℤ◌, nat_abs, sym, ap, ◌∙◌, subst, arith, w32, SFits, to_z, of_z}
use lib.Signed.{mag}
use Rattle.std.proofs.lemmas.Int.{to_z-of_z}
use Rattle.paths.specs.Orders.{heaviest}
use Rattle.softbits.specs.Demapping.{soft_limit}
use Rattle.reception.specs.Entries.{weight_limit}
use Rattle.reception.proofs.Weights.{weighted_small}

mag_small : (z : ℤ) → mag z ≤ nat_abs z
mag_small (pos n) = omega arith
mag_small (negsuc n) = omega arith

pub small_fits : (z : ℤ) → nat_abs z ≤ heaviest → SFits w32 z
small_fits z h = record { sfits = omega (arith, mag_small z) }

module _ (w : ℕ) (z : ℤ) (hw : w ≤ weight_limit) (hz : nat_abs z ≤ soft_limit) where
  product_is : to_z w32 (of_z w32 (pos w)) *ℤ to_z w32 (of_z w32 z) ≡ pos w *ℤ z
  product_is =
      ap (λ (x : ℤ). x *ℤ to_z w32 (of_z w32 z)) (to_z-of_z w32 (pos w) (small_fits (pos w) (omega arith)))
      ∙ ap (λ (x : ℤ). pos w *ℤ x) (to_z-of_z w32 z (small_fits z (omega arith)))

  pub product_fits : SFits w32 (to_z w32 (of_z w32 (pos w)) *ℤ to_z w32 (of_z w32 z))
  product_fits = subst (SFits w32) (sym product_is) (small_fits (pos w *ℤ z) (weighted_small w z hw hz))

  pub product_told : to_z w32 (of_z w32 (to_z w32 (of_z w32 (pos w)) *ℤ to_z w32 (of_z w32 z))) ≡ pos w *ℤ z
  product_told = to_z-of_z w32 (to_z w32 (of_z w32 (pos w)) *ℤ to_z w32 (of_z w32 z)) product_fits ∙ product_is
