-- Products of a weight and a soft bit. Assumes nothing.
use Rattle.std.proofs.Common.{ℕ, zero, suc, ◌*◌, ◌<◌, ◌≤◌, ℤ, pos, negsuc, ◌*ℤ◌, neg_ℤ, nat_abs, ◌<ℤ◌, mul-pos, arith}
use borrow.Author.Differences.{lt_out}
use Rattle.std.proofs.lemmas.Nat.{mul-le}
use Rattle.std.proofs.lemmas.Int.{ints, unsigned_abs-mul}
use Rattle.paths.specs.Orders.{heaviest}
use Rattle.softbits.specs.Demapping.{soft_limit}
use Rattle.reception.specs.Entries.{weight_limit}

-- no weighted soft bit is beyond the heaviest penalty
pub weighted_small : (w : ℕ) (x : ℤ) → w ≤ weight_limit → nat_abs x ≤ soft_limit → nat_abs (pos w *ℤ x) ≤ heaviest
weighted_small w x h g = omega (arith, unsigned_abs-mul (pos w) x, mul-le w (nat_abs x) 1023 16383 h g)

neg_below : (n : ℕ) → 0 < n → neg_ℤ (pos n) <ℤ pos 0
neg_below zero h = absurd (omega arith)
neg_below (suc n) h = omega (arith, ints)

-- a weight above zero keeps the sign
pub positive : (w : ℕ) (x : ℤ) → 1 ≤ w → pos 0 <ℤ x → pos 0 <ℤ (pos w *ℤ x)
positive w (pos n) h p = let some : 0 < w * n = mul-pos (omega arith) (omega (arith, ints)) in omega (arith, ints)
positive w (negsuc n) h p = absurd (omega (arith, lt_out (pos 0) (negsuc n) p))

pub negative : (w : ℕ) (x : ℤ) → 1 ≤ w → x <ℤ pos 0 → (pos w *ℤ x) <ℤ pos 0
negative w (pos n) h p = absurd (omega (arith, lt_out (pos n) (pos 0) p))
negative w (negsuc n) h p = neg_below (w * suc n) (mul-pos (omega arith) (omega arith))
