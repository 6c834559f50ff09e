-- Equal whole numbers by a test, and a function up to the last bit of an axis. Assumes nothing.
use Rattle.std.proofs.Common.{◌≡◌, ℕ, Bool, true, false, eqb, leb, ℤ, pos, negsuc, refl, ap}
use Rattle.std.proofs.lemmas.Bool.{both_ways, cond-true, eqb-true, le-leb}
use Rattle.qam.specs.Levels.{BitOf}
use Rattle.softbits.specs.SoftBits.{up_to}

abbrev pub same : ℤ → ℤ → Bool
same (pos a) (pos b) = eqb a b
same (pos a) (negsuc b) = false
same (negsuc a) (pos b) = false
same (negsuc a) (negsuc b) = eqb a b

pub same_true : (a b : ℤ) → same a b ≡ true → a ≡ b
same_true (pos a) (pos b) t = ap pos (eqb-true a b t)
same_true (pos a) (negsuc b) t = absurd (both_ways (same (pos a) (negsuc b)) refl t)
same_true (negsuc a) (pos b) t = absurd (both_ways (same (negsuc a) (pos b)) refl t)
same_true (negsuc a) (negsuc b) t = ap negsuc (eqb-true a b t)

pub inside_up_to : (f : ℕ → ℕ → ℤ → ℤ) (m k : ℕ) (r : ℤ) → BitOf m k → up_to f m k r ≡ f m k r
inside_up_to f m k r b = cond-true (leb k m) (f m k r) (pos 0) (le-leb k m b.last)
