-- Up to bit m each demapping is its soft bit: its signs tell, and the short one has its gap. Assumes nothing.
use Rattle.std.proofs.Common.{◌≤◌, ℤ, ◌-ℤ◌, nat_abs, sym, ap, ◌∙◌, subst}
use Rattle.softbits.specs.SoftBits.{exact, hard, hard_of, short}
use Rattle.softbits.specs.Demapping.{IsExact, Tells, gap}
use Rattle.softbits.specs.Theorems.{Bounded}
use Rattle.softbits.proofs.Theorems.{same_sign, short_near}
use Rattle.softbits.proofs.Signs.{hard_hard, signs_tell}
use Rattle.softbits.proofs.Values.{inside_up_to}
use Rattle.demapping.specs.Demappings.{exact_demapping, short_demapping, hard_demapping}

pub is_exact : IsExact exact_demapping
unfolding exact_demapping
is_exact m k r a b h = inside_up_to exact m k r b

pub short_gap : Bounded (gap short_demapping) 10745
short_gap m k r a b h = subst (λ (x : ℤ). nat_abs (x -ℤ exact m k r) ≤ 10745) (sym (inside_up_to short m k r b)) (short_near m k r a b h)

pub exact_tells : Tells exact_demapping
unfolding exact_demapping
exact_tells = signs_tell exact_demapping (λ m k r a b h. ap hard_of (inside_up_to exact m k r b))

pub short_tells : Tells short_demapping
short_tells = signs_tell short_demapping (λ m k r a b h. ap hard_of (inside_up_to short m k r b) ∙ same_sign m k r a b h)

pub hard_tells : Tells hard_demapping
unfolding hard_demapping
hard_tells = signs_tell hard_demapping (λ m k r a b h. ap hard_of (inside_up_to hard m k r b) ∙ hard_hard (exact m k r))
