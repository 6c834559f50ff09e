-- The facts of the soft bits pass at every reading: antt computes them, bit by bit. Assumes nothing.
use Rattle.std.proofs.Common.{ℕ, Bool, true, cond, ◌&&◌, eqb, leb, ℤ, pos, ◌-ℤ◌, ◌*ℤ◌, nat_abs, refl}
use lib.Signed.{quot_z}
use Rattle.qam.proofs.Each.{every}
use Rattle.softbits.specs.SoftBits.{divisor, lead, short, hard_of}
use Rattle.softbits.proofs.Bits.{AtTen}
use Rattle.softbits.proofs.Runs.{run, Passes}
use Rattle.softbits.proofs.Values.{same}

-- the facts of a lead l, an exact soft bit x and a short one a
abbrev pub tests : ℕ → ℕ → ℤ → ℤ → ℤ → Bool
tests m k l x a =
    same (pos divisor *ℤ x) l && (leb (nat_abs x) 12792 && (leb (nat_abs a) 2047 && (same (hard_of a) (hard_of x) && (cond (eqb k m) (same a x) true && leb (nat_abs (a -ℤ x)) 10745))))

-- the same, of the lead and the short soft bit: the lead is computed once
abbrev pub led : ℕ → ℕ → ℤ → ℤ → Bool
led m k l a = tests m k l (quot_z l (pos divisor)) a

unfoldable pub sound : ℕ → ℕ → ℤ → Bool
sound m k r = led m k (lead m k r) (short m k r)

one_1 : Passes sound 1 1
unfolding run sound every
one_1 = refl

two_1 : Passes sound 2 1
unfolding run sound every
two_1 = refl

two_2 : Passes sound 2 2
unfolding run sound every
two_2 = refl

three_1 : Passes sound 3 1
unfolding run sound every
three_1 = refl

three_2 : Passes sound 3 2
unfolding run sound every
three_2 = refl

three_3 : Passes sound 3 3
unfolding run sound every
three_3 = refl

four_1 : Passes sound 4 1
unfolding run sound every
four_1 = refl

four_2 : Passes sound 4 2
unfolding run sound every
four_2 = refl

four_3 : Passes sound 4 3
unfolding run sound every
four_3 = refl

four_4 : Passes sound 4 4
unfolding run sound every
four_4 = refl

pub all_sound : AtTen (Passes sound)
all_sound = record {
  one_1 = one_1;
  two_1 = two_1;
  two_2 = two_2;
  three_1 = three_1;
  three_2 = three_2;
  three_3 = three_3;
  four_1 = four_1;
  four_2 = four_2;
  four_3 = four_3;
  four_4 = four_4;
}
