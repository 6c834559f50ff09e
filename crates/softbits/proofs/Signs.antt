-- A demapping with the signs of the exact soft bits tells the bits of each level. Assumes nothing.
use Rattle.std.proofs.Common.{◌≡◌, ℕ, zero, suc, ◌^◌, ◌<◌, Bool, true, cond, ◌&&◌, eqb, leb, ℤ, pos, negsuc, nat_abs, ◌<ℤ◌, refl, ap, ◌∙◌, arith}
use Rattle.std.proofs.lemmas.Int.{ints}
use Rattle.std.proofs.lemmas.Bool.{and_parts, leb-true}
use Rattle.qam.specs.Levels.{Axis, BitOf, label_bit, reading}
use Rattle.qam.proofs.Each.{every, every_at}
use Rattle.softbits.specs.SoftBits.{Reading, exact, hard, hard_of}
use Rattle.softbits.specs.Theorems.{SignsTell}
use Rattle.softbits.proofs.Bits.{AtTen, by_bit}
use Rattle.softbits.proofs.Values.{same, same_true}

-- what a level's bit makes of the sign
abbrev spoken : ℕ → ℤ
spoken b = cond (eqb b 1) (pos 64) (negsuc 63)

level_ok : ℕ → ℕ → ℕ → Bool
level_ok m k i = leb (nat_abs (reading m i)) 2047 && same (hard m k (reading m i)) (spoken (label_bit m k i))

abbrev All : ℕ → ℕ → Type 0
All m k = every (level_ok m k) (2 ^ m) ≡ true

all_levels : AtTen All
unfolding every level_ok
all_levels = record { one_1 = refl; two_1 = refl; two_2 = refl; three_1 = refl; three_2 = refl; three_3 = refl; four_1 = refl; four_2 = refl; four_3 = refl; four_4 = refl }

record Level (m k i : ℕ) : Type 0 where
  at : Reading (reading m i)
  says : hard m k (reading m i) ≡ spoken (label_bit m k i)

level : (m k i : ℕ) → Axis m → BitOf m k → i < 2 ^ m → Level m k i
unfolding level_ok
level m k i a b l =
    let p = and_parts (leb (nat_abs (reading m i)) 2047) (same (hard m k (reading m i)) (spoken (label_bit m k i))) (every_at (level_ok m k) (2 ^ m) (by_bit All all_levels m k a b) i l) in
    record { at = record { inside = leb-true (nat_abs (reading m i)) 2047 p.0 }; says = same_true (hard m k (reading m i)) (spoken (label_bit m k i)) p.1 }

positive : (x : ℤ) → hard_of x ≡ pos 64 → pos 0 <ℤ x
positive (pos zero) e = absurd (omega (arith, ints, e))
positive (pos (suc n)) e = omega (arith, ints)
positive (negsuc n) e = absurd (omega (arith, ints, e))

negative : (x : ℤ) → hard_of x ≡ negsuc 63 → x <ℤ pos 0
negative (pos zero) e = absurd (omega (arith, ints, e))
negative (pos (suc n)) e = absurd (omega (arith, ints, e))
negative (negsuc n) e = omega (arith, ints)

pub signs_tell : SignsTell exact
signs_tell D e = record {
  one = λ m k i a b l q. let v = level m k i a b l in positive (D.answer m k (reading m i)) (e m k (reading m i) a b v.at ∙ v.says ∙ ap spoken q);
  zero = λ m k i a b l q. let v = level m k i a b l in negative (D.answer m k (reading m i)) (e m k (reading m i) a b v.at ∙ v.says ∙ ap spoken q);
}

pub hard_hard : (x : ℤ) → hard_of (hard_of x) ≡ hard_of x
hard_hard (pos zero) = refl
hard_hard (pos (suc n)) = refl
hard_hard (negsuc n) = refl
