-- Each label of an axis is that of one level alone: antt computes the 30 labels. Assumes nothing.
use Rattle.std.proofs.Common.{◌≡◌, ℕ, ◌/◌, ◌^◌, ◌<◌, Bool, true, not, ◌&&◌, ◌||◌, eqb, ltb, leb, refl, inl, inr}
use lib.Bits.{bit_xor}
use Rattle.std.proofs.lemmas.Bool.{and_parts, or_cases, both_ways, not-true, eqb-true, eq-eqb, ltb-true, leb-true}
use Rattle.qam.specs.Levels.{Axis, SoleLabel, is_label, label, labelled}
use Rattle.qam.proofs.Axes.{by_axis}
use Rattle.qam.proofs.Each.{every, every_at}

-- the level number from its label, by the half, the quarter and the eighth
abbrev pub decoded : ℕ → ℕ
decoded l = bit_xor (bit_xor (bit_xor l (l / 2)) (l / 4)) (l / 8)

-- level number j has another label than l, or is the one decoded
abbrev apart : ℕ → ℕ → Bool
apart l j = not (eqb (label j) l) || eqb j (decoded l)

abbrev sole_ok : ℕ → ℕ → Bool
sole_ok m l = ltb (decoded l) (2 ^ m) && (eqb (label (decoded l)) l && (every (apart l) (2 ^ m) && eqb (decoded l) (labelled m l)))

pub record Decodes (m l : ℕ) : Type 0 where
  pub value : decoded l ≡ labelled m l
  pub sole : SoleLabel m l (decoded l)

told : (m l : ℕ) → sole_ok m l ≡ true → Decodes m l
told m l h =
    let rest = every (apart l) (2 ^ m) && eqb (decoded l) (labelled m l) in
    let one = and_parts (ltb (decoded l) (2 ^ m)) (eqb (label (decoded l)) l && rest) h in
    let two = and_parts (eqb (label (decoded l)) l) rest one.1 in
    let three = and_parts (every (apart l) (2 ^ m)) (eqb (decoded l) (labelled m l)) two.1 in
    record {
      value = eqb-true (decoded l) (labelled m l) three.1;
      sole = record {
        inside = ltb-true (decoded l) (2 ^ m) one.0;
        has = eqb-true (label (decoded l)) l two.0;
        only = λ j i e.
            elim (or_cases (not (eqb (label j) l)) (eqb j (decoded l)) (every_at (apart l) (2 ^ m) three.0 j i)) [
              | inl n ↦ absurd (both_ways (eqb (label j) l) (not-true (eqb (label j) l) n) (eq-eqb (label j) l e))
              | inr s ↦ eqb-true j (decoded l) s
            ];
      };
    }

abbrev All : ℕ → Type 0
All m = every (sole_ok m) (2 ^ m) ≡ true

one_bit : All 1
unfolding every
one_bit = refl

two_bits : All 2
unfolding every
two_bits = refl

three_bits : All 3
unfolding every
three_bits = refl

four_bits : All 4
unfolding every
four_bits = refl

pub decodes_on : (m l : ℕ) → Axis m → l < 2 ^ m → Decodes m l
decodes_on m l a h = told m l (every_at (sole_ok m) (2 ^ m) (by_axis All one_bit two_bits three_bits four_bits m a) l h)

label_axis : (m l : ℕ) → is_label m l ≡ true → Axis m
label_axis m l h =
    let one = and_parts (leb 1 m) (leb m 4 && ltb l (2 ^ m)) h in
    let two = and_parts (leb m 4) (ltb l (2 ^ m)) one.1 in
    record { some = leb-true 1 m one.0; few = leb-true m 4 two.0 }

label_inside : (m l : ℕ) → is_label m l ≡ true → l < 2 ^ m
label_inside m l h = ltb-true l (2 ^ m) (and_parts (leb m 4) (ltb l (2 ^ m)) (and_parts (leb 1 m) (leb m 4 && ltb l (2 ^ m)) h).1).1

pub decodes : (m l : ℕ) → is_label m l ≡ true → Decodes m l
decodes m l h = decodes_on m l (label_axis m l h) (label_inside m l h)
