-- The facts of the soft bits, from the tests that pass. Assumes nothing.
use Rattle.std.proofs.Common.{◌≡◌, ℕ, ◌≤◌, true, cond, ◌&&◌, eqb, leb, ℤ, pos, ◌-ℤ◌, ◌*ℤ◌, nat_abs, sym, refl, ◌∙◌, arith}
use Rattle.std.proofs.lemmas.Bool.{and_parts, cond-true, eq-eqb, leb-true}
use Rattle.softbits.specs.SoftBits.{divisor, lead, exact, short, hard_of}
use Rattle.softbits.specs.Theorems.{Bounded, Everywhere, NoRemainder, SameSign, SameAtLast}
use Rattle.softbits.proofs.Runs.{everywhere}
use Rattle.softbits.proofs.Table.{tests, sound, all_sound}
use Rattle.softbits.proofs.Values.{same, same_true}

record Sound (m k : ℕ) (l x a : ℤ) : Type 0 where
  divides : pos divisor *ℤ x ≡ l
  exact_in : nat_abs x ≤ 12792
  short_in : nat_abs a ≤ 2047
  sign : hard_of a ≡ hard_of x
  last : cond (eqb k m) (same a x) true ≡ true
  near_by : nat_abs (a -ℤ x) ≤ 10745

told : (m k : ℕ) (l x a : ℤ) → tests m k l x a ≡ true → Sound m k l x a
told m k l x a t =
    let f = leb (nat_abs (a -ℤ x)) 10745 in
    let e = cond (eqb k m) (same a x) true in
    let d = same (hard_of a) (hard_of x) in
    let c = leb (nat_abs a) 2047 in
    let b = leb (nat_abs x) 12792 in
    let p1 = and_parts (same (pos divisor *ℤ x) l) (b && (c && (d && (e && f)))) t in
    let p2 = and_parts b (c && (d && (e && f))) p1.1 in
    let p3 = and_parts c (d && (e && f)) p2.1 in
    let p4 = and_parts d (e && f) p3.1 in
    let p5 = and_parts e f p4.1 in
    record {
      divides = same_true (pos divisor *ℤ x) l p1.0;
      exact_in = leb-true (nat_abs x) 12792 p2.0;
      short_in = leb-true (nat_abs a) 2047 p3.0;
      sign = same_true (hard_of a) (hard_of x) p4.0;
      last = p5.0;
      near_by = leb-true (nat_abs (a -ℤ x)) 10745 p5.1;
    }

facts : Everywhere (λ m k r. Sound m k (lead m k r) (exact m k r) (short m k r))
unfolding sound
facts m k r a b h = told m k (lead m k r) (exact m k r) (short m k r) (everywhere sound all_sound m k r a b h)

pub no_remainder : NoRemainder (pos divisor)
no_remainder m k r a b h = (facts m k r a b h).divides

pub exact_few : Bounded (λ m k r. nat_abs (exact m k r)) 12792
exact_few m k r a b h = (facts m k r a b h).exact_in

pub short_few : Bounded (λ m k r. nat_abs (short m k r)) 2047
short_few m k r a b h = (facts m k r a b h).short_in

pub same_sign : SameSign short exact
same_sign m k r a b h = (facts m k r a b h).sign

at_last : (m : ℕ) (x a : ℤ) → cond (eqb m m) (same a x) true ≡ true → a ≡ x
at_last m x a t = same_true a x (sym (cond-true (eqb m m) (same a x) true (eq-eqb m m refl)) ∙ t)

pub same_at_last : SameAtLast short exact
unfolding SameAtLast
same_at_last m r a h = at_last m (exact m m r) (short m m r) (facts m m r a (record { first = a.some; last = omega arith }) h).last

pub short_near : Bounded (λ m k r. nat_abs (short m k r -ℤ exact m k r)) 10745
short_near m k r a b h = (facts m k r a b h).near_by
