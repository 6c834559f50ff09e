-- Interleavers are bijections; which blocks the two steps take. Assumes nothing.
use Rattle.std.proofs.Common.{◌≡◌, ℕ, ◌+◌, ◌*◌, ◌/◌, ◌%◌, Bool, true, false, ◌&&◌, eqb, ltb, sym, refl, ap, ◌∙◌, inl, inr, arith}
use native.Mathlib.Nat.{div-add-mod}
use Rattle.std.proofs.lemmas.Nat.{mod_below, mod-mul-add}
use Rattle.std.proofs.lemmas.Bool.{and_from, lt-ltb, eq-eqb, ne_eqb, cases_eq}
use Rattle.interleaving.specs.StepLaws.{cut, first_there, first_back, first_there_back, first_back_there, second_there, second_back, second_there_back, second_back_there}
use Rattle.interleaving.specs.Theorems.{EveryColumnCount, EveryInterleaver, TwoStepTakes}

pub every_interleaver : EveryInterleaver
every_interleaver X m b z t =
    record { places = λ j h. X.place_within m b j z t h; positions = λ p h. X.position_within m b p z t h; back = λ j h. X.there_back m b j z t h; forth = λ p h. X.back_there m b p z t h }

pub every_column_count : EveryColumnCount
every_column_count c m b hc hm hb e =
    let t = and_from (ltb 0 c) (eqb ((2 * b) % c) 0) (lt-ltb 0 c (omega arith)) (eq-eqb ((2 * b) % c) 0 e) in
    let k = cut c m b hb t in
    record {
      first_step = record { places = λ j h. first_there c m b j k h; positions = λ p h. first_back c m b p k hm h; back = λ j h. first_there_back c m b j k h; forth = λ p h. first_back_there c m b p k hm h };
      second_step = record { places = λ j h. second_there c m b j k hm h; positions = λ p h. second_back c m b p k hm h; back = λ j h. second_there_back c m b j k hm h; forth = λ p h. second_back_there c m b p k hm h };
    }

same_twice : (x : Bool) → (x && x) ≡ x
same_twice true = refl
same_twice false = refl

sixteen : (b : ℕ) → (2 * b) % 16 ≡ 2 * (b % 8)
sixteen b =
    let d = div-add-mod b 8 in
    let e : 2 * b ≡ (b / 8) * 16 + 2 * (b % 8) = omega arith in
    ap (λ x. x % 16) e ∙ mod-mul-add (b / 8) 16 (2 * (b % 8)) (omega (arith, mod_below b 8 (omega arith)))

by_eight : (b : ℕ) → eqb ((2 * b) % 16) 0 ≡ eqb (b % 8) 0
by_eight b =
    let s = sixteen b in
    elim (cases_eq (b % 8) 0) [
      | inl e ↦ eq-eqb ((2 * b) % 16) 0 (omega arith) ∙ sym (eq-eqb (b % 8) 0 e)
      | inr n ↦ ne_eqb ((2 * b) % 16) 0 (λ z. n (omega arith)) ∙ sym (ne_eqb (b % 8) 0 n)
    ]

pub two_step_takes : TwoStepTakes
two_step_takes m b = same_twice (eqb ((2 * b) % 16) 0) ∙ by_eight b
