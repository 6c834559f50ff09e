-- A code, and a way of closing it, that pass the tests keep their laws. Assumes nothing.
use Rattle.std.proofs.Common.{◌≡◌, ℕ, zero, suc, ◌-◌, ◌<◌, Bool, true, not, ◌&&◌, ◌||◌, eqb, ltb, leb, ◌⊎◌, List, [], ◌∷◌, refl, ap, ◌∙◌, subst, inl, inr, arith}
use Rattle.std.proofs.lemmas.Bool.{ltb-true, leb-true, eqb-true, eq-eqb, and_parts, or_cases, or_left, or_right, not-true, both_ways, cases_order, cases_eq}
use Rattle.paths.specs.Codes.{Branch, Code, Takes, Enters, CodeLaws}
use Rattle.paths.specs.Paths.{Inputs, end_from}
use Rattle.paths.specs.Endings.{Closer, closing, CloserLaws}
use Rattle.paths.specs.Tests.{enters_ok, takes_ok, branch_ok, state_ok, all_below, code_ok, reaches, only_ok, home_ok, closer_ok}

all_at : (f : ℕ → Bool) (n : ℕ) → all_below f n ≡ true → (k : ℕ) → k < n → f k ≡ true
all_at f zero h k l = absurd (omega arith)
all_at f (suc n) h k l =
    let p = and_parts (f n) (all_below f n) h in
    elim (cases_order k n) [ inl e ↦ ap f e ∙ p.0 | inr e ↦ elim e [ inl i ↦ all_at f n p.1 k i | inr i ↦ absurd (omega arith) ] ]

enters : (C : Code) (s : ℕ) (r : Branch) → enters_ok C s r ≡ true → Enters C s r
enters C s r h =
    let p = and_parts (ltb r.from C.states) (ltb r.input 2 && eqb (C.next r.from r.input) s) h in
    let q = and_parts (ltb r.input 2) (eqb (C.next r.from r.input) s) p.1 in
    record { from_state = ltb-true r.from C.states p.0; by_bit = ltb-true r.input 2 q.0; into = eqb-true (C.next r.from r.input) s q.1 }

takes : (p b : ℕ) (r : Branch) → takes_ok p b r ≡ true → Takes p b r
takes p b r h = let q = and_parts (eqb p r.from) (eqb b r.input) h in record { from_is = eqb-true p r.from q.0; input_is = eqb-true b r.input q.1 }

record Branched (C : Code) (p b : ℕ) : Type 0 where
  stays : C.next p b < C.states
  first_bit : C.first p b < 2
  second_bit : C.second p b < 2
  only : Takes p b (C.lower (C.next p b)) ⊎ Takes p b (C.higher (C.next p b))

branched : (C : Code) (p b : ℕ) → branch_ok C p b ≡ true → Branched C p b
branched C p b h =
    let l = takes_ok p b (C.lower (C.next p b)) in
    let u = takes_ok p b (C.higher (C.next p b)) in
    let one = and_parts (ltb (C.next p b) C.states) (ltb (C.first p b) 2 && (ltb (C.second p b) 2 && (l || u))) h in
    let two = and_parts (ltb (C.first p b) 2) (ltb (C.second p b) 2 && (l || u)) one.1 in
    let three = and_parts (ltb (C.second p b) 2) (l || u) two.1 in
    record {
      stays = ltb-true (C.next p b) C.states one.0;
      first_bit = ltb-true (C.first p b) 2 two.0;
      second_bit = ltb-true (C.second p b) 2 three.0;
      only = elim (or_cases l u three.1) [ inl e ↦ inl (takes p b (C.lower (C.next p b)) e) | inr e ↦ inr (takes p b (C.higher (C.next p b)) e) ];
    }

record Stated (C : Code) (s : ℕ) : Type 0 where
  lower_enters : Enters C s (C.lower s)
  higher_enters : Enters C s (C.higher s)
  apart : (C.lower s).from < (C.higher s).from
  by_0 : Branched C s 0
  by_1 : Branched C s 1

stated : (C : Code) (s : ℕ) → state_ok C s ≡ true → Stated C s
stated C s h =
    let e = enters_ok C s (C.higher s) in
    let d = ltb (C.lower s).from (C.higher s).from in
    let x = branch_ok C s 0 in
    let y = branch_ok C s 1 in
    let one = and_parts (enters_ok C s (C.lower s)) (e && (d && (x && y))) h in
    let two = and_parts e (d && (x && y)) one.1 in
    let three = and_parts d (x && y) two.1 in
    let four = and_parts x y three.1 in
    record {
      lower_enters = enters C s (C.lower s) one.0;
      higher_enters = enters C s (C.higher s) two.0;
      apart = ltb-true (C.lower s).from (C.higher s).from three.0;
      by_0 = branched C s 0 four.0;
      by_1 = branched C s 1 four.1;
    }

by_bit : (P : ℕ → Type 0) → P 0 → P 1 → (b : ℕ) → b < 2 → P b
by_bit P p q zero h = p
by_bit P p q (suc zero) h = q
by_bit P p q (suc (suc b)) h = absurd (omega arith)

pub lawful_from_ok : (C : Code) → code_ok C ≡ true → CodeLaws C
lawful_from_ok C h =
    let one = and_parts (ltb 0 C.states) (leb C.states 64 && all_below (state_ok C) C.states) h in
    let two = and_parts (leb C.states 64) (all_below (state_ok C) C.states) one.1 in
    let at : (s : ℕ) → s < C.states → Stated C s = λ s l. stated C s (all_at (state_ok C) C.states two.1 s l) in
    let by : (s b : ℕ) → s < C.states → b < 2 → Branched C s b = λ s b l i. by_bit (Branched C s) (at s l).by_0 (at s l).by_1 b i in
    record {
      some = ltb-true 0 C.states one.0;
      few = leb-true C.states 64 two.0;
      stays = λ s b l i. (by s b l i).stays;
      first_bit = λ s b l i. (by s b l i).first_bit;
      second_bit = λ s b l i. (by s b l i).second_bit;
      lower_enters = λ s l. (at s l).lower_enters;
      higher_enters = λ s l. (at s l).higher_enters;
      apart = λ s l. (at s l).apart;
      only = λ p b l i. (by p b l i).only;
    }

-- ---- a way of closing

later : (n b : ℕ) (bs : List ℕ) → Inputs (suc n) (b ∷ bs) → Inputs n bs
later n b bs i = record { size = omega (arith, i.size); bits = λ k l. i.bits (suc k) (omega arith) }

pub reached : (C : Code) (n s : ℕ) (bs : List ℕ) → Inputs n bs → end_from C s bs ≡ 0 → reaches C n s ≡ true
reached C zero s [] i e = eq-eqb s 0 e
reached C zero s (b ∷ bs) i e = absurd (omega (arith, i.size))
reached C (suc n) s [] i e = absurd (omega (arith, i.size))
reached C (suc n) s (zero ∷ bs) i e = or_left (reaches C n (C.next s 0)) (reaches C n (C.next s 1)) (reached C n (C.next s 0) bs (later n 0 bs i) e)
reached C (suc n) s (suc zero ∷ bs) i e = or_right (reaches C n (C.next s 0)) (reaches C n (C.next s 1)) (reached C n (C.next s 1) bs (later n 1 bs i) e)
reached C (suc n) s (suc (suc b) ∷ bs) i e = absurd (omega (arith, i.bits 0 (omega arith)))

pub closes_only : (C : Code) (E : Closer) (n s : ℕ) → ((t : ℕ) → t < C.states → E.close t < 2) → ((t b : ℕ) → t < C.states → b < 2 → C.next t b < C.states) →
    s < C.states → only_ok C E n s ≡ true → (bs : List ℕ) → Inputs n bs → end_from C s bs ≡ 0 → bs ≡ closing C E n s
closes_only C E zero s bit stays l h [] i e = refl
closes_only C E zero s bit stays l h (b ∷ bs) i e = absurd (omega (arith, i.size))
closes_only C E (suc n) s bit stays l h [] i e = absurd (omega (arith, i.size))
closes_only C E (suc n) s bit stays l h (b ∷ bs) i e =
    let p = and_parts (not (reaches C n (C.next s (1 - E.close s)))) (only_ok C E n (C.next s (E.close s))) h in
    let small : b < 2 = i.bits 0 (omega arith) in
    let low : E.close s < 2 = bit s l in
    let stay : C.next s (E.close s) < C.states = stays s (E.close s) l low in
    elim (cases_eq b (E.close s)) [
      | inl d ↦
          let e' : end_from C (C.next s (E.close s)) bs ≡ 0 = subst (λ x. end_from C (C.next s x) bs ≡ 0) d e in
          let rest : bs ≡ closing C E n (C.next s (E.close s)) = closes_only C E n (C.next s (E.close s)) bit stays stay p.1 bs (later n b bs i) e' in
          cc
      | inr d ↦
          let other : b ≡ 1 - E.close s = omega arith in
          let e' : end_from C (C.next s (1 - E.close s)) bs ≡ 0 = subst (λ x. end_from C (C.next s x) bs ≡ 0) other e in
          absurd (both_ways (reaches C n (C.next s (1 - E.close s))) (not-true (reaches C n (C.next s (1 - E.close s))) p.0) (reached C n (C.next s (1 - E.close s)) bs (later n b bs i) e'))
    ]

pub closer_from_ok : (C : Code) (E : Closer) → CodeLaws C → closer_ok C E ≡ true → CloserLaws C E
closer_from_ok C E lawful h =
    let one = and_parts (leb E.memory 6) (all_below (home_ok C E) C.states) h in
    let at : (s : ℕ) → s < C.states → home_ok C E s ≡ true = λ s l. all_at (home_ok C E) C.states one.1 s l in
    let two : (s : ℕ) → s < C.states → (ltb (E.close s) 2 ≡ true) × ((eqb (end_from C s (closing C E E.memory s)) 0 && only_ok C E E.memory s) ≡ true) =
    λ s l. and_parts (ltb (E.close s) 2) (eqb (end_from C s (closing C E E.memory s)) 0 && only_ok C E E.memory s) (at s l) in
    let three : (s : ℕ) → s < C.states → (eqb (end_from C s (closing C E E.memory s)) 0 ≡ true) × (only_ok C E E.memory s ≡ true) =
    λ s l. and_parts (eqb (end_from C s (closing C E E.memory s)) 0) (only_ok C E E.memory s) (two s l).1 in
    let bit : (s : ℕ) → s < C.states → E.close s < 2 = λ s l. ltb-true (E.close s) 2 (two s l).0 in
    record {
      short = leb-true E.memory 6 one.0;
      bit = bit;
      home = λ s l. eqb-true (end_from C s (closing C E E.memory s)) 0 (three s l).0;
      only = λ s bs l i e. closes_only C E E.memory s bit lawful.stays l (three s l).1 bs i e;
    }
