-- The message of the least total is as near as the demapper allows. Assumes nothing.
use Rattle.std.proofs.Common.{◌≡◌, ℕ, zero, suc, ◌+◌, ◌-◌, ◌*◌, ◌%◌, ◌<◌, ◌≤◌, Bool, true, false, cond, eqb, ltb, List, [], ◌∷◌, length, get_or, ℤ, ◌-ℤ◌, nat_abs, Some, None, Option, refl, ap, ◌∙◌, mul-zero, arith}
use Rattle.std.specs.List.{AllByRecursion}
use Rattle.std.proofs.lemmas.Nat.{mod_below}
use Rattle.std.proofs.lemmas.Int.{ints}
use Rattle.std.proofs.lemmas.Bool.{ltb-true, ltb-false}
use Rattle.qam.specs.Levels.{Axis, BitOf}
use Rattle.softbits.specs.SoftBits.{Reading, exact, near}
use Rattle.softbits.specs.Demapping.{IsExact}
use Rattle.softbits.proofs.Theorems.{no_remainder}
use Rattle.coding.specs.Encoding.{sent_bits}
use Rattle.coding.proofs.Sent.{all_bits, sent_bits_all}
use Rattle.interleaving.specs.Interleaving.{size}
use Rattle.interleaving.specs.Blocks.{bit_of, cell_bits, cell_of}
use Rattle.sending.specs.Links.{Planned}
use Rattle.trellis.specs.Penalties.{penalty}
use Rattle.reception.specs.Entries.{AllInRange, Carried, Entry, Entry.missed, Entry.received, EntryInRange, Reception, bit_in, carried, received_at, weighted, weighted_gap, weighted_near}
use Rattle.reception.specs.Distances.{costs, where_apart}
use Rattle.reception.specs.Theorems.{LeastIsNearest}
use Rattle.reception.proofs.Fairness.{Fair, fair, fair_none}
use Rattle.reception.proofs.Sums.{as_many, least_sum, paid}

-- ---- over the positions

-- one position, for any two bits
at_one : (v : ℤ) (g : ℕ) (cost : ℕ → ℕ) → Fair v g cost → (c d : ℕ) → c < 2 → d < 2 → cost c + 256 * penalty v d ≤ cost d + 256 * penalty v c + 256 * cond (eqb c d) 0 g
at_one v g cost f zero zero hc hd = omega arith
at_one v g cost f zero (suc zero) hc hd = f.of_0
at_one v g cost f (suc zero) zero hc hd = f.of_1
at_one v g cost f (suc zero) (suc zero) hc hd = omega arith
at_one v g cost f (suc (suc n)) d hc hd = absurd (omega arith)
at_one v g cost f zero (suc (suc n)) hc hd = absurd (omega arith)
at_one v g cost f (suc zero) (suc (suc n)) hc hd = absurd (omega arith)

module _ (v : ℕ → ℤ) (gap : ℕ → ℕ) (cost : ℕ → ℕ → ℕ) (every : (k : ℕ) → Fair (v k) (gap k) (cost k)) where
  -- all of them
  pub crossed : (j : ℕ) (xs ys : List ℕ) → length xs ≡ length ys → AllByRecursion (λ c. c < 2) xs → AllByRecursion (λ c. c < 2) ys →
      costs cost j xs + 256 * paid v j ys ≤ costs cost j ys + 256 * paid v j xs + 256 * where_apart gap j xs ys
  crossed j [] [] e bx by = omega arith
  crossed j [] (y ∷ ys) e bx by = absurd (omega arith)
  crossed j (x ∷ xs) [] e bx by = absurd (omega arith)
  crossed j (x ∷ xs) (y ∷ ys) e bx by =
      let here = at_one (v j) (gap j) (cost j) (every j) x y bx.0 by.0 in
      let rest = crossed (suc j) xs ys (omega arith) bx.1 by.1 in
      omega arith

no_gaps : (gap : ℕ → ℕ) → ((k : ℕ) → gap k ≡ 0) → (j : ℕ) (xs ys : List ℕ) → where_apart gap j xs ys ≡ 0
no_gaps gap z j [] ys = refl
no_gaps gap z j (x ∷ xs) [] = refl
no_gaps gap z j (x ∷ xs) (y ∷ ys) = either (eqb x y) (z j) (no_gaps gap z (suc j) xs ys)
  where
    either : (b : Bool) → gap j ≡ 0 → where_apart gap (suc j) xs ys ≡ 0 → cond b 0 (gap j) + where_apart gap (suc j) xs ys ≡ 0
    either true h r = omega arith
    either false h r = omega arith

-- ---- each position of a reception is fair

module _ (R : Reception) (es : List Entry) (p : Planned R.link) (ranged : AllInRange es) where
  axis : Axis R.link.m
  axis = record { some = p.sizes.some_bits; few = p.sizes.few_bits }

  -- what carries a position has a reading in range and a bit of its axis
  Right : Option Carried → Type 0
  Right None = Unit {0}
  Right (Some x) = Reading x.reading × BitOf R.link.m x.bit

  right_in : (e : Entry) (b : ℕ) → EntryInRange e → b < cell_bits R.link.m → Right (bit_in R.link.m e b)
  unfolding Right
  right_in missed b g l = tt
  right_in (received x) b g l = told (ltb b R.link.m) refl
    where
      told : (t : Bool) → ltb b R.link.m ≡ t → Right (Some (record { reading = cond t x.in_phase x.quadrature; bit = cond t (suc b) (suc (b - R.link.m)); weight = x.weight }))
      told true e = let h = ltb-true b R.link.m e in (g.in_phase, record { first = omega arith; last = omega arith })
      told false e = let h = ltb-false b R.link.m e in (g.quadrature, record { first = omega arith; last = omega arith })

  wide : 0 < cell_bits R.link.m
  wide = let h = p.sizes.some_bits in omega arith

  right : (j : ℕ) → Right (carried R.link es j)
  right j =
      let L = R.link in
      right_in (get_or es (cell_of L.interleaving L.m L.B j) missed) (bit_of L.interleaving L.m L.B j) (ranged (cell_of L.interleaving L.m L.B j))
      (mod_below (L.interleaving.place L.m L.B (j % size L.m L.B)) (cell_bits L.m) wide)

  fair_of : (o : Option Carried) → Right o → Fair (weighted R o) (weighted_gap R o) (λ c. weighted_near R c o)
  unfolding Right
  fair_of None r = fair_none
  fair_of (Some x) r =
      let m = R.link.m in
      fair x.weight (λ c. near m x.bit c x.reading) (R.demapping.answer m x.bit x.reading) (exact m x.bit x.reading) (no_remainder m x.bit x.reading axis r.1 r.0)

  pub fair_at : (j : ℕ) → Fair (received_at R es j) (weighted_gap R (carried R.link es j)) (λ c. weighted_near R c (carried R.link es j))
  fair_at j = fair_of (carried R.link es j) (right j)

  exact_gap : IsExact R.demapping → (o : Option Carried) → Right o → weighted_gap R o ≡ 0
  unfolding Right
  exact_gap ex None r = refl
  exact_gap ex (Some x) r =
      let m = R.link.m in
      let e = ex m x.bit x.reading axis r.1 r.0 in
      let z : nat_abs (R.demapping.answer m x.bit x.reading -ℤ exact m x.bit x.reading) ≡ 0 = omega (arith, ints, e) in
      ap (λ n. x.weight * n) z ∙ mul-zero x.weight

  pub no_gap_at : IsExact R.demapping → (j : ℕ) → weighted_gap R (carried R.link es j) ≡ 0
  no_gap_at ex j = exact_gap ex (carried R.link es j) (right j)

pub least_is_nearest : {X : Type 0} → LeastIsNearest X
least_is_nearest R M es ms t p ranged least =
    let L = R.link in
    let Q = L.coding in
    let K = L.K in
    let v : ℕ → ℤ = received_at R es in
    let cost : ℕ → ℕ → ℕ = λ k c. weighted_near R c (carried L es k) in
    let gap : ℕ → ℕ = λ k. weighted_gap R (carried L es k) in
    let bits = sent_bits_all Q p.ending ms (all_bits K ms least.bits) in
    let every : (k : ℕ) → Fair (v k) (gap k) (cost k) = fair_at R es p ranged in
    record {
      least = least;
      near_enough = λ S rs r.
          omega (arith, crossed v gap cost every 0 (sent_bits Q ms) (sent_bits Q rs) (as_many Q K ms rs least.bits r) bits (sent_bits_all Q p.ending rs (all_bits K rs r)), least_sum Q K M S v ms rs t least r);
      nearest = λ S ex rs r.
          omega (arith, crossed v gap cost every 0 (sent_bits Q ms) (sent_bits Q rs) (as_many Q K ms rs least.bits r) bits (sent_bits_all Q p.ending rs (all_bits K rs r)), least_sum Q K M S v ms rs t least r, no_gaps gap (no_gap_at R es p ranged ex) 0 (sent_bits Q ms) (sent_bits Q rs));
    }
