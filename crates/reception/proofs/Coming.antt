-- Cells that came unharmed lead back to a message that sends the same cells. Assumes nothing.
use Rattle.std.proofs.Common.{◌≡◌, ℕ, zero, suc, ◌+◌, ◌-◌, ◌*◌, ◌^◌, ◌<◌, ◌≤◌, Bool, true, false, cond, eqb, ltb, ◌⊎◌, List, [], ◌∷◌, length, get_or, ℤ, pos, negsuc, ◌*ℤ◌, nat_abs, ◌<ℤ◌, sym, refl, ap, ◌∙◌, subst, inl, inr, arith}
use Rattle.std.proofs.lemmas.Nat.{mul-lt}
use Rattle.std.proofs.lemmas.List.FromFn.{length-map-range_with_len}
use Rattle.std.proofs.lemmas.List.{append-nil}
use Rattle.std.proofs.lemmas.Int.{ints}
use Rattle.std.proofs.lemmas.Bool.{both_ways, cases_eq, ltb-false, ltb-true}
use Rattle.qam.specs.declared.cell.QamCell.{QamCell}
use Rattle.qam.specs.Levels.{Axis, BitOf, label_bit, reading}
use Rattle.qam.specs.Cells.{CellCarries, bit_of_axis}
use Rattle.qam.proofs.Axes.{levels_few}
use Rattle.softbits.specs.SoftBits.{Reading}
use Rattle.softbits.specs.Demapping.{Tells}
use Rattle.coding.specs.Encoding.{sent_bits, steps_for}
use Rattle.coding.specs.Puncturing.{sent_before}
use Rattle.coding.proofs.Patterns.{sent_most}
use Rattle.coding.proofs.Sent.{all_bits, sent_bits_all, sent_bits_size, tail_short}
use Rattle.interleaving.specs.Blocks.{bit_of, cell_bits, cell_of}
use Rattle.interleaving.proofs.Spots.{every_position_once}
use Rattle.paths.specs.Orders.{heaviest, most_penalties}
use Rattle.paths.specs.Paths.{Inputs}
use Rattle.sending.specs.Links.{Planned, block, blocks, cells, positions, sent}
use Rattle.sending.specs.Cells.{bit_at, cell_with, cells_with, sent_cells}
use Rattle.sending.proofs.Encodings.{raised_over}
use Rattle.sending.proofs.Sendings.{cells_carry}
use Rattle.sending.proofs.Sizes.{cells_are, no_cell}
use Rattle.trellis.specs.Penalties.{penalties, penalty, total}
use Rattle.reception.specs.Entries.{Entry, Entry.missed, Entry.received, Reception, bit_in, received_at, weight_limit, weighted}
use Rattle.reception.specs.Unharmed.{Borne, Free, Weights, unharmed, weighing}
use Rattle.reception.specs.Theorems.{UnharmedComesBack}
use Rattle.reception.proofs.Signs.{AllSay, Says, all_free, all_own, length_penalties}
use Rattle.reception.proofs.Sums.{as_many}
use Rattle.reception.proofs.Weights.{negative, positive, weighted_small}

-- ---- one position

penalty_small : (v : ℤ) (c n : ℕ) → nat_abs v ≤ n → penalty v c ≤ n
penalty_small (pos a) c n h = either (eqb c 0) h
  where
    either : (t : Bool) → a ≤ n → cond t a 0 ≤ n
    either true l = l
    either false l = omega arith
penalty_small (negsuc a) c n h = either (eqb c 0) h
  where
    either : (t : Bool) → suc a ≤ n → cond t 0 (suc a) ≤ n
    either true l = omega arith
    either false l = l

-- a level is a reading
level_reading : (m i : ℕ) → m ≤ 4 → i < 2 ^ m → Reading (reading m i)
level_reading m i h l = let few = levels_few m h in record { inside = omega (arith, ints) }

-- ---- lists

unharmed_at : (xs : List QamCell) (ws : List ℕ) (c : ℕ) (d : QamCell) → c < length xs → length ws ≡ length xs → get_or (unharmed xs ws) c missed ≡ received (weighing (get_or xs c d) (get_or ws c 0))
unharmed_at [] ws c d l e = absurd (omega arith)
unharmed_at (x ∷ xs) [] c d l e = absurd (omega arith)
unharmed_at (x ∷ xs) (w ∷ ws) zero d l e = refl
unharmed_at (x ∷ xs) (w ∷ ws) (suc c) d l e = unharmed_at xs ws c d (omega arith) (omega arith)

say_all : (v : ℕ → ℤ) (j : ℕ) (xs : List ℕ) → ((k : ℕ) → k < length xs → Says (v (j + k)) (get_or xs k 0)) → AllSay v j xs
say_all v j [] s = tt
say_all v j (x ∷ xs) s =
    let e : j + 0 ≡ j = omega arith in (
      subst (λ i. Says (v i) x) e (s 0 (omega arith)),
      say_all v (suc j) xs (λ k l. let f : j + suc k ≡ suc j + k = omega arith in subst (λ i. Says (v i) (get_or xs k 0)) f (s (suc k) (omega arith))),
    )

penalty_at : (v : ℕ → ℤ) (j : ℕ) (xs : List ℕ) (n : ℕ) → ((k : ℕ) → k < length xs → nat_abs (v (j + k)) ≤ n) → (k : ℕ) → k < length (penalties v j xs) → get_or (penalties v j xs) k 0 ≤ n
penalty_at v j [] n h k l = absurd (omega arith)
penalty_at v j (x ∷ xs) n h zero l = let e : j + 0 ≡ j = omega arith in penalty_small (v j) x n (subst (λ i. nat_abs (v i) ≤ n) e (h 0 (omega arith)))
penalty_at v j (x ∷ xs) n h (suc k) l = penalty_at v (suc j) xs n (λ i b. let e : j + suc i ≡ suc j + i = omega arith in subst (λ y. nat_abs (v y) ≤ n) e (h (suc i) (omega arith))) k (omega arith)

-- penalties are all 0, or not
free_or_not : (ps : List ℕ) → Free ps ⊎ (Free ps → ⊥)
free_or_not [] = inl (λ k l. absurd (omega arith))
free_or_not (p ∷ ps) =
    elim (cases_eq p 0) [
      | inl e ↦ elim (free_or_not ps) [ inl f ↦ inl (both e f) | inr n ↦ inr (λ g. n (λ k l. g (suc k) (omega arith))) ]
      | inr n ↦ inr (λ g. n (g 0 (omega arith)))
    ]
  where
    both : p ≡ 0 → Free ps → Free (p ∷ ps)
    both e f zero l = e
    both e f (suc k) l = f k (omega arith)

-- ---- a frame that came unharmed

module _ (R : Reception) (ms ws : List ℕ) (p : Planned R.link) (tells : Tells R.demapping) (i : Inputs R.link.K ms) (weights : Weights (cells R.link) ws) where
  -- what carries a position: its cell's level, with a label bit that is the sent bit
  record At (j : ℕ) : Type 0 where
    weight : ℕ
    some : 1 ≤ weight
    light : weight ≤ weight_limit
    bit : ℕ
    bit_right : BitOf R.link.m bit
    level : ℕ
    inside : level < 2 ^ R.link.m
    sent_is : label_bit R.link.m bit level ≡ bit_at (sent_bits R.link.coding ms) j
    soft_is : received_at R (unharmed (sent_cells R.link ms) ws) j ≡ pos weight *ℤ R.demapping.answer R.link.m bit (reading R.link.m level)

  axis : Axis R.link.m
  axis = record { some = p.sizes.some_bits; few = p.sizes.few_bits }

  room : sent R.link ≤ positions R.link
  room = let L = R.link in raised_over (sent L) (block L) (omega (arith, mul-lt 0 0 (2 * L.m) L.B (omega (arith, p.sizes.some_bits)) p.sizes.some_cells))

  -- a bit of a cell is a bit of one of its axes
  bit_right : (m b : ℕ) → b < cell_bits m → BitOf m (bit_of_axis m b)
  bit_right m b h = told (ltb b m) refl
    where
      told : (t : Bool) → ltb b m ≡ t → BitOf m (cond t (suc b) (suc (b - m)))
      told true e = let l = ltb-true b m e in record { first = omega arith; last = omega arith }
      told false e = let l = ltb-false b m e in record { first = omega arith; last = omega arith }

  at : (j : ℕ) → j < positions R.link → At j
  at j h =
      let L = R.link in
      let m = L.m in
      let once = every_position_once L.interleaving m L.B (blocks L) p.sizes p.taken in
      let c = cell_of L.interleaving m L.B j in
      let b = bit_of L.interleaving m L.B j in
      let xs = sent_cells L ms in
      let size : length xs ≡ cells L = length-map-range_with_len (cell_with L.interleaving m L.B (sent_bits L.coding ms)) 0 (cells L) in
      let inside : c < cells L = omega (arith, cells_are L p, once.cell_inside j h) in
      let within : c < length xs = omega arith in
      let came : get_or (unharmed xs ws) c missed ≡ received (weighing (get_or xs c no_cell) (get_or ws c 0)) = unharmed_at xs ws c no_cell within (omega (arith, weights.as_many)) in
      let carries = subst (λ (ys : List QamCell). CellCarries m (get_or ys c no_cell) b (bit_at (sent_bits L.coding ms) j)) (append-nil xs) (cells_carry L p ms i [] j no_cell h) in
      let x = get_or xs c no_cell in
      let w = get_or ws c 0 in
      let k = bit_of_axis m b in
      record {
        weight = w;
        some = weights.some c inside;
        light = weights.light c inside;
        bit = k;
        bit_right = bit_right m b (once.bit_inside j h);
        level = carries.number;
        inside = carries.inside;
        sent_is = carries.bit_is;
        soft_is = ap (λ (e : Entry). weighted R (bit_in m e b)) came ∙ ap (λ r. pos w *ℤ R.demapping.answer m k r) carries.at_level;
      }

  says : (j : ℕ) → j < positions R.link → Says (received_at R (unharmed (sent_cells R.link ms) ws) j) (bit_at (sent_bits R.link.coding ms) j)
  says j h =
      let m = R.link.m in
      let a = at j h in
      let A = R.demapping.answer m a.bit (reading m a.level) in
      record {
        one = λ e. subst (λ v. pos 0 <ℤ v) (sym a.soft_is) (positive a.weight A a.some (tells.one m a.bit a.level axis a.bit_right a.inside (a.sent_is ∙ e)));
        none = λ e. subst (λ v. v <ℤ pos 0) (sym a.soft_is) (negative a.weight A a.some (tells.zero m a.bit a.level axis a.bit_right a.inside (a.sent_is ∙ e)));
      }

  small : (j : ℕ) → j < positions R.link → nat_abs (received_at R (unharmed (sent_cells R.link ms) ws) j) ≤ heaviest
  small j h =
      let m = R.link.m in
      let a = at j h in
      let A = R.demapping.answer m a.bit (reading m a.level) in
      subst (λ v. nat_abs v ≤ heaviest) (sym a.soft_is) (weighted_small a.weight A a.light (R.demapping.ranged m a.bit (reading m a.level) axis a.bit_right.first (level_reading m a.level p.sizes.few_bits a.inside)))

  -- a message of K bits sends as many bits as the plan says
  count : (rs : List ℕ) → Inputs R.link.K rs → length (sent_bits R.link.coding rs) ≡ sent R.link
  count rs r = sent_bits_size R.link.coding rs ∙ ap (λ n. sent_before R.link.coding.rate (steps_for R.link.coding n)) r.size

  few : sent R.link ≤ most_penalties
  few =
      let L = R.link in
      omega (arith, sent_most L.coding.rate (steps_for L.coding L.K), p.short_message, tail_short L.coding.trellis.code L.coding.tail p.ending)

  pub borne : (rs : List ℕ) → Inputs R.link.K rs → Borne (penalties (received_at R (unharmed (sent_cells R.link ms) ws)) 0 (sent_bits R.link.coding rs))
  borne rs r =
      let v : ℕ → ℤ = received_at R (unharmed (sent_cells R.link ms) ws) in
      let bs = sent_bits R.link.coding rs in
      record {
        few = omega (arith, length_penalties v 0 bs, count rs r, few);
        small = penalty_at v 0 bs heaviest (λ k l. let e : k ≡ 0 + k = omega arith in subst (λ n. nat_abs (v n) ≤ heaviest) e (small k (omega (arith, count rs r, room))));
      }

  pub all_say : AllSay (received_at R (unharmed (sent_cells R.link ms) ws)) 0 (sent_bits R.link.coding ms)
  all_say =
      let v : ℕ → ℤ = received_at R (unharmed (sent_cells R.link ms) ws) in
      let bs = sent_bits R.link.coding ms in
      say_all v 0 bs (λ k l. let e : k ≡ 0 + k = omega arith in subst (λ n. Says (v n) (get_or bs k 0)) e (says k (omega (arith, count ms i, room))))

pub unharmed_comes_back : {X : Type 0} → UnharmedComesBack X
unharmed_comes_back R M ms rs ws t p tells prefers i weights least =
    let L = R.link in
    let Q = L.coding in
    let v : ℕ → ℤ = received_at R (unharmed (sent_cells L ms) ws) in
    let r = least.bits in
    let own = sent_bits_all Q p.ending ms (all_bits L.K ms i) in
    let theirs = sent_bits_all Q p.ending rs (all_bits L.K rs r) in
    let says = all_say R ms ws p tells i weights in
    let free = all_free v 0 (sent_bits Q ms) own says in
    let even : length (penalties v 0 (sent_bits Q ms)) ≡ length (penalties v 0 (sent_bits Q rs)) =
    length_penalties v 0 (sent_bits Q ms) ∙ as_many Q L.K ms rs i r ∙ sym (length_penalties v 0 (sent_bits Q rs)) in
    let bits : sent_bits Q rs ≡ sent_bits Q ms =
    elim (free_or_not (penalties v 0 (sent_bits Q rs))) [
      | inl f ↦ all_own v 0 (sent_bits Q ms) (sent_bits Q rs) (as_many Q L.K rs ms r i) own theirs says f
      | inr n ↦
          let lower = prefers (penalties v 0 (sent_bits Q ms)) (penalties v 0 (sent_bits Q rs)) even (borne R ms ws p tells i weights rs r) free n in
          let not_lower = subst (λ u. M.lt (total Q M v ms) u ≡ false) (sym least.own) (least.not_lower ms i) in
          absurd (both_ways (M.lt (total Q M v ms) (total Q M v rs)) not_lower lower)
    ] in
    ap (λ bs. cells_with L.interleaving L.m L.B bs (cells L)) bits
