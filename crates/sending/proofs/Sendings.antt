-- What a granted send leaves: no row is met, and every position stands in its cell's label. Assumes nothing.
use Rattle.std.proofs.Common.{◌≡◌, ℕ, suc, ◌+◌, ◌-◌, ◌^◌, ◌<◌, ◌≤◌, Bool, true, false, cond, ◌&&◌, ltb, leb, List, [], ◌∷◌, ◌++◌, length, get_or, take, Some, None, sym, refl, ap, ◌∙◌, subst, inl, inr, arith}
use Rattle.std.specs.List.{AllByRecursion}
use Rattle.std.proofs.lemmas.List.FromFn.{get_or-map-range_with_len, length-map-range_with_len}
use Rattle.std.proofs.ByRecursion.{All-get_or}
use Rattle.std.proofs.lemmas.List.{get_or_append_left, length-take-le}
use Rattle.std.proofs.lemmas.Bool.{and_from, and_parts, cases_lt, le-leb, le-ltb, lt-ltb, ltb-true}
use Rattle.qam.specs.declared.cell.QamCell.{QamCell}
use Rattle.qam.specs.Levels.{bit_in, is_label, label, labelled, reading}
use Rattle.qam.specs.Cells.{Carries, CellCarries}
use Rattle.qam.proofs.Labels.{decodes}
use Rattle.paths.specs.Paths.{Inputs}
use Rattle.coding.specs.Encoding.{sent_bits}
use Rattle.coding.proofs.Sent.{all_bits as bits_of, sent_bits_all}
use Rattle.interleaving.specs.Blocks.{bit_of, cell_of, spot}
use Rattle.interleaving.proofs.Spots.{every_position_once}
use Rattle.refusals.specs.Numbers.{first_met}
use Rattle.sending.specs.Links.{Link, Planned, blocks, cells}
use Rattle.sending.specs.Cells.{bit_at, cell_with, number_of, sent_cells}
use Rattle.sending.specs.Sends.{Carried, all_bits}
use Rattle.sending.proofs.Labellings.{bit_below, in_phase_below, quadrature_below}
use Rattle.sending.proofs.Numbers.{number_digit}
use Rattle.sending.proofs.Sizes.{cells_are}

-- ---- rows

-- where no row of a table is met, what follows it decides
pub then_met : (xs ys : List (Bool × ℕ)) → first_met xs ≡ None → first_met (xs ++ ys) ≡ first_met ys
then_met [] ys h = refl
then_met (x ∷ xs) ys h = at x.0 x.1 h (then_met xs ys)
  where
    at : (t : Bool) (n : ℕ) → cond t (Some n) (first_met xs) ≡ None → (first_met xs ≡ None → first_met (xs ++ ys) ≡ first_met ys) → cond t (Some n) (first_met (xs ++ ys)) ≡ first_met ys
    at true n e f = absurd (let z : ◌≡◌ {A = ℕ} 0 1 = cc in omega arith)
    at false n e f = f e

-- ---- messages

all_are : (xs : List ℕ) → all_bits xs ≡ true → AllByRecursion (λ c. c < 2) xs
all_are [] h = tt
all_are (x ∷ xs) h = let p = and_parts (ltb x 2) (all_bits xs) h in (ltb-true x 2 p.0, all_are xs p.1)

pub message_inputs : (n : ℕ) (xs : List ℕ) → length xs ≡ n → all_bits xs ≡ true → Inputs n xs
message_inputs n xs e h = record { size = e; bits = λ k l. All-get_or (λ c. c < 2) xs k 0 (omega arith) (all_are xs h) }

-- the first k bytes of a buffer
pub buffer_inputs : (n k : ℕ) (buffer : List ℕ) → n ≤ length buffer → n ≡ k → all_bits (take n buffer) ≡ true → Inputs k (take n buffer)
buffer_inputs n k buffer long e bits =
    subst (λ j. Inputs j (take n buffer)) e (message_inputs n (take n buffer) (length-take-le n buffer long) bits)

-- ---- labels

label_ok : (m p : ℕ) → 1 ≤ m → m ≤ 4 → p < 2 ^ m → is_label m p ≡ true
label_ok m p a b h = and_from (leb 1 m) (leb m 4 && ltb p (2 ^ m)) (le-leb 1 m a) (and_from (leb m 4) (ltb p (2 ^ m)) (le-leb m 4 b) (lt-ltb p (2 ^ m) h))

-- the level that has the digits f as its label carries digit i as its bit i + 1
axis_carries : (m : ℕ) (f : ℕ → ℕ) (i : ℕ) → 1 ≤ m → m ≤ 4 → ((k : ℕ) → f k < 2) → number_of f m < 2 ^ m → i < m → Carries m (reading m (labelled m (number_of f m))) (suc i) (f i)
axis_carries m f i a b h small l =
    let d = decodes m (number_of f m) (label_ok m (number_of f m) a b small) in
    record {
      number = labelled m (number_of f m);
      inside = subst (λ n. n < 2 ^ m) d.value d.sole.inside;
      at_level = refl;
      bit_is = ap (bit_in m (suc i)) (subst (λ n. label n ≡ number_of f m) d.value d.sole.has) ∙ number_digit f m i l (λ k j. h k);
    }

on_in_phase : (m : ℕ) (x : QamCell) (k v : ℕ) → ltb k m ≡ true → Carries m x.in_phase (suc k) v → CellCarries m x k v
on_in_phase m x k v e h = subst (λ t. Carries m (cond t x.in_phase x.quadrature) (cond t (suc k) (suc (k - m))) v) (sym e) h

on_quadrature : (m : ℕ) (x : QamCell) (k v : ℕ) → ltb k m ≡ false → Carries m x.quadrature (suc (k - m)) v → CellCarries m x k v
on_quadrature m x k v e h = subst (λ t. Carries m (cond t x.in_phase x.quadrature) (cond t (suc k) (suc (k - m))) v) (sym e) h

-- every position stands in its cell's label
pub cells_carry : (L : Link) → Planned L → (ms : List ℕ) → Inputs L.K ms → (rest : List QamCell) → Carried L ms (sent_cells L ms ++ rest)
cells_carry L p ms i rest j d h =
    let X = L.interleaving in
    let m = L.m in
    let b = L.B in
    let bs = sent_bits L.coding ms in
    let once = every_position_once X m b (blocks L) p.sizes p.taken in
    let c = cell_of X m b j in
    let k = bit_of X m b j in
    let all = sent_bits_all L.coding p.ending ms (bits_of L.K ms i) in
    let inside : c < cells L = omega (arith, cells_are L p, once.cell_inside j h) in
    let within : c < length (sent_cells L ms) = omega (arith, length-map-range_with_len (cell_with X m b bs) 0 (cells L)) in
    let is : get_or (sent_cells L ms ++ rest) c d ≡ cell_with X m b bs c =
    get_or_append_left (sent_cells L ms) rest d c within ∙ get_or-map-range_with_len (cell_with X m b bs) 0 (cells L) c c d inside (omega arith) in
    let v : bit_at bs (spot X m b c k) ≡ bit_at bs j = ap (bit_at bs) (once.its_spot j h) in
    let x = cell_with X m b bs c in
    let bits : (n : ℕ) → bit_at bs (spot X m b c n) < 2 = λ n. bit_below bs all (spot X m b c n) in
    subst (λ (y : QamCell). CellCarries m y k (bit_at bs j)) (sym is) (
    elim (cases_lt k m) [
      | inl l ↦
          let low = axis_carries m (λ n. bit_at bs (spot X m b c n)) k p.sizes.some_bits p.sizes.few_bits bits (in_phase_below X m b bs all c) l in
          on_in_phase m x k (bit_at bs j) (lt-ltb k m l) (subst (λ w. Carries m x.in_phase (suc k) w) v low)
      | inr r ↦
          let back : m + (k - m) ≡ k = omega arith in
          let few : k - m < m = omega (arith, once.bit_inside j h) in
          let high = axis_carries m (λ n. bit_at bs (spot X m b c (m + n))) (k - m) p.sizes.some_bits p.sizes.few_bits (λ n. bits (m + n)) (quadrature_below X m b bs all c) few in
          on_quadrature m x k (bit_at bs j) (le-ltb k m r) (subst (λ w. Carries m x.quadrature (suc (k - m)) w) (ap (λ n. bit_at bs (spot X m b c n)) back ∙ v) high)
    ])
