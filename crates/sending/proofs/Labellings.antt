-- Cells that hold labels: what one more sent bit changes. Assumes nothing.
use Rattle.std.proofs.Common.{◌≡◌, ℕ, ◌+◌, ◌-◌, ◌*◌, ◌^◌, ◌<◌, true, ltb, List, [], ◌∷◌, ◌++◌, length, get_or, set, sym, refl, ap, ◌∙◌, subst, inl, inr, arith}
use Rattle.std.specs.List.{AllByRecursion}
use Rattle.std.proofs.ByRecursion.{All-get_or, All-append}
use Rattle.std.proofs.lemmas.List.{get_or_append_left, get_or_past, get_or_push, get_or-set_same, get_or-set_other, length-set, length_push}
use Rattle.std.proofs.lemmas.Bool.{cases_lt, cases_eq, cases_order, cond-true, cond-false, lt-ltb, le-ltb}
use Rattle.qam.specs.declared.cell.QamCell.{QamCell}
use Rattle.interleaving.specs.Interleaving.{Interleaving, Sized, size}
use Rattle.interleaving.specs.Blocks.{Once, bit_of, cell_bits, cell_of, spot}
use Rattle.interleaving.proofs.Spots.{every_position_once}
use Rattle.sending.specs.Cells.{bit_at, in_phase_label, number_of, quadrature_label}
use Rattle.sending.specs.Labelling.{Holds, Labels, Taking, holding, raised_to, with_bit}
use Rattle.sending.proofs.Numbers.{number_below, number_raised, number_same}

-- ---- bits, and 0 past them

pub bit_below : (bs : List ℕ) → AllByRecursion (λ c. c < 2) bs → (j : ℕ) → bit_at bs j < 2
bit_below bs a j =
    elim (cases_lt j (length bs)) [
      | inl l ↦ All-get_or (λ c. c < 2) bs j 0 l a
      | inr g ↦ let e : bit_at bs j ≡ 0 = get_or_past bs j 0 g in omega arith
    ]

-- one more bit changes only its own position
bit_other : (bs : List ℕ) (c j : ℕ) → (j ≡ length bs → ⊥) → bit_at (bs ++ c ∷ []) j ≡ bit_at bs j
bit_other bs c j n =
    elim (cases_order j (length bs)) [
      | inl e ↦ absurd (n e)
      | inr o ↦ elim o [
        | inl l ↦ get_or_append_left bs (c ∷ []) 0 j l
        | inr g ↦ let e = length_push bs c in get_or_past (bs ++ c ∷ []) j 0 (omega arith) ∙ sym (get_or_past bs j 0 (omega arith))
      ]
    ]

-- ---- the labels of a cell

same_holding : {p q r s : ℕ} → p ≡ r → q ≡ s → holding p q ≡ holding r s
same_holding e d = cc

module _ (X : Interleaving) (m b : ℕ) where
  pub in_phase_below : (bs : List ℕ) → AllByRecursion (λ c. c < 2) bs → (c : ℕ) → in_phase_label X m b bs c < 2 ^ m
  in_phase_below bs a c = number_below (λ i. bit_at bs (spot X m b c i)) m (λ i l. bit_below bs a (spot X m b c i))

  pub quadrature_below : (bs : List ℕ) → AllByRecursion (λ c. c < 2) bs → (c : ℕ) → quadrature_label X m b bs c < 2 ^ m
  quadrature_below bs a c = number_below (λ i. bit_at bs (spot X m b c (m + i))) m (λ i l. bit_below bs a (spot X m b c (m + i)))

  pub holds_labels : (bs : List ℕ) (xs : List QamCell) → Holds X m b bs xs → (c : ℕ) (d : QamCell) → c < length xs → Labels m (get_or xs c d)
  holds_labels bs xs h c d l =
      record {
        in_phase = in_phase_label X m b bs c;
        quadrature = quadrature_label X m b bs c;
        are = h.at c d l;
        in_phase_small = in_phase_below bs h.bits c;
        quadrature_small = quadrature_below bs h.bits c;
      }

  module _ (n : ℕ) (once : Once X m b n) (bs : List ℕ) (v : ℕ) (room : length bs < n * size m b) where
    -- another bit of a cell than this has another position
    elsewhere : (c i : ℕ) → c < n * b → i < cell_bits m → ((c ≡ cell_of X m b (length bs)) → (i ≡ bit_of X m b (length bs)) → ⊥) → spot X m b c i ≡ length bs → ⊥
    elsewhere c i hc hi apart e =
        apart (sym (once.spot_cell c i hc hi) ∙ ap (cell_of X m b) e) (sym (once.spot_bit c i hc hi) ∙ ap (bit_of X m b) e)

    pub other_cell : (c : ℕ) → c < n * b → (c ≡ cell_of X m b (length bs) → ⊥) →
        holding (in_phase_label X m b (bs ++ v ∷ []) c) (quadrature_label X m b (bs ++ v ∷ []) c) ≡ holding (in_phase_label X m b bs c) (quadrature_label X m b bs c)
    other_cell c hc apart =
        let same : (i : ℕ) → i < cell_bits m → bit_at (bs ++ v ∷ []) (spot X m b c i) ≡ bit_at bs (spot X m b c i) =
        λ i h. bit_other bs v (spot X m b c i) (elsewhere c i hc h (λ e d. apart e)) in
        let p = number_same (λ i. bit_at (bs ++ v ∷ []) (spot X m b c i)) (λ i. bit_at bs (spot X m b c i)) m (λ i h. same i (omega arith)) in
        let q = number_same (λ i. bit_at (bs ++ v ∷ []) (spot X m b c (m + i))) (λ i. bit_at bs (spot X m b c (m + i))) m (λ i h. same (m + i) (omega arith)) in
        cc

    at_spot : spot X m b (cell_of X m b (length bs)) (bit_of X m b (length bs)) ≡ length bs
    at_spot = once.its_spot (length bs) room

    none_there : bit_at bs (spot X m b (cell_of X m b (length bs)) (bit_of X m b (length bs))) ≡ 0
    none_there = ap (bit_at bs) at_spot ∙ get_or_past bs (length bs) 0 (omega arith)

    now_there : bit_at (bs ++ v ∷ []) (spot X m b (cell_of X m b (length bs)) (bit_of X m b (length bs))) ≡ v
    now_there = ap (bit_at (bs ++ v ∷ [])) at_spot ∙ get_or_push bs v 0 (length bs) refl

    pub its_cell : holding (in_phase_label X m b (bs ++ v ∷ []) (cell_of X m b (length bs))) (quadrature_label X m b (bs ++ v ∷ []) (cell_of X m b (length bs)))
        ≡ with_bit m (bit_of X m b (length bs)) v (in_phase_label X m b bs (cell_of X m b (length bs))) (quadrature_label X m b bs (cell_of X m b (length bs)))
    its_cell =
        let c = cell_of X m b (length bs) in
        let k = bit_of X m b (length bs) in
        let f : ℕ → ℕ = λ i. bit_at bs (spot X m b c i) in
        let g : ℕ → ℕ = λ i. bit_at (bs ++ v ∷ []) (spot X m b c i) in
        let hc : c < n * b = once.cell_inside (length bs) room in
        let hk : k < cell_bits m = once.bit_inside (length bs) room in
        let same : (i : ℕ) → i < cell_bits m → (i ≡ k → ⊥) → g i ≡ f i = λ i h t. bit_other bs v (spot X m b c i) (elsewhere c i hc h (λ e d. t d)) in
        elim (cases_lt k m) [
          | inl l ↦
              let p = number_raised f g m k v l (λ i h t. same i (omega arith) t) none_there now_there in
              let q = number_same (λ i. g (m + i)) (λ i. f (m + i)) m (λ i h. same (m + i) (omega arith) (λ t. omega arith)) in
              let whole : holding (number_of g m) (number_of (λ i. g (m + i)) m) ≡ holding (raised_to (number_of f m) (m - 1 - k) v) (number_of (λ i. f (m + i)) m) = cc in
              whole ∙ sym (cond-true (ltb k m) _ _ (lt-ltb k m l))
          | inr r ↦
              let p = number_same g f m (λ i h. same i (omega arith) (λ t. omega arith)) in
              let back : m + (k - m) ≡ k = omega arith in
              let none : f (m + (k - m)) ≡ 0 = ap f back ∙ none_there in
              let some : g (m + (k - m)) ≡ v = ap g back ∙ now_there in
              let q = number_raised (λ i. f (m + i)) (λ i. g (m + i)) m (k - m) v (omega arith) (λ i h t. same (m + i) (omega arith) (λ e. t (omega arith))) none some in
              let e : m - 1 - (k - m) ≡ 2 * m - 1 - k = omega arith in
              let pow = ap (λ x. raised_to (number_of (λ i. f (m + i)) m) x v) e in
              let whole : holding (number_of g m) (number_of (λ i. g (m + i)) m) ≡ holding (number_of f m) (raised_to (number_of (λ i. f (m + i)) m) (2 * m - 1 - k) v) = cc in
              whole ∙ sym (cond-false (ltb k m) _ _ (le-ltb k m r))
        ]

  -- the cells with the next bit put into its label
  pub holds_more : (n : ℕ) → Once X m b n → (bs : List ℕ) (v : ℕ) (xs : List QamCell) (y : QamCell) → length bs < n * size m b → length xs ≡ n * b → v < 2 → Holds X m b bs xs →
      y ≡ with_bit m (bit_of X m b (length bs)) v (in_phase_label X m b bs (cell_of X m b (length bs))) (quadrature_label X m b bs (cell_of X m b (length bs))) →
      Holds X m b (bs ++ v ∷ []) (set xs (cell_of X m b (length bs)) y)
  holds_more n once bs v xs y room sized bit h is =
      record {
        bits = All-append (λ c. c < 2) bs (v ∷ []) h.bits (bit, tt);
        at = λ c d l.
            let inside : c < length xs = subst (λ (x : ℕ). c < x) (length-set xs (cell_of X m b (length bs)) y) l in
            let low : c < n * b = omega arith in
            elim (cases_eq c (cell_of X m b (length bs))) [
              | inl e ↦
                  let here : cell_of X m b (length bs) < length xs = omega arith in
                  ap (λ x. get_or (set xs (cell_of X m b (length bs)) y) x d) e ∙ get_or-set_same xs (cell_of X m b (length bs)) y d here ∙ is ∙ sym (its_cell n once bs v room)
                  ∙ ap (λ x. holding (in_phase_label X m b (bs ++ v ∷ []) x) (quadrature_label X m b (bs ++ v ∷ []) x)) (sym e)
              | inr t ↦ get_or-set_other xs (cell_of X m b (length bs)) c y d t ∙ h.at c d inside ∙ sym (other_cell n once bs v room c low t)
            ];
      }

  -- the cell of the next bit is one of the cells that have room for it
  pub taking_inside : Sized m b → X.takes m b ≡ true → (j : ℕ) (xs : List QamCell) → Taking X m b j 1 xs → cell_of X m b j < length xs
  taking_inside z taken j xs t = let once = every_position_once X m b t.blocks z taken in omega (arith, once.cell_inside j (omega (arith, t.room)), t.sized)
