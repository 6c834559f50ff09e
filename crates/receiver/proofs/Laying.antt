-- Writing a cell's numbers at its positions. Assumes nothing.
use Rattle.std.proofs.Common.{◌≡◌, ℕ, zero, suc, ◌+◌, ◌<◌, Bool, cond, eqb, ◌≢◌, ◌⊎◌, List, [], ◌∷◌, length, get_or, set, ℤ, pos, sym, refl, ap, ◌∙◌, subst, inl, inr, arith, length-set, get_or-set_other, get_or-set_same}
use Rattle.std.proofs.lemmas.List.{ext_get_or}
use Rattle.std.proofs.lemmas.Bool.{eq-eqb, ne_eqb, cases_eq}
use Rattle.interleaving.specs.Interleaving.{Interleaving}
use Rattle.interleaving.specs.Blocks.{bit_of, cell_of}
use Rattle.receiver.specs.Stores.{by_place, with_cell}

pub length_by_place : (f : ℕ → ℤ → ℤ) (k : ℕ) (xs : List ℤ) → length (by_place f k xs) ≡ length xs
length_by_place f k [] = refl
length_by_place f k (x ∷ xs) = ap suc (length_by_place f (suc k) xs)

pub slice_index_or_by_place : (f : ℕ → ℤ → ℤ) (k : ℕ) (xs : List ℤ) (j : ℕ) (d : ℤ) → j < length xs → get_or (by_place f k xs) j d ≡ f (k + j) (get_or xs j d)
slice_index_or_by_place f k [] j d h = elim h [ ]
slice_index_or_by_place f k (x ∷ xs) zero d h = let e : k ≡ k + 0 = omega arith in ap (λ (i : ℕ). f i x) e
slice_index_or_by_place f k (x ∷ xs) (suc j) d h =
    let e : suc k + j ≡ k + suc j = omega arith in
    slice_index_or_by_place f (suc k) xs j d (omega arith) ∙ ap (λ (i : ℕ). f i (get_or xs j d)) e

pub by_place_same : (f g : ℕ → ℤ → ℤ) (k : ℕ) (xs : List ℤ) → ((j : ℕ) (x : ℤ) → f j x ≡ g j x) → by_place f k xs ≡ by_place g k xs
by_place_same f g k [] e = refl
by_place_same f g k (x ∷ xs) e = ap (λ (y : ℤ). y ∷ by_place f (suc k) xs) (e k x) ∙ ap (λ (ys : List ℤ). g k x ∷ ys) (by_place_same f g (suc k) xs e)

module _ (X : Interleaving) (m b : ℕ) where
  -- of cell c the bits below `bit` are written, and nothing else
  pub record Laid (c : ℕ) (value : ℕ → ℤ) (bit : ℕ) (old new : List ℤ) : Type 0 where
    pub sized : length new ≡ length old
    pub here : (j : ℕ) → j < length old → cell_of X m b j ≡ c → bit_of X m b j < bit → get_or new j (pos 0) ≡ value (bit_of X m b j)
    pub there : (j : ℕ) → j < length old → (cell_of X m b j ≡ c → bit_of X m b j < bit → ⊥) → get_or new j (pos 0) ≡ get_or old j (pos 0)

  pub laid_none : (c : ℕ) (value : ℕ → ℤ) (old : List ℤ) → Laid c value 0 old old
  laid_none c value old = record { sized = refl; here = λ j h e l. absurd (let z : bit_of X m b j < 0 = l in omega arith); there = λ j h n. refl }

  -- values that agree at a cell's bits write the same
  pub with_cell_same : (c : ℕ) (f g : ℕ → ℤ) (xs : List ℤ) → ((j : ℕ) → f (bit_of X m b j) ≡ g (bit_of X m b j)) → with_cell X m b c f xs ≡ with_cell X m b c g xs
  with_cell_same c f g xs e =
      by_place_same (λ j x. cond (eqb (cell_of X m b j) c) (f (bit_of X m b j)) x) (λ j x. cond (eqb (cell_of X m b j) c) (g (bit_of X m b j)) x) 0 xs
      (λ j x. ap (λ (y : ℤ). cond (eqb (cell_of X m b j) c) y x) (e j))

  module _ (c : ℕ) (value : ℕ → ℤ) (bit : ℕ) (old new : List ℤ) where
    pub laid_more : (s : ℕ) → Laid c value bit old new → s < length old → cell_of X m b s ≡ c → bit_of X m b s ≡ bit → ((j : ℕ) → cell_of X m b j ≡ c → bit_of X m b j ≡ bit → j ≡ s) → Laid c value (bit + 1) old (set new s (value bit))
    laid_more s laid within hc hb only =
        record {
          sized = length-set new s (value bit) ∙ laid.sized;
          here = λ j h e l. here j h e l (cases_eq j s);
          there = λ j h n. there j h n (cases_eq j s);
        }
      where
        here : (j : ℕ) → j < length old → cell_of X m b j ≡ c → bit_of X m b j < bit + 1 → (j ≡ s) ⊎ (j ≢ s) → get_or (set new s (value bit)) j (pos 0) ≡ value (bit_of X m b j)
        here j h e l (inl q) =
            subst (λ (i : ℕ). get_or (set new s (value bit)) i (pos 0) ≡ value (bit_of X m b i)) (sym q) (get_or-set_same new s (value bit) (pos 0) (let z = laid.sized in omega arith) ∙ ap value (sym hb))
        here j h e l (inr q) =
            let ne : bit_of X m b j ≢ bit = λ x. q (only j e x) in
            let lt : bit_of X m b j < bit = omega arith in
            get_or-set_other new s j (value bit) (pos 0) q ∙ laid.here j h e lt

        there : (j : ℕ) → j < length old → (cell_of X m b j ≡ c → bit_of X m b j < bit + 1 → ⊥) → (j ≡ s) ⊎ (j ≢ s) → get_or (set new s (value bit)) j (pos 0) ≡ get_or old j (pos 0)
        there j h n (inl q) = absurd (n (ap (cell_of X m b) q ∙ hc) (let z : bit_of X m b j ≡ bit = ap (bit_of X m b) q ∙ hb in omega arith))
        there j h n (inr q) = get_or-set_other new s j (value bit) (pos 0) q ∙ laid.there j h (λ e l. n e (omega arith))

    -- when all are written, the store is as it should be
    pub laid_all : Laid c value bit old new → ((j : ℕ) → bit_of X m b j < bit) → new ≡ with_cell X m b c value old
    laid_all laid all =
        ext_get_or (pos 0) new (with_cell X m b c value old) (laid.sized ∙ sym (length_by_place (λ j x. cond (eqb (cell_of X m b j) c) (value (bit_of X m b j)) x) 0 old)) (λ j h. at j (let z = laid.sized in omega arith) (cases_eq (cell_of X m b j) c))
      where
        pick : (j : ℕ) → j < length old → (cell_of X m b j ≡ c) ⊎ (cell_of X m b j ≢ c) → get_or new j (pos 0) ≡ cond (eqb (cell_of X m b j) c) (value (bit_of X m b j)) (get_or old j (pos 0))
        pick j h (inl e) = laid.here j h e (all j) ∙ sym (ap (λ (t : Bool). cond t (value (bit_of X m b j)) (get_or old j (pos 0))) (eq-eqb (cell_of X m b j) c e))
        pick j h (inr e) = laid.there j h (λ x _. e x) ∙ sym (ap (λ (t : Bool). cond t (value (bit_of X m b j)) (get_or old j (pos 0))) (ne_eqb (cell_of X m b j) c e))

        at : (j : ℕ) → j < length old → (cell_of X m b j ≡ c) ⊎ (cell_of X m b j ≢ c) → get_or new j (pos 0) ≡ get_or (with_cell X m b c value old) j (pos 0)
        at j h k =
            let z : 0 + j ≡ j = omega arith in
            pick j h k
            ∙ sym (slice_index_or_by_place (λ i x. cond (eqb (cell_of X m b i) c) (value (bit_of X m b i)) x) 0 old j (pos 0) h ∙ ap (λ (i : ℕ). cond (eqb (cell_of X m b i) c) (value (bit_of X m b i)) (get_or old j (pos 0))) z)
