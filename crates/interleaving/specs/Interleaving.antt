-- What an interleaver is, and two of them one after the other. Assumes nothing.
use Rattle.std.specs.Prelude.{◌≡◌, ℕ, ◌*◌, ◌<◌, ◌≤◌, Bool, true, ◌&&◌, refl}
use Rattle.std.proofs.Common.{ap, ◌∙◌}
use Rattle.std.proofs.lemmas.Bool.{and_parts}

-- the blocks that a plan may have: b cells, each with m bits an axis
pub record Sized (m b : ℕ) : Type 0 where
  pub some_bits : 1 ≤ m
  pub few_bits : m ≤ 4
  pub some_cells : 1 ≤ b
  pub few_cells : b ≤ 64

-- such a block has this many positions, and as many places
abbrev pub size : ℕ → ℕ → ℕ
size m b = 2 * m * b

-- An interleaver says which blocks it takes. In a block that it takes it sends each position to a place and each place back; each undoes the other.
pub record Interleaving : Type 0 where
  pub takes : ℕ → ℕ → Bool
  pub place : ℕ → ℕ → ℕ → ℕ
  pub position : ℕ → ℕ → ℕ → ℕ
  pub place_within : (m b j : ℕ) → Sized m b → takes m b ≡ true → j < size m b → place m b j < size m b
  pub position_within : (m b p : ℕ) → Sized m b → takes m b ≡ true → p < size m b → position m b p < size m b
  pub there_back : (m b j : ℕ) → Sized m b → takes m b ≡ true → j < size m b → position m b (place m b j) ≡ j
  pub back_there : (m b p : ℕ) → Sized m b → takes m b ≡ true → p < size m b → place m b (position m b p) ≡ p

-- each position stays
abbrev pub straight : Interleaving
straight = record {
  takes = λ m b. true;
  place = λ m b j. j;
  position = λ m b p. p;
  place_within = λ m b j z t h. h;
  position_within = λ m b p z t h. h;
  there_back = λ m b j z t h. refl;
  back_there = λ m b p z t h. refl;
}

-- X and then Y: it takes what both take
abbrev pub cascade : Interleaving → Interleaving → Interleaving
cascade X Y = record {
  takes = λ m b. X.takes m b && Y.takes m b;
  place = λ m b j. Y.place m b (X.place m b j);
  position = λ m b p. X.position m b (Y.position m b p);
  place_within = λ m b j z t h.
      let both = and_parts (X.takes m b) (Y.takes m b) t in
      Y.place_within m b (X.place m b j) z both.1 (X.place_within m b j z both.0 h);
  position_within = λ m b p z t h.
      let both = and_parts (X.takes m b) (Y.takes m b) t in
      X.position_within m b (Y.position m b p) z both.0 (Y.position_within m b p z both.1 h);
  there_back = λ m b j z t h.
      let both = and_parts (X.takes m b) (Y.takes m b) t in
      ap (X.position m b) (Y.there_back m b (X.place m b j) z both.1 (X.place_within m b j z both.0 h)) ∙ X.there_back m b j z both.0 h;
  back_there = λ m b p z t h.
      let both = and_parts (X.takes m b) (Y.takes m b) t in
      ap (Y.place m b) (X.back_there m b (Y.position m b p) z both.0 (Y.position_within m b p z both.1 h)) ∙ Y.back_there m b p z both.1 h;
}
