-- Every position of a frame is one bit of one cell. Assumes nothing.
use Rattle.std.proofs.Common.{◌≡◌, ℕ, ◌+◌, ◌*◌, ◌/◌, ◌%◌, ◌<◌, ap, ◌∙◌, subst, mul_comm, arith}
use lib.Arith.{digits_lt}
use Rattle.std.proofs.lemmas.Nat.{div-add-mod', mul-lt, mul-add-lt, div-mul-add, mod-mul-add, div_below, mod_below}
use Rattle.interleaving.specs.Blocks.{EveryPositionOnce}

-- cells of W bits, B to a block, with places and positions of a block
module _ (W B : ℕ) (w-pos : 0 < W) (b-pos : 0 < B) (place position : ℕ → ℕ) (position_in : (p : ℕ) → p < W * B → position p < W * B) (place_in : (j : ℕ) → j < W * B → place j < W * B) (there : (j : ℕ) → j < W * B → position (place j) ≡ j) (back : (p : ℕ) → p < W * B → place (position p) ≡ p) where
  -- bit i of cell c is at this place of its block
  in_block : (c i : ℕ) → i < W → c % B * W + i < W * B
  in_block c i h = mul-add-lt (c % B) W i B (mod_below c B b-pos) h

  block_pos : 0 < W * B
  block_pos = mul-lt 0 0 W B w-pos b-pos

  place_there : (c i : ℕ) → i < W → place ((c / B * (W * B) + position (c % B * W + i)) % (W * B)) ≡ c % B * W + i
  place_there c i h =
      ap place (mod-mul-add (c / B) (W * B) (position (c % B * W + i)) (position_in (c % B * W + i) (in_block c i h))) ∙ back (c % B * W + i) (in_block c i h)

  spot_cell : (c i : ℕ) → i < W → (c / B * (W * B) + position (c % B * W + i)) / (W * B) * B + place ((c / B * (W * B) + position (c % B * W + i)) % (W * B)) / W ≡ c
  spot_cell c i h =
      let j = c / B * (W * B) + position (c % B * W + i) in
      ap (λ (x : ℕ). x * B + place (j % (W * B)) / W) (div-mul-add (c / B) (W * B) (position (c % B * W + i)) (position_in (c % B * W + i) (in_block c i h)))
      ∙ ap (λ (x : ℕ). c / B * B + x / W) (place_there c i h)
      ∙ ap (λ (x : ℕ). c / B * B + x) (div-mul-add (c % B) W i h)
      ∙ div-add-mod' c B

  spot_bit : (c i : ℕ) → i < W → place ((c / B * (W * B) + position (c % B * W + i)) % (W * B)) % W ≡ i
  spot_bit c i h = ap (λ (x : ℕ). x % W) (place_there c i h) ∙ mod-mul-add (c % B) W i h

  spot_inside : (n c i : ℕ) → i < W → c < n * B → c / B * (W * B) + position (c % B * W + i) < n * (W * B)
  spot_inside n c i h hc = digits_lt (div_below c B n b-pos hc) (position_in (c % B * W + i) (in_block c i h))

  -- the place of position j in its block, in cells
  place_cell : (j : ℕ) → place (j % (W * B)) / W < B
  place_cell j =
      let r-in = place_in (j % (W * B)) (mod_below j (W * B) block_pos) in
      div_below (place (j % (W * B))) W B w-pos (subst (λ (x : ℕ). place (j % (W * B)) < x) (mul_comm W B) r-in)

  cell_inside : (n j : ℕ) → j < n * (W * B) → j / (W * B) * B + place (j % (W * B)) / W < n * B
  cell_inside n j h = digits_lt (div_below j (W * B) n block_pos h) (place_cell j)

  its_spot : (j : ℕ) →
      (j / (W * B) * B + place (j % (W * B)) / W) / B * (W * B) + position ((j / (W * B) * B + place (j % (W * B)) / W) % B * W + place (j % (W * B)) % W) ≡ j
  its_spot j =
      let q = j / (W * B) in
      let r = j % (W * B) in
      let s = place r in
      let r-in : r < W * B = mod_below j (W * B) block_pos in
      let block : (q * B + s / W) / B ≡ q = div-mul-add q B (s / W) (place_cell j) in
      let cell : (q * B + s / W) % B ≡ s / W = mod-mul-add q B (s / W) (place_cell j) in
      let whole : (q * B + s / W) % B * W + s % W ≡ s = ap (λ (x : ℕ). x * W + s % W) cell ∙ div-add-mod' s W in
      ap (λ (x : ℕ). x * (W * B) + position ((q * B + s / W) % B * W + s % W)) block ∙ ap (λ (x : ℕ). q * (W * B) + position x) whole
      ∙ ap (λ (x : ℕ). q * (W * B) + x) (there r r-in) ∙ div-add-mod' j (W * B)

pub every_position_once : EveryPositionOnce
every_position_once X m b n z t =
    let W = 2 * m in
    let w-pos : 0 < W = let h = z.some_bits in omega arith in
    let place = X.place m b in
    let position = X.position m b in
    let position_in : (p : ℕ) → p < W * b → position p < W * b = λ p h. X.position_within m b p z t h in
    let place_in : (j : ℕ) → j < W * b → place j < W * b = λ j h. X.place_within m b j z t h in
    let there : (j : ℕ) → j < W * b → position (place j) ≡ j = λ j h. X.there_back m b j z t h in
    let back : (p : ℕ) → p < W * b → place (position p) ≡ p = λ p h. X.back_there m b p z t h in
    record {
      cell_inside = λ j h. cell_inside W b w-pos z.some_cells place position position_in place_in there back n j h;
      bit_inside = λ j h. mod_below (place (j % (W * b))) W w-pos;
      its_spot = λ j h. its_spot W b w-pos z.some_cells place position position_in place_in there back j;
      spot_inside = λ c i hc h. spot_inside W b w-pos z.some_cells place position position_in place_in there back n c i h hc;
      spot_cell = λ c i hc h. spot_cell W b w-pos z.some_cells place position position_in place_in there back c i h;
      spot_bit = λ c i hc h. spot_bit W b w-pos z.some_cells place position position_in place_in there back c i h;
    }
