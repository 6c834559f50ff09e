-- The two steps of IEEE 802.11a as interleavers with c columns. Assumes nothing.
use Rattle.std.specs.Prelude.{ℕ}
use Rattle.interleaving.specs.Interleaving.{Interleaving, size}
use Rattle.interleaving.specs.StepPlaces.{columns_fit, first_place, first_position, second_place, second_position}
use Rattle.interleaving.specs.StepLaws.{cut, first_there, first_back, first_there_back, first_back_there, second_there, second_back, second_there_back, second_back_there}

-- written row by row, read column by column
abbrev pub first : ℕ → Interleaving
first c = record {
  takes = λ m b. columns_fit c b;
  place = λ m b j. first_place c (size m b) j;
  position = λ m b p. first_position c (size m b) p;
  place_within = λ m b j z t h. first_there c m b j (cut c m b z.some_cells t) h;
  position_within = λ m b p z t h. first_back c m b p (cut c m b z.some_cells t) z.some_bits h;
  there_back = λ m b j z t h. first_there_back c m b j (cut c m b z.some_cells t) h;
  back_there = λ m b p z t h. first_back_there c m b p (cut c m b z.some_cells t) z.some_bits h;
}

-- the bits of each axis turned by the number of their column
abbrev pub second : ℕ → Interleaving
second c = record {
  takes = λ m b. columns_fit c b;
  place = λ m b j. second_place c m (size m b) j;
  position = λ m b p. second_position c m (size m b) p;
  place_within = λ m b j z t h. second_there c m b j (cut c m b z.some_cells t) z.some_bits h;
  position_within = λ m b p z t h. second_back c m b p (cut c m b z.some_cells t) z.some_bits h;
  there_back = λ m b j z t h. second_there_back c m b j (cut c m b z.some_cells t) z.some_bits h;
  back_there = λ m b p z t h. second_back_there c m b p (cut c m b z.some_cells t) z.some_bits h;
}
