-- What a sent bit pays for the soft number at its position, and what a message's total is. Assumes nothing.
use Rattle.std.specs.Prelude.{ℕ, suc, ◌-◌, ◌/◌, ◌%◌, ◌^◌, ◌<◌, ◌≤◌, min, cond, List, [], ◌∷◌, map, ℤ, pos, negsuc, ◌==◌, slice_index, slice_index_or, unsigned_abs}
use Rattle.paths.specs.Orders.{Metric, adds, heaviest}
use Rattle.coding.specs.Encoding.{Coding, sent_bits}

-- a soft number as it is read: one beyond the limit, either way, as the limit
abbrev pub limited : ℤ → ℤ
limited (pos n) = pos (min n heaviest)
limited (negsuc n) = negsuc (min n (heaviest - 1))

-- the soft number of position j, as it is read
abbrev pub soft_at : List ℤ → ℕ → ℤ
soft_at soft j = limited (slice_index_or soft j (pos 0))

-- no soft number is beyond the limit
abbrev pub AllLimited : (ℕ → ℤ) → Type 0
AllLimited v = (j : ℕ) → unsigned_abs (v j) ≤ heaviest

-- what the bit c pays at the soft number v: |v| if v > 0 and c is 0, or v < 0 and c is 1, and else 0
abbrev pub penalty : ℤ → ℕ → ℕ
penalty (pos n) c = cond (c == 0) n 0
penalty (negsuc n) c = cond (c == 0) 0 (suc n)

-- what the bit at a place of a pair pays at z, by pairs: the pair 2c + d has c at place 1, and d at place 0
abbrev pub pays_at : ℕ → ℤ → List ℕ
pays_at place z = map (λ pair. penalty z (pair / 2 ^ place % 2)) (0 ∷ 1 ∷ 2 ∷ 3 ∷ [])

-- no penalty of a table by pairs is above the heaviest
abbrev pub Light : List ℕ → Type 0
Light ps = (e : ℕ) → e < 4 → slice_index ps e ≤ heaviest

-- the penalties of bits that take the positions from j on, one of each bit
abbrev pub penalties : (ℕ → ℤ) → ℕ → List ℕ → List ℕ
penalties v j [] = []
penalties v j (c ∷ cs) = penalty (v j) c ∷ penalties v (suc j) cs

-- a message's total: the penalties of its sent bits, added in increasing position
abbrev pub total : {X : Type 0} → Coding → Metric X → (ℕ → ℤ) → List ℕ → X
total Q M v ms = adds M M.start (penalties v 0 (sent_bits Q ms))
