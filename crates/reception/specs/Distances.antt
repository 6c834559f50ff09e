-- How far a message is from what was received, and by how much the demapper may mislead between two messages. Assumes nothing.
use Rattle.std.specs.Prelude.{ℕ, suc, ◌+◌, cond, List, [], ◌∷◌, ◌==◌}
use Rattle.coding.specs.Encoding.{sent_bits}
use Rattle.reception.specs.Entries.{Entry, Reception, carried, weighted_gap, weighted_near}

-- what bits cost that take the positions from j on, where the bit c costs `cost k c` at position k
abbrev pub costs : (ℕ → ℕ → ℕ) → ℕ → List ℕ → ℕ
costs cost j [] = 0
costs cost j (c ∷ cs) = cost j c + costs cost (suc j) cs

-- what stands at the positions where two lists of bits differ
abbrev pub where_apart : (ℕ → ℕ) → ℕ → List ℕ → List ℕ → ℕ
where_apart f j [] ds = 0
where_apart f j (c ∷ cs) [] = 0
where_apart f j (c ∷ cs) (d ∷ ds) = cond (c == d) 0 (f j) + where_apart f (suc j) cs ds

-- a message's distance: the weighted near(c) of its sent bits, in the cells that are not lost
abbrev pub distance : Reception → List Entry → List ℕ → ℕ
distance R es ms = costs (λ k c. weighted_near R c (carried R.link es k)) 0 (sent_bits R.link.coding ms)

-- the weighted gaps of the sent bits where two messages differ
abbrev pub gaps : Reception → List Entry → List ℕ → List ℕ → ℕ
gaps R es ms rs = where_apart (λ k. weighted_gap R (carried R.link es k)) 0 (sent_bits R.link.coding ms) (sent_bits R.link.coding rs)
