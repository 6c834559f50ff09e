-- Worked numbers: what the definitions come to in examples that were reckoned apart from them. Assumes nothing.
use Rattle.std.specs.Prelude.{◌≡◌, [], ◌∷◌}
use Rattle.paths.specs.Endings.{Tail.closed_by}
use Rattle.coding.specs.declared.puncture.Rate.TheVariants.{Half, ThreeQuarters}
use Rattle.coding.specs.Encoding.{code_bits, inputs_of, sent_bits}
use Rattle.coding.specs.Long.{long, long_closer, long_trellis}
use Rattle.coding.specs.Recursive.{recursive_closer, recursive_trellis}
use Rattle.interleaving.specs.TwoStep.{two_step}
use Rattle.softbits.specs.Examples.{WorkedSoftBits}
use Rattle.trellis.specs.Worked.{WorkedTotals}

pub record Worked : Type 0 where
  -- the two-step interleaver, blocks of 48 cells: 16-QAM sends 1 to 13 and 191 to 190, 64-QAM sends 1 to 20
  pub two_bits_1 : two_step.place 2 48 1 ≡ 13
  pub two_bits_191 : two_step.place 2 48 191 ≡ 190
  pub three_bits_1 : two_step.place 3 48 1 ≡ 20
  -- the long code, closed, on the message 1: 11 01 11 11 00 10 11
  pub long_of_1 : code_bits long 0 (inputs_of (record { trellis = long_trellis; tail = closed_by long_closer; rate = Half }) (1 ∷ [])) ≡ 1 ∷ 1 ∷ 0 ∷ 1 ∷ 1 ∷ 1 ∷ 1 ∷ 1 ∷ 0 ∷ 0 ∷ 1 ∷ 0 ∷ 1 ∷ 1 ∷ []
  -- and at rate 3/4 it sends 1101110011
  pub long_of_1_punctured : sent_bits (record { trellis = long_trellis; tail = closed_by long_closer; rate = ThreeQuarters }) (1 ∷ []) ≡ 1 ∷ 1 ∷ 0 ∷ 1 ∷ 1 ∷ 1 ∷ 0 ∷ 0 ∷ 1 ∷ 1 ∷ []
  -- the recursive code, closed, on the message 10: 11 01 01 11
  pub recursive_of_10 : sent_bits (record { trellis = recursive_trellis; tail = closed_by recursive_closer; rate = Half }) (1 ∷ 0 ∷ []) ≡ 1 ∷ 1 ∷ 0 ∷ 1 ∷ 0 ∷ 1 ∷ 1 ∷ 1 ∷ []
  -- the soft bits of twelve readings
  pub soft_bits : WorkedSoftBits
  -- the totals of the four messages of two bits at eight soft numbers
  pub totals : WorkedTotals
