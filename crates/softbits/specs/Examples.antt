-- Worked soft bits: `exact_2_1_at_128` is bit 1 of a two-bit axis at the reading 128. Assumes nothing.
use Rattle.std.specs.Prelude.{◌≡◌, pos, negsuc}
use Rattle.softbits.specs.SoftBits.{exact, short}

pub record WorkedSoftBits : Type 0 where
  pub exact_2_1_at_128 : exact 2 1 (pos 128) ≡ pos 128
  pub exact_2_1_at_129 : exact 2 1 (pos 129) ≡ pos 130
  pub short_2_1_at_129 : short 2 1 (pos 129) ≡ pos 129
  pub exact_2_1_at_minus_200 : exact 2 1 (negsuc 199) ≡ negsuc 271
  pub exact_2_2_at_200 : exact 2 2 (pos 200) ≡ negsuc 71
  pub exact_3_2_at_0 : exact 3 2 (pos 0) ≡ pos 384
  pub short_3_2_at_0 : short 3 2 (pos 0) ≡ pos 256
  pub exact_3_2_at_400 : exact 3 2 (pos 400) ≡ negsuc 159
  pub short_3_2_at_400 : short 3 2 (pos 400) ≡ negsuc 143
  pub exact_3_3_at_minus_300 : exact 3 3 (negsuc 299) ≡ pos 84
  pub exact_4_1_at_2047 : exact 4 1 (pos 2047) ≡ pos 12792
  pub exact_4_4_at_1000 : exact 4 4 (pos 1000) ≡ negsuc 103
