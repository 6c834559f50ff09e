-- The interleaver of IEEE 802.11a: the first step and then the second, with 16 columns. Assumes nothing.
use Rattle.interleaving.specs.Interleaving.{Interleaving, cascade, straight}
use Rattle.interleaving.specs.Steps.{first, second}
use Rattle.interleaving.specs.declared.kind.InterleaverKind.{InterleaverKind}
use Rattle.interleaving.specs.declared.kind.InterleaverKind.TheVariants.{Straight, TwoStep}

abbrev pub two_step : Interleaving
two_step = cascade (first 16) (second 16)

-- what the interleavers that a letter names mean
abbrev pub kind_interleaving : InterleaverKind → Interleaving
kind_interleaving Straight = straight
kind_interleaving TwoStep = two_step
