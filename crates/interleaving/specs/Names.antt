-- The texts that name an interleaver. Assumes nothing.
use Rattle.std.specs.Prelude.{ℕ, List, codes}
use Rattle.interleaving.specs.declared.kind.InterleaverKind.{InterleaverKind}
use Rattle.interleaving.specs.declared.kind.InterleaverKind.TheVariants.{Straight, TwoStep}

abbrev pub interleaver_name : InterleaverKind → List ℕ
interleaver_name Straight = codes "S"
interleaver_name TwoStep = codes "T"
