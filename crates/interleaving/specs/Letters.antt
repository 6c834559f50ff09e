-- The letters by which a plan names an interleaver. Assumes nothing.
use Rattle.std.specs.Prelude.{ℕ, cond, Some, None, Option, ◌==◌}
use Rattle.interleaving.specs.declared.kind.InterleaverKind.{InterleaverKind}
use Rattle.interleaving.specs.declared.kind.InterleaverKind.TheVariants.{Straight, TwoStep}

-- 'S' is 83 and 'T' is 84
abbrev pub interleaver_lettered : ℕ → Option InterleaverKind
interleaver_lettered l = cond (l == 83) (Some Straight) (cond (l == 84) (Some TwoStep) None)
