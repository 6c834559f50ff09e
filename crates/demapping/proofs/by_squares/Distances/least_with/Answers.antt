-- `Distances::least_with` meets its contract: a level with the bit is taken where it is less.
use Rattle.std.proofs.Common.{sym, ◌∙◌, arith}
use Rattle.std.proofs.lemmas.List.{get_or-take}
use Rattle.softbits.proofs.Leasts.{more_took, more_kept}
use Rattle.demapping.proofs.by_squares.Distances.least_with.Goals as goal
use Rattle.demapping.proofs.by_squares.Distances.least_with.Goals.{then-has, else-has}

pub loop-number-preserved : goal.loop-number-preserved
loop-number-preserved c =
    elim c.if-has.branch [
      | then-has w ↦ more_took _ _ _ c.loop-number.number c.loop-number.least _ (sym c.has.ensures ∙ w.if-has.true) c.loop-number.invariant (w.least-is ∙ (let e = get_or-take c.from-levels.result c.args.self.now.squared c.loop-number.number 0 (omega arith) in cc))
      | else-has w ↦ more_kept _ _ _ c.loop-number.number c.loop-number.least _ (sym c.has.ensures ∙ w.if-has.false) c.loop-number.invariant w.least-is
    ]
