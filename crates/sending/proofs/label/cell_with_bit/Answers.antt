-- `label::cell_with_bit` meets its contract: labels of at most four bits are below 16.
use Rattle.std.proofs.Common.{◌≡◌, ◌<◌, pos, ap, arith}
use Rattle.std.proofs.lemmas.Int.{ints}
use Rattle.qam.proofs.Axes.{levels_few}
use Rattle.qam.specs.declared.cell.QamCell.{QamCell}
use Rattle.sending.proofs.label.cell_with_bit.Goals as goal

pub raised-requires-clause-label : goal.raised-requires-clause-label
raised-requires-clause-label c =
    let l = c.requires.labels in
    let few = levels_few c.args.axis.bits c.args.axis.is_axis.few in
    let is : c.args.cell.in_phase ≡ pos l.in_phase = ap (λ (x : QamCell). x.in_phase) l.are in
    let low : l.in_phase < 16 = omega (arith, l.in_phase_small) in
    (l.in_phase, low, omega (arith, ints, is))

pub raised-requires-else-at-m-clause-label : goal.raised-requires-else-at-m-clause-label
raised-requires-else-at-m-clause-label c =
    let l = c.requires.labels in
    let few = levels_few c.args.axis.bits c.args.axis.is_axis.few in
    let is : c.args.cell.quadrature ≡ pos l.quadrature = ap (λ (x : QamCell). x.quadrature) l.are in
    let low : l.quadrature < 16 = omega (arith, l.quadrature_small) in
    (l.quadrature, low, omega (arith, ints, is))
