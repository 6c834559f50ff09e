-- `SoftCell::demapped` meets its contract: what the demapper answers is within its range.
use Rattle.std.proofs.Common.{◌≡◌, sym, refl, ap, ◌∙◌, subst, w16, SFits, rules}
use Rattle.std.proofs.lemmas.Int.{to_z-of_z}
use Rattle.softbits.specs.SoftBits.{Reading}
use Rattle.softbits.specs.Demapping.{answers}
use Rattle.receiver.specs.Stores.{Small}
use Rattle.receiver.proofs.Entering.{answers_small}
use Rattle.receiver.proofs.soft_cell.SoftCell.demapped.Goals as goal

pub invariant_of-result : goal.invariant_of-result
invariant_of-result g c =
    let D = g.D.Demapper.demapping c.args.demapper.now in
    let m = c.args.axis.bits in
    let i = c.in-Ok-Ok.in_phase in
    let q = c.in-Ok-Ok.quadrature in
    record {
      light = c.if-cell-gt1023.false;
      small_in_phase = subst Small (sym c.soft.ensures) (answers_small D m i.steps c.args.axis.is_axis (record { inside = i.in_range }));
      small_quadrature = subst Small (sym c.soft-2.ensures) (answers_small D m q.steps c.args.axis.is_axis (record { inside = q.in_range }));
    }

pub returns : goal.returns
returns g c =
    let D = g.D.Demapper.demapping c.args.demapper.now in
    let m = c.args.axis.bits in
    let x = c.args.cell in
    let i = c.in-Ok-Ok.in_phase in
    let q = c.in-Ok-Ok.quadrature in
    let fits-i : SFits w16 x.in_phase = search rules in
    let fits-q : SFits w16 x.quadrature = search rules in
    let ei : i.steps ≡ x.in_phase = simp (to_z-of_z w16 x.in_phase fits-i, c.in-Ok-Ok.is-0) at c.try_from.ensures in
    let eq : q.steps ≡ x.quadrature = simp (to_z-of_z w16 x.quadrature fits-q, c.in-Ok-Ok.is-1) at c.try_from-2.ensures in
    let ri : Reading i.steps = record { inside = i.in_range } in
    let rq : Reading q.steps = record { inside = q.in_range } in
    record {
      in_range = record { in_phase = subst Reading ei ri; quadrature = subst Reading eq rq; light = c.if-cell-gt1023.false };
      in_phase = c.soft.ensures ∙ ap (answers D m) ei;
      quadrature = c.soft-2.ensures ∙ ap (answers D m) eq;
      weight = refl;
    }
