-- `Row::at` meets its contract: the axis has m bits, and the reading has r steps.
use Rattle.std.proofs.Common.{◌≡◌, ℕ, ℤ, subst, rules}
use Rattle.softtable.specs.Lines.{Line}
use Rattle.softtable.proofs.row.Row.at.Goals as goal

pub returns-then-place-axis-clause-line : goal.returns-then-place-axis-clause-line
returns-then-place-axis-clause-line c =
    let bits : c.in_ok-axis.axis.bits ≡ c.args.m = search rules in
    let steps : c.in_ok-reading.reading.steps ≡ c.args.r = search rules in
    subst (λ (m : ℕ). Line m c.args.place c.args.r c.line.result) bits (subst (λ (r : ℤ). Line c.in_ok-axis.axis.bits c.args.place r c.line.result) steps c.line.ensures)
