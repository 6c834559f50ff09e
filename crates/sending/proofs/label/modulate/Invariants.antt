-- `label::modulate`: the cells so far are at their levels, and the others as they were.
use Rattle.std.proofs.Common.{◌≡◌, ℕ, ◌<◌, ◌≤◌, get_or}
use Rattle.qam.specs.declared.cell.QamCell.{QamCell}
use Rattle.sending.specs.Cells.{at_levels}
use Rattle.sending.specs.Labelling.{holding}
use Rattle.sending.proofs.label.modulate.Given as goal

abbrev pub invariant-loop-cell : goal.invariant-loop-cell
invariant-loop-cell l = record {
  done : (c : ℕ) (d : QamCell) (p q : ℕ) → c < l.cell-index → get_or l.initial.cells c d ≡ holding p q → get_or l.cells c d ≡ at_levels l.axis.bits p q;
  left : (c : ℕ) (d : QamCell) → l.cell-index ≤ c → get_or l.cells c d ≡ get_or l.initial.cells c d;
}
