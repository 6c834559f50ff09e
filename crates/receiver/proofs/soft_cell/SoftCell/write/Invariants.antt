-- `SoftCell::write`: the bits so far are written, and nothing else.
use Rattle.receiver.specs.Stores.{laid}
use Rattle.receiver.proofs.Laying.{Laid}
use Rattle.receiver.proofs.soft_cell.SoftCell.write.Given as goal

abbrev pub invariant-loop-bit : goal.invariant-loop-bit
invariant-loop-bit g l =
    Laid (g.I.Interleaver.interleaving l.layout.interleaver) l.layout.block.bits l.layout.block.cells l.at (laid l.layout.block.bits l.self.in_phase l.self.quadrature l.self.weight) l.bit l.initial.soft l.soft
