-- `PlannedLink::encode`: the state, the position and the labels after each step; the message's bits come first, and then what closes it.
use Rattle.std.proofs.Common.{◌≡◌, ◌+◌, length}
use Rattle.sending.specs.Labelling.{EncodedFor}
use Rattle.sending.specs.Links.{linked}
use Rattle.sending.proofs.planned.PlannedLink.encode.Given as goal

abbrev pub invariant-loop-input : goal.invariant-loop-input
invariant-loop-input g l =
    record { step : l.at.step ≡ l.input-index; encoded : EncodedFor (linked g.C.Code.trellis g.E.Ending.tail g.I.Interleaver.interleaving l.self.link) l.message l.at.step l.at.state l.at.position l.cells }

abbrev pub invariant-loop : goal.invariant-loop
invariant-loop g l =
    record { step : l.at.step ≡ length l.message + l.counter; encoded : EncodedFor (linked g.C.Code.trellis g.E.Ending.tail g.I.Interleaver.interleaving l.self.link) l.message l.at.step l.at.state l.at.position l.cells }
