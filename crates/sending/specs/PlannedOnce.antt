-- Proofs, not definitions: that a plan is granted has one proof, so that a struct may keep it. Assumes nothing.
use Rattle.std.specs.Coded.{Unit-prop}
use Rattle.std.proofs.Props.{props}
use Rattle.paths.specs.Codes.{Code}
use Rattle.paths.specs.Endings.{Tail, Tail.unclosed, Tail.closed_by, TailLaws}
use Rattle.sending.specs.Links.{Link, Planned}

TailLaws-prop : (C : Code) (T : Tail) → IsProp (TailLaws C T)
TailLaws-prop C unclosed = Unit-prop
TailLaws-prop C (closed_by E) = Prim.hlevel props

pub Planned-prop : (L : Link) → IsProp (Planned L)
Planned-prop L = Prim.hlevel (props, TailLaws-prop)
