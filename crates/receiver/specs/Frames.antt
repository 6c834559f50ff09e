-- What a frame keeps, as mathematics. Assumes nothing.
use Rattle.paths.specs.Codes.{Trellis}
use Rattle.paths.specs.Endings.{Tail}
use Rattle.interleaving.specs.Interleaving.{Interleaving}
use Rattle.softbits.specs.Demapping.{Demapping}
use Rattle.sending.specs.Links.{linked}
use Rattle.reception.specs.Entries.{Reception}
use Rattle.receiver.specs.declared.frame.Setup.{Setup}

-- the planned frame and the demapper
abbrev pub reception_of : {C E I D : Type 0} → (C → Trellis) → (E → C → Tail) → (I → Interleaving) → (D → Demapping) → Setup C E I D → Reception
reception_of t e x d s = record { link = linked t e x s.link; demapping = d s.demapper }
