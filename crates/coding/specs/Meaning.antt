-- What a coding means: the trellis of its code, the tail that its end makes of that code, and the rate. Assumes nothing.
use Rattle.paths.specs.Codes.{Trellis}
use Rattle.paths.specs.Endings.{Tail}
use Rattle.coding.specs.Encoding.{Coding as Meant}
use Rattle.coding.specs.declared.encoding.Coding.{Coding}

abbrev pub coding_of : {C E : Type 0} → (C → Trellis) → (E → C → Tail) → Coding C E → Meant
coding_of t e c = record { trellis = t c.code; tail = e c.end c.code; rate = c.rate }
