-- What the ends of a closable code mean. Assumes nothing.
use Rattle.paths.specs.Endings.{Closer, Tail, Tail.unclosed, Tail.closed_by}
use Rattle.coding.specs.declared.ending.End.{End}
use Rattle.coding.specs.declared.ending.End.TheVariants.{Closed, Open}

-- open, or closed in the code's own way
abbrev pub end_of : End → Closer → Tail
end_of Open E = unclosed
end_of Closed E = closed_by E
