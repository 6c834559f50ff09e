-- What the codes that a letter names mean. Assumes nothing.
use Rattle.paths.specs.Codes.{Trellis}
use Rattle.paths.specs.Endings.{Closer}
use Rattle.coding.specs.declared.kind.CodeKind.{CodeKind}
use Rattle.coding.specs.declared.kind.CodeKind.TheVariants.{Long, Recursive}
use Rattle.coding.specs.Long.{long_closer, long_trellis}
use Rattle.coding.specs.Recursive.{recursive_closer, recursive_trellis}

abbrev pub kind_trellis : CodeKind → Trellis
kind_trellis Long = long_trellis
kind_trellis Recursive = recursive_trellis

abbrev pub kind_closer : CodeKind → Closer
kind_closer Long = long_closer
kind_closer Recursive = recursive_closer
