-- The letters by which the command line names an order of totals. Assumes nothing.
use Rattle.std.specs.Prelude.{ℕ, List, codes}
use Rattle.nearest.specs.declared.options.OrderKind.{OrderKind}
use Rattle.nearest.specs.declared.options.OrderKind.TheVariants.{Sum, CountFirst}

abbrev pub order_name : OrderKind → List ℕ
order_name Sum = codes "S"
order_name CountFirst = codes "C"
