-- `Distances::exact_bit` meets its contract: the lead of the squares is that of any reading that has them.
use Rattle.std.proofs.Common.{rules}
use Rattle.demapping.proofs.Exacts.{exact_bit}
use Rattle.demapping.proofs.by_squares.Distances.exact_bit.Goals as goal

pub returns : goal.returns
returns c = exact_bit c.args.self.now.axis.bits c.args.k c.args.self.now.squared _ c.requires (search rules)
