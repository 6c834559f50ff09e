-- `Hard::soft` meets its contract: each answer is the sign of the exact one.
use Rattle.std.proofs.Common.{pos}
use Rattle.demapping.proofs.Hards.{hard_answers}
use Rattle.demapping.proofs.by_sign.HardDemapper.soft.Goals as goal

pub returns : goal.returns
returns c = hard_answers _ _ _ _ c.soft.ensures c.map.ensures.items.long (λ i h. (c.map.ensures.items.at i (pos 0) (pos 0) h).2.met)
