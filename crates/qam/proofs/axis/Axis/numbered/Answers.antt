-- `Axis::numbered` meets its contract: the 30 labels were computed.
use Rattle.qam.proofs.Labels.{decodes_on}
use Rattle.qam.proofs.axis.Axis.numbered.Goals as goal

pub returns : goal.returns
returns c = let d = decodes_on c.args.self.bits c.args.label c.args.self.is_axis c.requires in record { value = d.value; sole = d.sole }
