-- `Exact::soft` meets its contract: each answer is that of the reading, whose squares the distances are.
use Rattle.std.proofs.Common.{◌≡◌, ◌∙◌, pos, rules}
use Rattle.demapping.specs.Demappings.{exact_demapping}
use Rattle.demapping.proofs.Exacts.{four}
use Rattle.demapping.proofs.by_squares.ExactDemapper.soft.Goals as goal

pub returns : goal.returns
returns c =
    let made = c.from_fn.ensures.items in
    let one : made.each.1 ≡ exact_demapping.answer c.args.axis.bits 1 c.args.reading.steps = search rules in
    let two : made.each.4.1 ≡ exact_demapping.answer c.args.axis.bits 2 c.args.reading.steps = search rules in
    let three : made.each.4.4.1 ≡ exact_demapping.answer c.args.axis.bits 3 c.args.reading.steps = search rules in
    let last : made.each.4.4.4.1 ≡ exact_demapping.answer c.args.axis.bits 4 c.args.reading.steps = search rules in
    four _ _ _ _ _ made.long (made.each.2.1 (pos 0) ∙ one) (made.each.4.2.1 (pos 0) ∙ two) (made.each.4.4.2.1 (pos 0) ∙ three) (made.each.4.4.4.2.1 (pos 0) ∙ last)
