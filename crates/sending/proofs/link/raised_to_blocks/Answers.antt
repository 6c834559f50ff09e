-- `link::raised_to_blocks` meets its contract: a quotient rounded up.
use Rattle.std.proofs.Common.{◌≡◌, ◌+◌, ◌-◌, ◌*◌, ◌/◌, ap, ◌∙◌, div-mul-le_self, arith}
use Rattle.sending.proofs.Sizes.{rounded_up}
use Rattle.sending.proofs.link.raised_to_blocks.Goals as goal

pub overflow_mul-result : goal.overflow_mul-result
overflow_mul-result c =
    let n = c.args.block in
    let up : c.div_ceil.result ≡ (c.args.count + (n - 1)) / n = c.div_ceil.ensures ∙ rounded_up c.args.count n c.requires.some in
    rw up (omega (arith, div-mul-le_self (c.args.count + (n - 1)) n))

pub returns : goal.returns
returns c = ap (λ x. x * c.args.block) (c.div_ceil.ensures ∙ rounded_up c.args.count c.args.block c.requires.some)
