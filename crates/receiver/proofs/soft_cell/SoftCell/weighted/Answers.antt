-- `SoftCell::weighted` meets its contract: the product of a weight and an answer fits its type.
use Rattle.std.proofs.Common.{ℤ, pos, ◌*ℤ◌, sym, ap, ◌∙◌, subst, w32, SFits, to_z, of_z}
use Rattle.receiver.proofs.Products.{product_fits, product_told}
use Rattle.receiver.proofs.soft_cell.SoftCell.weighted.Goals as goal

pub overflow_mul-result : goal.overflow_mul-result
overflow_mul-result c =
    subst (λ (x : ℤ). SFits w32 (to_z w32 (of_z w32 x) *ℤ to_z w32 (of_z w32 c.answer.result))) (sym c.from.ensures)
    (product_fits c.args.self.now.weight c.answer.result c.args.self.now.light c.answer.ensures.small)

pub returns : goal.returns
returns c =
    ap (λ (x : ℤ). to_z w32 (of_z w32 (to_z w32 (of_z w32 x) *ℤ to_z w32 (of_z w32 c.answer.result)))) c.from.ensures
    ∙ product_told c.args.self.now.weight c.answer.result c.args.self.now.light c.answer.ensures.small ∙ ap (λ z. pos c.args.self.now.weight *ℤ z) c.answer.ensures.value
