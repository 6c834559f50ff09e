-- `sum_is_a_sum` carries its theorem.
use Rattle.orders.specs.Sum.{sums_is_sum}
use Rattle.orders.proofs.sum.sum_is_a_sum.Goals as goal

pub returns : goal.returns
returns c = sums_is_sum
