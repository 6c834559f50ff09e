-- Totals that are the sum of the penalties. Assumes nothing.
use Rattle.std.specs.Prelude.{ℕ, ◌+◌, nat_lt, refl}
use Rattle.std.proofs.Common.{arith}
use Rattle.std.proofs.lemmas.Bool.{ltb-true, ltb-false, lt-ltb, le-ltb}
use Rattle.paths.specs.Orders.{Metric, OrderLaws, Ordered, IsSum}

abbrev pub sums : Metric ℕ
sums = record { start = 0; add = ◌+◌; lt = nat_lt }

pub sums_laws : OrderLaws sums
sums_laws = record {
  one_way = λ t u r q e. le-ltb u t (omega (arith, ltb-true t u e));
  chain = λ t u v r q p e d. le-ltb t v (omega (arith, ltb-false t u e, ltb-false u v d));
  same = λ t u r q e d. omega (arith, ltb-false t u e, ltb-false u t d);
  strict = λ t u p l r q e. lt-ltb (t + p) (u + p) (omega (arith, ltb-true t u e));
}

abbrev pub by_sum : Ordered ℕ
by_sum = record { metric = sums; lawful = sums_laws }

pub sums_is_sum : IsSum sums
sums_is_sum = record { size = λ t. t; from_zero = refl; adds_up = λ t p. refl; by_size = λ t u. refl }
