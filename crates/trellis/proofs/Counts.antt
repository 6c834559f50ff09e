-- How many bits the steps send, and so how many penalties they add. Assumes nothing.
use Rattle.std.proofs.Common.{◌≡◌, ℕ, zero, suc, ◌+◌, ◌*◌, ◌≤◌, Bool, true, false, cond, refl, ap, ◌∙◌, arith}
use Rattle.paths.specs.Best.{most}
use Rattle.paths.proofs.Totals.{most_le}
use Rattle.coding.specs.declared.puncture.Rate.{Rate}
use Rattle.coding.specs.Puncturing.{sends_first, sends_second, sent_before}
use Rattle.trellis.specs.Steps.{width_at}

pub sent_next : (r : Rate) (k : ℕ) → sent_before r (k + 1) ≡ sent_before r k + width_at r k
unfolding sent_before
sent_next r k = let s : k + 1 ≡ suc k = omega arith in ap (sent_before r) s ∙ (let e : sent_before r (suc k) ≡ sent_before r k + width_at r k = omega arith in e)

pub sent_none : (r : Rate) → sent_before r 0 ≡ 0
unfolding sent_before
sent_none r = refl

pub most_sent : (r : Rate) (k : ℕ) → most (width_at r) k ≡ sent_before r k
unfolding sent_before
most_sent r zero = refl
most_sent r (suc k) = omega (arith, most_sent r k)

pub sent_le : (r : Rate) (k n : ℕ) → k ≤ n → sent_before r k ≤ sent_before r n
sent_le r k n h = omega (arith, most_le (width_at r) k n h, most_sent r k, most_sent r n)

pub at_most_one : (b : Bool) → ◌≤◌ (cond b 1 0) 1
at_most_one true = omega arith
at_most_one false = omega arith

pub sent_twice : (r : Rate) (k : ℕ) → sent_before r k ≤ 2 * k
unfolding sent_before
sent_twice r zero = omega arith
sent_twice r (suc k) = omega (arith, sent_twice r k, at_most_one (sends_first r k), at_most_one (sends_second r k))
