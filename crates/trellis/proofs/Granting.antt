-- A search that is not refused adds few enough penalties. Assumes nothing.
use Rattle.std.proofs.Common.{◌≡◌, ℕ, ◌+◌, ◌≤◌, arith}
use Rattle.paths.specs.Codes.{Code}
use Rattle.paths.specs.Endings.{Tail, Tail.unclosed, Tail.closed_by, TailLaws, closing_steps}
use Rattle.paths.specs.Orders.{most_penalties}
use Rattle.paths.specs.Best.{most}
use Rattle.coding.specs.declared.puncture.Rate.{Rate}
use Rattle.trellis.specs.Steps.{width_at}
use Rattle.trellis.proofs.Counts.{most_sent, sent_twice}

few_closing : (C : Code) (T : Tail) → TailLaws C T → closing_steps T ≤ 6
few_closing C unclosed laws = omega arith
few_closing C (closed_by E) laws = laws.short

-- a message of 4,090 bits at most, with its closing steps, adds no more penalties than the laws reach
pub few_penalties : (rate : Rate) (C : Code) (T : Tail) (K n : ℕ) → TailLaws C T → K ≤ 4090 → K + closing_steps T ≡ n → most (width_at rate) n ≤ most_penalties
few_penalties rate C T K n laws short long = omega (arith, few_closing C T laws, sent_twice rate n, most_sent rate n)
