-- What the loop of `Search::march` keeps.
use Rattle.std.proofs.Common.{◌≡◌, ℕ, ◌+◌, ◌*◌}
use Rattle.paths.specs.Rows.{Row, Words, held}
use Rattle.trellis.specs.Penalties.{soft_at}
use Rattle.trellis.specs.Steps.{costs_at}
use Rattle.trellis.proofs.search.Search.march.Given as goal

abbrev pub invariant-loop-step : goal.invariant-loop-step
invariant-loop-step g l =
    let C = (g.C.Code.trellis l.self.code).code in
    let M = (g.O.Order.order l.self.order.now).metric in
    let costs = costs_at l.rate (soft_at l.self.soft.now) in
    record { even : (p : ℕ) × (l.steps ≡ l.step + 2 * p); row : Row C M costs l.step (held M l.totals l.reached); words : Words C M costs l.step l.decisions }
