-- `table::tabulate` meets its contract: the forks that were written stand before the others.
use Rattle.std.proofs.Common.{◌≡◌, ◌∙◌, length, take, drop, arith}
use Rattle.std.proofs.lemmas.List.{get_or_append_left, length-take-le}
use Rattle.trellis.specs.Steps.{no_fork}
use Rattle.trellis.proofs.table.tabulate.Goals as goal

pub returns : goal.returns
returns g c =
    let n = c.from-states.result in
    let items = c.loop-state.fork-items in
    let size : length (take n c.args.forks.now) ≡ n = length-take-le n c.args.forks.now (omega (arith, c.requires, c.from-states.ensures, c.states.ensures)) in
    record {
      stands = λ s l. get_or_append_left items (drop n c.args.forks.now) no_fork s (omega (arith, l, size, c.loop-state.auto.fork-items, c.from-states.ensures, c.states.ensures))
          ∙ c.loop-state.invariant.stands s (omega (arith, l, size, c.loop-state-test.false, c.loop-state.auto.state-end, c.from-states.ensures, c.states.ensures));
    }
