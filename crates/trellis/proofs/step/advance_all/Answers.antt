-- `step::advance_all` meets its contract: each turn gives one state its total, from the last state down.
use Rattle.std.proofs.Common.{◌≡◌, ℕ, ◌-◌, ◌≤◌, Bool, cond, length, get_or, set, Some, sym, ap, ◌∙◌, subst, arith}
use Rattle.paths.specs.Orders.{Bears}
use Rattle.paths.specs.Rows.{held}
use Rattle.trellis.specs.Steps.{fork_total, fork_higher, no_fork}
use Rattle.trellis.proofs.Bearing.{bears_both}
use Rattle.trellis.proofs.Stepping.{higher_is, total_is}
use Rattle.trellis.proofs.Falling.{Falling, all_given, falling_holds, falling_marks, falling_more, read_carried, read_held}
use Rattle.trellis.proofs.step.advance_all.Goals as goal
use Rattle.trellis.proofs.step.advance_all.Goals.{then-second, else-second}

pub paid_both-lower-requires : goal.paid_both-lower-requires
paid_both-lower-requires g c =
    let row = c.args.old.now.row.now in
    let w = (get_or c.args.table.now.forks.now (c.loop-state.state - 1) no_fork).lower in
    let inside = (c.args.table.now.inside (c.loop-state.state - 1) (omega (arith, c.loop-state-test.true, c.loop-state.auto.state))).0 in
    let x = get_or row c.from.result c.index-old-from.result in
    record {
      two_bits = inside.two_bits;
      bears = c.requires.bears w.from x inside.from_state (read_held (g.O.Order.order c.args.order.now).metric c.args.cost.now row c.args.old.now.reached c.args.table.now.states c.requires.all w.from x inside.from_state c.requires.old_size (ap (get_or row c.from.result) c.index-old-from.is ∙ ap (λ k. get_or row k x) c.from.ensures));
    }

pub paid_both-higher-requires : goal.paid_both-higher-requires
paid_both-higher-requires g c =
    let row = c.args.old.now.row.now in
    let w = (get_or c.args.table.now.forks.now (c.loop-state.state - 1) no_fork).higher in
    let inside = (c.args.table.now.inside (c.loop-state.state - 1) (omega (arith, c.loop-state-test.true, c.loop-state.auto.state))).1 in
    let x = get_or row c.from-in-loop-state.result c.index-old-from-in-loop-state.result in
    record {
      two_bits = inside.two_bits;
      bears = c.requires.bears w.from x inside.from_state (read_held (g.O.Order.order c.args.order.now).metric c.args.cost.now row c.args.old.now.reached c.args.table.now.states c.requires.all w.from x inside.from_state c.requires.old_size (ap (get_or row c.from-in-loop-state.result) c.index-old-from-in-loop-state.is ∙ ap (λ k. get_or row k x) c.from-in-loop-state.ensures));
    }

pub is_higher_taken-second-requires : goal.is_higher_taken-second-requires
is_higher_taken-second-requires g c =
    let M = (g.O.Order.order c.args.order.now).metric in
    let s = c.loop-state.state - 1 in
    let q = c.args.cost.now in
    let f = get_or c.args.table.now.forks.now s no_fork in
    let inside = c.args.table.now.inside s (omega (arith, c.loop-state-test.true, c.loop-state.auto.state)) in
    let row = c.args.old.now.row.now in
    let x = get_or row c.from.result c.index-old-from.result in
    let y = get_or row c.from-in-loop-state.result c.index-old-from-in-loop-state.result in
    let xis = ap (get_or row c.from.result) c.index-old-from.is ∙ ap (λ k. get_or row k x) c.from.ensures in
    let yis = ap (get_or row c.from-in-loop-state.result) c.index-old-from-in-loop-state.is ∙ ap (λ k. get_or row k y) c.from-in-loop-state.ensures in
    let bx = c.requires.bears f.lower.from x inside.0.from_state (read_held M q c.args.old.now.row.now c.args.old.now.reached c.args.table.now.states c.requires.all f.lower.from x inside.0.from_state c.requires.old_size xis) in
    let by = c.requires.bears f.higher.from y inside.1.from_state (read_held M q c.args.old.now.row.now c.args.old.now.reached c.args.table.now.states c.requires.all f.higher.from y inside.1.from_state c.requires.old_size yis) in
    record {
      higher = subst (Bears M 0) (sym c.paid_both-higher.ensures) (bears_both q f.higher.bits y inside.1.two_bits by);
      lower = subst (Bears M 0) (sym c.paid_both-lower.ensures) (bears_both q f.lower.bits x inside.0.two_bits bx);
    }

pub loop-state-preserved : goal.loop-state-preserved
loop-state-preserved g c =
    let M = (g.O.Order.order c.args.order.now).metric in
    let q = c.args.cost.now in
    let table = c.args.table.now.forks.now in
    let totals = held M c.args.old.now.row.now c.args.old.now.reached in
    let j = c.loop-state.state in
    let f = get_or table (j - 1) no_fork in
    let inside = c.args.table.now.inside (j - 1) (omega (arith, c.loop-state-test.true, c.loop-state.auto.state)) in
    let row = c.args.old.now.row.now in
    let x = get_or row c.from.result c.index-old-from.result in
    let y = get_or row c.from-in-loop-state.result c.index-old-from-in-loop-state.result in
    let xis = ap (get_or row c.from.result) c.index-old-from.is ∙ ap (λ k. get_or row k x) c.from.ensures in
    let yis = ap (get_or row c.from-in-loop-state.result) c.index-old-from-in-loop-state.is ∙ ap (λ k. get_or row k y) c.from-in-loop-state.ensures in
    let t = c.paid_both-lower.result in
    let u = c.paid_both-higher.result in
    let a = read_carried M q c.args.old.now.row.now c.args.old.now.reached c.args.table.now.states c.requires.all f.lower x t inside.0.from_state c.requires.old_size xis c.paid_both-lower.ensures in
    let b = read_carried M q c.args.old.now.row.now c.args.old.now.reached c.args.table.now.states c.requires.all f.higher y u inside.1.from_state c.requires.old_size yis c.paid_both-higher.ensures in
    let gives = λ (i : ℕ). fork_total M q totals (get_or table i no_fork) in
    let tells = λ (i : ℕ). fork_higher M q totals (get_or table i no_fork) in
    let second = c.is_higher_taken-second.result in
    let bit = higher_is M q totals f (Some t) (Some u) a b second c.is_higher_taken-second.ensures in
    let pick : Some c.if-second.new ≡ cond second (Some u) (Some t) =
    elim c.if-second.branch [
      | then-second w ↦ ap Some w.new-is ∙ ap (λ (x : Bool). cond x (Some u) (Some t)) (sym w.if-second.true)
      | else-second w ↦ ap Some w.new-is ∙ ap (λ (x : Bool). cond x (Some u) (Some t)) (sym w.if-second.false)
    ] in
    let value = total_is M q totals f (Some t) (Some u) a b second c.is_higher_taken-second.ensures (Some c.if-second.new) pick in
    let room : c.args.table.now.states ≤ length c.loop-state.new = omega (arith, c.requires.new_size, c.loop-state.auto.new) in
    subst (Falling M gives tells c.args.table.now.states (j - 1) (set c.loop-state.new (j - 1) c.if-second.new)) (sym c.shifted_in-word.ensures)
    (falling_more M gives tells c.args.table.now.states j c.loop-state.new c.loop-state.word c.if-second.new second c.loop-state-test.true c.loop-state.auto.state room c.loop-state.invariant (sym value) bit)

pub returns : goal.returns
returns g c =
    let M = (g.O.Order.order c.args.order.now).metric in
    let q = c.args.cost.now in
    let table = c.args.table.now.forks.now in
    let totals = held M c.args.old.now.row.now c.args.old.now.reached in
    let gives = λ (i : ℕ). fork_total M q totals (get_or table i no_fork) in
    let tells = λ (i : ℕ). fork_higher M q totals (get_or table i no_fork) in
    let z : c.loop-state.state ≡ 0 = omega (arith, c.loop-state-test.false) in
    let done : Falling M gives tells c.args.table.now.states 0 c.loop-state.new c.loop-state.word = subst (λ (j : ℕ). Falling M gives tells c.args.table.now.states j c.loop-state.new c.loop-state.word) z c.loop-state.invariant in
    record {
      row = falling_holds M gives tells c.args.table.now.states c.loop-state.new c.loop-state.word c.args.old.now.reached c.requires.all (λ s l. all_given M q c.args.old.now.row.now c.args.old.now.reached c.args.table.now.states c.requires.all (get_or table s no_fork) (c.args.table.now.inside s l).0.from_state (c.args.table.now.inside s l).1.from_state) done;
      word = falling_marks M gives tells c.args.table.now.states c.loop-state.new c.loop-state.word done;
    }
