-- `step::advance_some` meets its contract: each turn gives one state its total, and one bit of either word.
use Rattle.std.proofs.Common.{◌≡◌, ℕ, ◌+◌, ◌^◌, ◌<◌, Bool, cond, length, get_or, is_some, sym, ap, ◌∙◌, subst, arith}
use lib.Bits.{bit_or}
use Rattle.paths.specs.Rows.{Holding, Marks, held}
use Rattle.paths.proofs.Rows.{holding_none, holding_more}
use Rattle.paths.proofs.Marking.{marks_none, marks_more}
use Rattle.trellis.specs.Steps.{fork_total, fork_higher, no_fork}
use Rattle.trellis.proofs.Stepping.{carried_bears, higher_is, total_is}
use Rattle.trellis.proofs.step.advance_some.Goals as goal
use Rattle.trellis.proofs.step.advance_some.Goals.{then-second, else-second}

pub loop-state-init : goal.loop-state-init
loop-state-init g c =
    let M = (g.O.Order.order c.args.order.now).metric in
    let totals = held M c.args.old.now.row.now c.args.old.now.reached in
    (holding_none M (λ s. fork_total M c.args.cost.now totals (get_or c.args.table.now.forks.now s no_fork)) c.args.new.now, marks_none (λ s. fork_higher M c.args.cost.now totals (get_or c.args.table.now.forks.now s no_fork)))

pub second_is_taken-second-requires : goal.second_is_taken-second-requires
second_is_taken-second-requires g c =
    let M = (g.O.Order.order c.args.order.now).metric in
    let totals = held M c.args.old.now.row.now c.args.old.now.reached in
    let f = get_or c.args.table.now.forks.now c.loop-state.state no_fork in
    let inside = c.args.table.now.inside c.loop-state.state c.loop-state-test.true in
    record {
      first = carried_bears M c.args.cost.now f.lower inside.0.two_bits (totals f.lower.from) (λ t e. c.requires.bears f.lower.from t inside.0.from_state e) c.brought-lower.result c.brought-lower.ensures;
      second = carried_bears M c.args.cost.now f.higher inside.1.two_bits (totals f.higher.from) (λ t e. c.requires.bears f.higher.from t inside.1.from_state e) c.brought-higher.result c.brought-higher.ensures;
    }

pub loop-state-preserved : goal.loop-state-preserved
loop-state-preserved g c =
    let M = (g.O.Order.order c.args.order.now).metric in
    let q = c.args.cost.now in
    let totals = held M c.args.old.now.row.now c.args.old.now.reached in
    let s = c.loop-state.state in
    let f = get_or c.args.table.now.forks.now s no_fork in
    let a = c.brought-lower.result in
    let b = c.brought-higher.result in
    let o = c.if-second.total in
    let gives = λ (i : ℕ). fork_total M q totals (get_or c.args.table.now.forks.now i no_fork) in
    let tells = λ (i : ℕ). fork_higher M q totals (get_or c.args.table.now.forks.now i no_fork) in
    let bit = higher_is M q totals f a b c.brought-lower.ensures c.brought-higher.ensures c.second_is_taken-second.result c.second_is_taken-second.ensures in
    let pick : o ≡ cond c.second_is_taken-second.result b a =
    elim c.if-second.branch [
      | then-second w ↦ w.total-is ∙ ap (λ (x : Bool). cond x b a) (sym w.if-second.true)
      | else-second w ↦ w.total-is ∙ ap (λ (x : Bool). cond x b a) (sym w.if-second.false)
    ] in
    let value = total_is M q totals f a b c.brought-lower.ensures c.brought-higher.ensures c.second_is_taken-second.result c.second_is_taken-second.ensures o pick in
    let room : s < length c.loop-state.new = omega (arith, c.loop-state-test.true, c.requires.new_size, c.loop-state.auto.new) in
    let more = holding_more M gives s c.loop-state.new c.loop-state.mask o c.loop-state.invariant.0 room value in
    let mask : c.marked-mask.result ≡ cond (is_some o) (bit_or c.loop-state.mask (2 ^ s)) c.loop-state.mask = c.marked-mask.ensures ∙ ap (λ (x : Bool). cond x (bit_or c.loop-state.mask (2 ^ s)) c.loop-state.mask) c.is_some.ensures in (
      subst (λ (m : ℕ). Holding M gives (s + 1) c.keep.new.row m) (sym mask) (subst (λ row. Holding M gives (s + 1) row (cond (is_some o) (bit_or c.loop-state.mask (2 ^ s)) c.loop-state.mask)) (sym c.keep.ensures) more),
      subst (Marks tells (s + 1)) (sym c.marked-word.ensures) (marks_more tells s c.loop-state.word c.second_is_taken-second.result c.loop-state.invariant.1 bit),
    )

pub returns : goal.returns
returns g c =
    let M = (g.O.Order.order c.args.order.now).metric in
    let q = c.args.cost.now in
    let totals = held M c.args.old.now.row.now c.args.old.now.reached in
    let gives = λ (i : ℕ). fork_total M q totals (get_or c.args.table.now.forks.now i no_fork) in
    let tells = λ (i : ℕ). fork_higher M q totals (get_or c.args.table.now.forks.now i no_fork) in
    let all : c.loop-state.state ≡ c.args.table.now.states = omega (arith, c.loop-state-test.false, c.loop-state.auto.state-end) in
    record {
      row = subst (λ j. Holding M gives j c.loop-state.new c.loop-state.mask) all c.loop-state.invariant.0;
      word = subst (λ j. Marks tells j c.loop-state.word) all c.loop-state.invariant.1;
    }
