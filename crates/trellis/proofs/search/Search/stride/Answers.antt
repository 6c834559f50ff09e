-- `Search::stride` meets its contract: one step of the search is one step of the survivors.
use Rattle.std.proofs.Common.{◌≡◌, ℕ, ◌+◌, ◌≤◌, get_or, subst, arith}
use Rattle.paths.specs.Orders.{most_penalties}
use Rattle.paths.specs.Best.{Setting, most}
use Rattle.paths.specs.Rows.{Holding, Marks, held}
use Rattle.paths.proofs.Rows.{row_bears}
use Rattle.trellis.specs.Penalties.{soft_at}
use Rattle.trellis.specs.Steps.{cost_width, costs_at, fork_higher, fork_total, no_fork, width_at}
use Rattle.trellis.proofs.Counts.{most_sent, sent_next, sent_twice}
use Rattle.trellis.proofs.Costing.{all_limited, costs_lawful}
use Rattle.trellis.proofs.Striding.{row_strides, words_stride}
use Rattle.trellis.proofs.search.Search.stride.Goals as goal

pub advance-mask-requires : goal.advance-mask-requires
advance-mask-requires g c =
    let C = (g.C.Code.trellis c.args.self.now.code).code in
    let laws = (g.C.Code.trellis c.args.self.now.code).lawful in
    let M = (g.O.Order.order c.args.self.now.order.now).metric in
    let rate = c.args.rate in
    let k = c.args.step in
    let v = soft_at c.args.self.now.soft.now in
    let same : c.args.self.now.table.states ≡ C.states = c.args.self.now.states in
    let s : Setting C M (costs_at rate v) (width_at rate) = record { code = laws; order = (g.O.Order.order c.args.self.now.order.now).lawful; paid = costs_lawful v (all_limited c.args.self.now.soft.now) rate } in
    let fits : most (width_at rate) k + cost_width c.of_step-cost.result ≤ most_penalties = omega (arith, c.requires.short, most_sent rate k, sent_next rate k, sent_twice rate (k + 1), c.of_step-cost.ensures.width) in
    record {
      old_size = omega (arith, same, c.requires.old_size);
      new_size = omega (arith, same, c.requires.new_size);
      bears = λ i t l e. row_bears s (cost_width c.of_step-cost.result) k fits (held M c.args.old.now.row.now c.args.old.now.reached) c.requires.row i t (omega (arith, same)) e;
    }

pub returns : goal.returns
returns g c =
    let C = (g.C.Code.trellis c.args.self.now.code).code in
    let laws = (g.C.Code.trellis c.args.self.now.code).lawful in
    let M = (g.O.Order.order c.args.self.now.order.now).metric in
    let costs = costs_at c.args.rate (soft_at c.args.self.now.soft.now) in
    let k = c.args.step in
    let q = c.of_step-cost.result in
    let table = c.args.self.now.table.forks.now in
    let totals = held M c.args.old.now.row.now c.args.old.now.reached in
    let gives = λ (i : ℕ). fork_total M q totals (get_or table i no_fork) in
    let tells = λ (i : ℕ). fork_higher M q totals (get_or table i no_fork) in
    let row : Holding M gives C.states c.advance-mask.new.new c.advance-mask.result.0 = subst (λ (n : ℕ). Holding M gives n c.advance-mask.new.new c.advance-mask.result.0) c.args.self.now.states c.advance-mask.ensures.row in
    let word : Marks tells C.states c.advance-mask.result.1 = subst (λ (n : ℕ). Marks tells n c.advance-mask.result.1) c.args.self.now.states c.advance-mask.ensures.word in
    record {
      row = row_strides laws table c.args.self.now.tabled M costs k q c.of_step-cost.ensures.pays totals c.requires.row c.advance-mask.new.new c.advance-mask.result.0 row;
      words = words_stride laws table c.args.self.now.tabled M costs k q c.of_step-cost.ensures.pays totals c.requires.row c.advance-mask.result.1 c.args.decisions.now c.requires.word c.requires.words word;
    }
