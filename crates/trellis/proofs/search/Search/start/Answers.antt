-- `Search::start` meets its contract: only state 0 has a total at first.
use Rattle.std.proofs.Common.{◌≡◌, ℕ, Bool, cond, set, sym, ap, subst, arith}
use Rattle.std.proofs.lemmas.List.{length-set}
use Rattle.paths.specs.Rows.{Row, held}
use Rattle.paths.proofs.Rows.{row_start, words_none}
use Rattle.trellis.specs.Penalties.{soft_at}
use Rattle.trellis.specs.Steps.{costs_at}
use Rattle.trellis.proofs.search.Search.start.Goals as goal

pub stride-requires : goal.stride-requires
stride-requires g c =
    let laws = (g.C.Code.trellis c.args.self.now.code).lawful in
    let M = (g.O.Order.order c.args.self.now.order.now).metric in
    let costs = costs_at c.args.rate (soft_at c.args.self.now.soft.now) in
    record {
      old_size = omega (arith, length-set c.args.spare.now 0 c.zero.result, c.requires.spare_size);
      new_size = c.requires.totals_size;
      short = omega arith;
      word = c.requires.word;
      room = c.requires.room;
      row = row_start M costs laws c.args.spare.now c.zero.result (omega (arith, laws.some, c.requires.spare_size)) c.zero.ensures;
      words = words_none M costs laws c.args.decisions.now;
    }

pub returns-else-odd : goal.returns-else-odd
returns-else-odd g c =
    let C = (g.C.Code.trellis c.args.self.now.code).code in
    let laws = (g.C.Code.trellis c.args.self.now.code).lawful in
    let M = (g.O.Order.order c.args.self.now.order.now).metric in
    let costs = costs_at c.args.rate (soft_at c.args.self.now.soft.now) in
    let even : ◌≡◌ {A = ℕ} (cond c.args.odd 1 0) 0 = ap (λ (b : Bool). cond b 1 0) c.if-odd.false in
    record {
      row = subst (λ (n : ℕ). Row C M costs n (held M (set c.args.totals.now 0 c.zero-else-odd.result) 1)) (sym even) (row_start M costs laws c.args.totals.now c.zero-else-odd.result (omega (arith, laws.some, c.requires.totals_size)) c.zero-else-odd.ensures);
      words = record { holds = λ k l. absurd (omega (arith, even)) };
    }
