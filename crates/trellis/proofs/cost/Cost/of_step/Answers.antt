-- `Cost::of_step` meets its contract: its tables give what the positions of the step's bits say.
use Rattle.std.proofs.Common.{◌≡◌, ℕ, ◌+◌, Bool, true, false, cond, ◌++◌, slice_index, sym, refl, ap, ◌∙◌, arith}
use Rattle.std.specs.Int.{from_bool}
use Rattle.coding.specs.Puncturing.{sends_first, sends_second, sent_before}
use Rattle.coding.specs.Encoding.{if_sent}
use Rattle.trellis.specs.Penalties.{pays_at, soft_at, penalties}
use Rattle.trellis.specs.Steps.{pays, paired}
use Rattle.trellis.proofs.Counts.{at_most_one, sent_next, sent_twice}
use Rattle.trellis.proofs.Costing.{tables_pay}
use Rattle.trellis.proofs.cost.Cost.of_step.Goals as goal

counted : (b : Bool) → from_bool b ≡ cond b 1 0
counted true = refl
counted false = refl

one_when : (b s : Bool) → b ≡ s → b ≡ true → ◌≡◌ {A = ℕ} (cond s 1 0) 1
one_when b s e t = ap (λ (x : Bool). cond x 1 0) (sym e ∙ t)

one_same : (b s : Bool) → b ≡ s → ◌≡◌ {A = ℕ} (cond b 1 0) (cond s 1 0)
one_same b s e = ap (λ (x : Bool). cond x 1 0) e

pub overflow_add-next : goal.overflow_add-next
overflow_add-next c =
    let s = c.sent_code_bits-first_sent.result.0 in
    omega (arith, c.requires.short, c.sent_in-position.ensures, c.from.ensures, counted s, at_most_one s, sent_twice c.args.rate c.args.step)

pub at-requires-clause-inside : goal.at-requires-clause-inside
at-requires-clause-inside c t =
    omega (arith, c.requires.room, c.sent_in-position.ensures, sent_next c.args.rate c.args.step, one_when c.sent_code_bits-first_sent.result.0 (sends_first c.args.rate c.args.step) c.sent_code_bits-first_sent.ensures.first t)

pub at-requires-2-clause-inside : goal.at-requires-2-clause-inside
at-requires-2-clause-inside c t =
    let s = c.sent_code_bits-first_sent.result.0 in
    omega (arith, c.requires.room, c.sent_in-position.ensures, c.from.ensures, counted s, sent_next c.args.rate c.args.step, one_same s (sends_first c.args.rate c.args.step) c.sent_code_bits-first_sent.ensures.first, one_when c.sent_code_bits-first_sent.result.1 (sends_second c.args.rate c.args.step) c.sent_code_bits-first_sent.ensures.second t)

pub returns-clause-pays : goal.returns-clause-pays
returns-clause-pays c x y hx hy =
    let rate = c.args.rate in
    let k = c.args.step in
    let v = soft_at c.args.soft.now in
    let s = c.sent_code_bits-first_sent.result.0 in
    let t = c.sent_code_bits-first_sent.result.1 in
    let j = c.sent_in-position.result in
    let next : j + c.from.result ≡ j + cond s 1 0 = omega (arith, c.from.ensures, counted s) in
    ap (λ xs. xs ++ pays c.at-2.result (paired x y)) (c.at.ensures.pays (paired x y))
    ∙ ap (λ xs. if_sent s (slice_index (pays_at 1 (v j)) (paired x y)) ++ xs) (c.at-2.ensures.pays (paired x y))
    ∙ tables_pay s t v j (j + c.from.result) next x y hx hy
    ∙ ap (λ i. penalties v i (if_sent s x ++ if_sent t y)) c.sent_in-position.ensures
    ∙ ap (λ (z : Bool). penalties v (sent_before rate k) (if_sent z x ++ if_sent t y)) c.sent_code_bits-first_sent.ensures.first
    ∙ ap (λ (z : Bool). penalties v (sent_before rate k) (if_sent (sends_first rate k) x ++ if_sent z y)) c.sent_code_bits-first_sent.ensures.second
