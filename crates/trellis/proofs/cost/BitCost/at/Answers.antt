-- `BitCost::at` meets its contract: what is there pays as the soft number says.
use Rattle.std.proofs.Common.{rules, ◌≡◌, ℕ, [], ◌∷◌, Bool, true, false, List, slice_index, is_some, Some, None, Option, refl, ap}
use Rattle.std.specs.Prelude.{IfSome}
use Rattle.coding.specs.Encoding.{if_sent}
use Rattle.trellis.specs.declared.cost.BitCost.{BitCost}
use Rattle.trellis.specs.Penalties.{pays_at, soft_at}
use Rattle.trellis.specs.Steps.{pays}
use Rattle.trellis.proofs.cost.BitCost.at.Goals as goal

pays_when : (o : Option BitCost) (sent : Bool) (xs : List ℕ) (P : BitCost → Type 0) → ((b : BitCost) → P b → b.by_pair ≡ xs) → is_some o ≡ sent → IfSome o P → (e : ℕ) → pays o e ≡ if_sent sent (slice_index xs e)
pays_when None true xs P gives h is e = absurd (cc)
pays_when None false xs P gives h is e = refl
pays_when (Some b) true xs P gives h is e = ap (λ ys. slice_index ys e ∷ []) (gives b is)
pays_when (Some b) false xs P gives h is e = absurd (cc)

pub returns-clause-pays : goal.returns-clause-pays
returns-clause-pays c e = pays_when c.then.result c.args.sent (pays_at c.args.place (soft_at c.args.soft.now c.args.position)) _ (λ b is. search rules) c.then.ensures.variant c.then.ensures.some e
