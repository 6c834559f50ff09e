-- To close a code takes at least one step. Assumes nothing.
use Rattle.std.proofs.Common.{◌≡◌, ℕ, zero, suc, ◌<◌, refl, subst, arith}
use Rattle.paths.specs.Codes.{Code}
use Rattle.paths.specs.Paths.{end_from}
use Rattle.paths.specs.Endings.{Closer, CloserLaws, closing}
use Rattle.paths.specs.Theorems.{ClosingTakesSteps}

-- where no input leads to 0, every state is 0
all_zero : (C : Code) (E : Closer) (n : ℕ) → n ≡ E.memory → n ≡ 0 → CloserLaws C E → (s : ℕ) → s < C.states → s ≡ 0
all_zero C E zero m z laws s l = subst (λ x. end_from C s (closing C E x s) ≡ 0 → s ≡ 0) m (λ e. e) (laws.home s l)
all_zero C E (suc n) m z laws s l = absurd (omega arith)

-- two states lead into state 0, and one of them is not 0
pub closing_takes_steps : ClosingTakesSteps
closing_takes_steps C E code laws = some E.memory refl
  where
    some : (n : ℕ) → n ≡ E.memory → 0 < n
    some zero m =
        let low = code.lower_enters 0 code.some in
        let high = code.higher_enters 0 code.some in
        let z = all_zero C E 0 m refl laws (C.higher 0).from high.from_state in
        absurd (omega (arith, code.apart 0 code.some))
    some (suc n) m = omega arith
