-- The states of the alternating code are even and odd in turn. Assumes nothing.
use Rattle.std.proofs.Common.{◌≡◌, ℕ, suc, ◌+◌, ◌*◌, ◌%◌, List, [], ◌∷◌, length, sym, ap, ◌∙◌, arith}
use Rattle.std.proofs.Math.Nat.{add-mul-mod_self_left, div-add-mod, mod-add-mod}
use Rattle.std.proofs.Math.Pow.{mod-mod-pow}
use Rattle.coding.proofs.Sent.{length_closing}
use Rattle.paths.specs.Paths.{end_from}
use Rattle.paths.specs.Endings.{closing}
use Rattle.alternating.specs.Alternating.{CannotBeClosed, alternating}

-- a step turns the parity
step_turns : (s b : ℕ) → ((s + 1 + 2 * b) % 4) % 2 ≡ (s + 1) % 2
step_turns s b = mod-mod-pow (s + 1 + 2 * b) 1 1 ∙ add-mul-mod_self_left (s + 1) 2 b

ends_parity : (s : ℕ) (bs : List ℕ) → end_from alternating s bs % 2 ≡ (s + length bs) % 2
ends_parity s [] = let e : s ≡ s + 0 = omega arith in ap (λ x. x % 2) e
ends_parity s (b ∷ bs) =
    let t : ℕ = (s + 1 + 2 * b) % 4 in
    let e : s + 1 + length bs ≡ s + suc (length bs) = omega arith in
    ends_parity t bs ∙ sym (mod-add-mod t 2 (length bs)) ∙ ap (λ x. (x + length bs) % 2) (step_turns s b) ∙ mod-add-mod (s + 1) 2 (length bs) ∙ ap (λ x. x % 2) e

-- from 0 the way back is of even length, and from 1 of odd length
pub cannot_be_closed : CannotBeClosed
cannot_be_closed E laws =
    let n = E.memory in
    let even : 0 ≡ (0 + n) % 2 =
    ap (λ x. x % 2) (sym (laws.home 0 (omega arith))) ∙ ends_parity 0 (closing alternating E n 0) ∙ ap (λ x. (0 + x) % 2) (length_closing alternating E n 0) in
    let odd : 0 ≡ (1 + n) % 2 =
    ap (λ x. x % 2) (sym (laws.home 1 (omega arith))) ∙ ends_parity 1 (closing alternating E n 1) ∙ ap (λ x. (1 + x) % 2) (length_closing alternating E n 1) in
    omega (arith, div-add-mod (0 + n) 2, div-add-mod (1 + n) 2)
