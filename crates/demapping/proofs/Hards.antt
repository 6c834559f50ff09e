-- The hard soft bits are the signs of the exact ones, also past bit m. Assumes nothing.
use Rattle.std.proofs.Common.{◌≡◌, ℕ, ◌<◌, Bool, true, false, cond, leb, List, length, get_or, ℤ, pos, refl, ap, ◌∙◌, arith}
use Rattle.softbits.specs.SoftBits.{exact, hard_of}
use Rattle.softbits.specs.Demapping.{answers}
use Rattle.demapping.specs.Demappings.{exact_demapping, hard_demapping}
use Rattle.demapping.proofs.Exacts.{four}

hard_cond : (b : Bool) (x : ℤ) → hard_of (cond b x (pos 0)) ≡ cond b (hard_of x) (pos 0)
hard_cond true x = refl
hard_cond false x = refl

hard_answer : (m k : ℕ) (r : ℤ) → hard_of (exact_demapping.answer m k r) ≡ hard_demapping.answer m k r
unfolding exact_demapping hard_demapping
hard_answer m k r = hard_cond (leb k m) (exact m k r)

pub hard_answers : (m : ℕ) (r : ℤ) (xs ys : List ℤ) → xs ≡ answers exact_demapping m r → length ys ≡ 4 → ((i : ℕ) → i < 4 → get_or ys i (pos 0) ≡ hard_of (get_or xs i (pos 0))) → ys ≡ answers hard_demapping m r
hard_answers m r xs ys e l h =
    let at = λ (i : ℕ) (xs : List ℤ). hard_of (get_or xs i (pos 0)) in
    four _ _ _ _ ys l
    (h 0 (omega arith) ∙ ap (at 0) e ∙ hard_answer m 1 r)
    (h 1 (omega arith) ∙ ap (at 1) e ∙ hard_answer m 2 r)
    (h 2 (omega arith) ∙ ap (at 2) e ∙ hard_answer m 3 r)
    (h 3 (omega arith) ∙ ap (at 3) e ∙ hard_answer m 4 r)
