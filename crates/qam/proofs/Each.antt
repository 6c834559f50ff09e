-- A test at each number below a bound. Assumes nothing.
use Rattle.std.proofs.Common.{◌≡◌, ℕ, zero, suc, ◌<◌, Bool, true, ◌&&◌, ap, ◌∙◌, inl, inr, arith}
use Rattle.std.proofs.lemmas.Bool.{and_parts, cases_order}

-- the test f passes at each number below n
unfoldable pub every : (ℕ → Bool) → ℕ → Bool
every f zero = true
every f (suc n) = f n && every f n

pub every_at : (f : ℕ → Bool) (n : ℕ) → every f n ≡ true → (k : ℕ) → k < n → f k ≡ true
unfolding every
every_at f zero h k l = absurd (omega arith)
every_at f (suc n) h k l =
    let p = and_parts (f n) (every f n) h in
    elim (cases_order k n) [ inl e ↦ ap f e ∙ p.0 | inr e ↦ elim e [ inl i ↦ every_at f n p.1 k i | inr i ↦ absurd (omega arith) ] ]
