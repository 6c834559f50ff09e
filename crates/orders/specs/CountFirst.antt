-- Totals that are the count of penalties above 0, and then their sum. Assumes nothing.
use Rattle.std.specs.Prelude.{◌≡◌, ℕ, ◌+◌, ◌<◌, ◌≤◌, Bool, true, false, cond, ◌&&◌, ◌||◌, ◌⊎◌, ◌==◌, nat_lt}
use Rattle.std.proofs.Common.{inl, inr, arith}
use Rattle.std.proofs.lemmas.Bool.{ltb-true, ltb-false, eqb-true, eqb-false, lt-ltb, le-ltb, eq-eqb, ne_eqb, and_parts, and_from, and_left, and_right, and_cases, or_cases, or_parts, or_from, or_left, or_right, cases_lt}
use Rattle.paths.specs.Orders.{Metric, OrderLaws, Ordered}

-- the smaller count, and of equal counts the smaller sum
abbrev pub lower : ℕ × ℕ → ℕ × ℕ → Bool
lower t u = nat_lt t.0 u.0 || (t.0 == u.0 && nat_lt t.1 u.1)

abbrev pub counts : Metric (ℕ × ℕ)
counts = record { start = (0, 0); add = λ t p. (t.0 + cond (nat_lt 0 p) 1 0, t.1 + p); lt = lower }

-- ---- the test as a fact

-- t comes before u
abbrev Before : ℕ × ℕ → ℕ × ℕ → Type 0
Before t u = (t.0 < u.0) ⊎ ((t.0 ≡ u.0) × (t.1 < u.1))

-- u does not come after t
abbrev NotBefore : ℕ × ℕ → ℕ × ℕ → Type 0
NotBefore t u = (u.0 < t.0) ⊎ ((t.0 ≡ u.0) × (u.1 ≤ t.1))

before : (t u : ℕ × ℕ) → lower t u ≡ true → Before t u
before t u e =
    elim (or_cases (nat_lt t.0 u.0) (t.0 == u.0 && nat_lt t.1 u.1) e) [
      | inl a ↦ inl (ltb-true t.0 u.0 a)
      | inr b ↦ let p = and_parts (t.0 == u.0) (nat_lt t.1 u.1) b in inr (eqb-true t.0 u.0 p.0, ltb-true t.1 u.1 p.1)
    ]

is_before : (t u : ℕ × ℕ) → Before t u → lower t u ≡ true
is_before t u (inl a) = or_left (nat_lt t.0 u.0) (t.0 == u.0 && nat_lt t.1 u.1) (lt-ltb t.0 u.0 a)
is_before t u (inr b) =
    or_right (nat_lt t.0 u.0) (t.0 == u.0 && nat_lt t.1 u.1) (and_from (t.0 == u.0) (nat_lt t.1 u.1) (eq-eqb t.0 u.0 b.0) (lt-ltb t.1 u.1 b.1))

not_before : (t u : ℕ × ℕ) → lower t u ≡ false → NotBefore t u
not_before t u e =
    let p = or_parts (nat_lt t.0 u.0) (t.0 == u.0 && nat_lt t.1 u.1) e in
    let le : u.0 ≤ t.0 = ltb-false t.0 u.0 p.0 in
    elim (and_cases (t.0 == u.0) (nat_lt t.1 u.1) p.1) [
      | inl a ↦ elim (cases_lt u.0 t.0) [ inl l ↦ inl l | inr g ↦ absurd (eqb-false t.0 u.0 a (omega arith)) ]
      | inr b ↦ elim (cases_lt u.0 t.0) [ inl l ↦ inl l | inr g ↦ inr (omega arith, ltb-false t.1 u.1 b) ]
    ]

is_not_before : (t u : ℕ × ℕ) → NotBefore t u → lower t u ≡ false
is_not_before t u (inl a) =
    or_from (nat_lt t.0 u.0) (t.0 == u.0 && nat_lt t.1 u.1) (le-ltb t.0 u.0 (omega arith)) (and_left (t.0 == u.0) (nat_lt t.1 u.1) (ne_eqb t.0 u.0 (λ e. omega arith)))
is_not_before t u (inr b) =
    or_from (nat_lt t.0 u.0) (t.0 == u.0 && nat_lt t.1 u.1) (le-ltb t.0 u.0 (omega (arith, b.0))) (and_right (t.0 == u.0) (nat_lt t.1 u.1) (le-ltb t.1 u.1 b.1))

-- ---- the laws

turns : (t u : ℕ × ℕ) → Before t u → NotBefore u t
turns t u (inl a) = inl a
turns t u (inr b) = inr (omega arith, omega arith)

chains : (t u v : ℕ × ℕ) → NotBefore t u → NotBefore u v → NotBefore t v
chains t u v (inl a) (inl c) = inl (omega arith)
chains t u v (inl a) (inr d) = inl (omega arith)
chains t u v (inr b) (inl c) = inl (omega arith)
chains t u v (inr b) (inr d) = inr (omega arith, omega arith)

meets : (t u : ℕ × ℕ) → NotBefore t u → NotBefore u t → t ≡ u
meets t u (inl a) (inl c) = absurd (omega arith)
meets t u (inl a) (inr d) = absurd (omega arith)
meets t u (inr b) (inl c) = absurd (omega arith)
meets t u (inr b) (inr d) = let p : t.0 ≡ u.0 = b.0 in let q : t.1 ≡ u.1 = omega arith in pair t.0 t.1 u.0 u.1 p q
  where
    pair : (a b c d : ℕ) → a ≡ c → b ≡ d → ◌≡◌ {A = ℕ × ℕ} (a, b) (c, d)
    pair a b c d p q = cc

adds : (t u : ℕ × ℕ) (p : ℕ) → Before t u → Before (counts.add t p) (counts.add u p)
adds t u p (inl a) = inl (omega arith)
adds t u p (inr b) = inr (omega arith, omega arith)

pub counts_laws : OrderLaws counts
counts_laws = record {
  one_way = λ t u r q e. is_not_before u t (turns t u (before t u e));
  chain = λ t u v r q p e d. is_not_before t v (chains t u v (not_before t u e) (not_before u v d));
  same = λ t u r q e d. meets t u (not_before t u e) (not_before u t d);
  strict = λ t u p l r q e. is_before (counts.add t p) (counts.add u p) (adds t u p (before t u e));
}

abbrev pub by_count : Ordered (ℕ × ℕ)
by_count = record { metric = counts; lawful = counts_laws }
