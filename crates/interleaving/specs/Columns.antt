-- Proofs, not definitions: tables read by columns, and groups of places that are turned. Assumes nothing.
use Rattle.std.specs.Prelude.{◌≡◌, ℕ, ◌+◌, ◌*◌, ◌/◌, ◌%◌, ◌<◌}
use Rattle.std.proofs.Common.{sym, ap, ◌∙◌, arith, mul_comm}
use Rattle.std.proofs.Math.Nat.{div-add-mod, mod-add-mod, add-mul-mod_self_left}
use Rattle.std.proofs.lemmas.Nat.{mul-add-lt, div-mul-add, mod-mul-add, div_below, mod_below}

-- ---- a table with c columns and d rows, written row by row and read column by column

abbrev pub transposed : ℕ → ℕ → ℕ → ℕ
transposed c d j = d * (j % c) + j / c

pub transposed_within : (c d j : ℕ) → 0 < c → j < c * d → transposed c d j < c * d
transposed_within c d j hc h =
    let e = mul_comm c d in
    let row : j / c < d = div_below j c d hc (omega arith) in
    omega (arith, mul-add-lt (j % c) d (j / c) c (mod_below j c hc) row)

-- the table with c and d exchanged undoes it
pub transposed_back : (c d j : ℕ) → 0 < c → j < c * d → transposed d c (transposed c d j) ≡ j
transposed_back c d j hc h =
    let e = mul_comm c d in
    let row : j / c < d = div_below j c d hc (omega arith) in
    let swap : d * (j % c) + j / c ≡ (j % c) * d + j / c = omega arith in
    let low : (d * (j % c) + j / c) % d ≡ j / c = ap (λ x. x % d) swap ∙ mod-mul-add (j % c) d (j / c) row in
    let high : (d * (j % c) + j / c) / d ≡ j % c = ap (λ x. x / d) swap ∙ div-mul-add (j % c) d (j / c) row in
    rw (low, high, div-add-mod)

-- ---- groups of m places, each turned by s

abbrev pub turned : ℕ → ℕ → ℕ → ℕ
turned m s j = m * (j / m) + (j + s) % m

pub turned_group : (m s j : ℕ) → 0 < m → turned m s j / m ≡ j / m
turned_group m s j hm =
    let swap : m * (j / m) + (j + s) % m ≡ (j / m) * m + (j + s) % m = omega arith in
    ap (λ x. x / m) swap ∙ div-mul-add (j / m) m ((j + s) % m) (mod_below (j + s) m hm)

pub turned_place : (m s j : ℕ) → 0 < m → turned m s j % m ≡ (j + s) % m
turned_place m s j hm =
    let swap : m * (j / m) + (j + s) % m ≡ (j / m) * m + (j + s) % m = omega arith in
    ap (λ x. x % m) swap ∙ mod-mul-add (j / m) m ((j + s) % m) (mod_below (j + s) m hm)

pub turned_within : (m s j g : ℕ) → 0 < m → j < m * g → turned m s j < m * g
turned_within m s j g hm h =
    let e = mul_comm m g in
    let group : j / m < g = div_below j m g hm (omega arith) in
    omega (arith, mul-add-lt (j / m) m ((j + s) % m) g group (mod_below (j + s) m hm))

-- two turns that come to a multiple of m undo each other
pub turned_back : (m s t k j : ℕ) → 0 < m → s + t ≡ m * k → turned m t (turned m s j) ≡ j
turned_back m s t k j hm whole =
    let x : ℕ = turned m s j in
    let sum : (j + s) + t ≡ j + m * k = omega arith in
    let rest : (x + t) % m ≡ j % m =
    sym (mod-add-mod x m t) ∙ ap (λ y. (y + t) % m) (turned_place m s j hm) ∙ mod-add-mod (j + s) m t ∙ ap (λ y. y % m) sum ∙ add-mul-mod_self_left j m k in
    rw (turned_group m s j hm, rest, div-add-mod)
