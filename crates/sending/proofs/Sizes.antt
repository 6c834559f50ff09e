-- The cells of a frame, and what is read past them. Assumes nothing.
use Rattle.std.proofs.Common.{◌≡◌, ℕ, ◌+◌, ◌-◌, ◌*◌, ◌/◌, ◌%◌, ◌<◌, pos, sym, ap, ◌∙◌, inl, inr, mul_assoc, mul_comm, arith}
use Rattle.std.specs.Int.{div_ceil}
use Rattle.std.proofs.lemmas.Bool.{cases_order}
use Rattle.std.proofs.lemmas.Nat.{div-mul-add, mod_below}
use native.Mathlib.Nat.{div-add-mod, div-eq_of_eq-mul_left}
use Rattle.qam.specs.declared.cell.QamCell.{QamCell}
use Rattle.sending.specs.Links.{Link, Planned, blocks, cells}

-- what the program would read past the last cell
abbrev pub no_cell : QamCell
no_cell = record { in_phase = pos 0; quadrature = pos 0; weight = 0 }

-- whole blocks of cells
pub cells_are : (L : Link) → Planned L → cells L ≡ blocks L * L.B
cells_are L p =
    let wide : 0 < 2 * L.m = let h = p.sizes.some_bits in omega arith in
    let e : blocks L * (2 * L.m * L.B) ≡ blocks L * L.B * (2 * L.m) = ap (λ (x : ℕ). blocks L * x) (mul_comm (2 * L.m) L.B) ∙ sym (mul_assoc (blocks L) L.B (2 * L.m)) in
    div-eq_of_eq-mul_left wide e

-- a quotient rounded up
pub rounded_up : (x n : ℕ) → 0 < n → div_ceil x n ≡ (x + (n - 1)) / n
rounded_up x n h =
    let d = div-add-mod x n in
    let r = mod_below x n h in
    elim (cases_order (x % n) 0) [
      | inl e ↦
          let whole : x + (n - 1) ≡ x / n * n + (n - 1) = omega (arith, d, mul_comm n (x / n)) in
          omega (arith, ap (λ y. y / n) whole, div-mul-add (x / n) n (n - 1) (omega arith))
      | inr o ↦
          let few : 0 < x % n = elim o [ inl l ↦ absurd (omega arith) | inr g ↦ g ] in
          let up : (x / n + 1) * n ≡ x / n * n + n = omega (arith, mul_comm (x / n + 1) n, mul_comm (x / n) n) in
          let whole : x + (n - 1) ≡ (x / n + 1) * n + (x % n - 1) = omega (arith, d, mul_comm n (x / n)) in
          omega (arith, ap (λ y. y / n) whole, div-mul-add (x / n + 1) n (x % n - 1) (omega arith))
    ]
