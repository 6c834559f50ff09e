-- Proofs, not definitions: each step stays in its block and is undone, wherever c columns fit. Assumes nothing.
use Rattle.std.specs.Prelude.{◌≡◌, ℕ, ◌+◌, ◌-◌, ◌*◌, ◌/◌, ◌%◌, ◌<◌, ◌≤◌, true, ◌==◌, nat_lt}
use Rattle.std.proofs.Common.{sym, ap, subst, ◌∙◌, inl, inr, arith, mul_comm, mul_left_comm, div-le_self, mul-zero, mul-pos}
use Rattle.std.proofs.Math.Nat.{mul-div-mul_left, mul-div_right, div-div-eq-div-mul, div-add-mod}
use Rattle.std.proofs.lemmas.Bool.{and_parts, ltb-true, eqb-true, cases_order}
use Rattle.interleaving.specs.Interleaving.{size}
use Rattle.interleaving.specs.Columns.{transposed_within, transposed_back, turned, turned_group, turned_within, turned_back}
use Rattle.interleaving.specs.StepPlaces.{columns_fit, first_place, first_position, second_place, second_position}

-- ---- a block that c columns fit

-- its size is c columns of q groups of m places
pub record Cut (c m b : ℕ) : Type 0 where
  pub q : ℕ
  pub wide : 0 < c
  pub tall : 0 < q
  pub whole : size m b ≡ c * (m * q)

pub cut : (c m b : ℕ) → 1 ≤ b → columns_fit c b ≡ true → Cut c m b
cut c m b hb t =
    let both = and_parts (nat_lt 0 c) ((2 * b) % c == 0) t in
    let none = eqb-true ((2 * b) % c) 0 both.1 in
    let q : ℕ = 2 * b / c in
    let rows : c * q ≡ 2 * b = omega (arith, div-add-mod (2 * b) c) in
    let wide : 0 < c = ltb-true 0 c both.0 in
    let tall : 0 < q = elim (cases_order 0 q) [ inl e ↦ absurd (omega (arith, ap (λ x. c * x) e, mul-zero c)) | inr e ↦ elim e [ inl l ↦ l | inr l ↦ absurd (omega arith) ] ] in
    let whole : size m b ≡ c * (m * q) = omega (arith, mul_left_comm c m q, ap (λ x. m * x) rows) in
    record { q = q; wide = wide; tall = tall; whole = whole }

-- ---- the first step

pub first_whole : (c m b : ℕ) → Cut c m b → size m b ≡ c * (size m b / c)
first_whole c m b k = k.whole ∙ ap (λ x. c * x) (sym (ap (λ x. x / c) k.whole ∙ mul-div_right (m * k.q) k.wide))

pub first_there : (c m b j : ℕ) → Cut c m b → j < size m b → first_place c (size m b) j < size m b
first_there c m b j k h =
    let e = first_whole c m b k in
    let d : ℕ = size m b / c in
    omega (arith, transposed_within c d j k.wide (omega arith))

pub first_tall : (c m b : ℕ) → Cut c m b → 1 ≤ m → 0 < size m b / c
first_tall c m b k hm = subst (λ x. 0 < x) (sym (ap (λ x. x / c) k.whole ∙ mul-div_right (m * k.q) k.wide)) (mul-pos (omega arith) k.tall)

pub first_back : (c m b p : ℕ) → Cut c m b → 1 ≤ m → p < size m b → first_position c (size m b) p < size m b
first_back c m b p k hm h =
    let e = first_whole c m b k in
    let d : ℕ = size m b / c in
    let f = mul_comm c d in
    omega (arith, transposed_within d c p (first_tall c m b k hm) (omega arith))

pub first_there_back : (c m b j : ℕ) → Cut c m b → j < size m b → first_position c (size m b) (first_place c (size m b) j) ≡ j
first_there_back c m b j k h =
    let e = first_whole c m b k in
    transposed_back c (size m b / c) j k.wide (omega arith)

pub first_back_there : (c m b p : ℕ) → Cut c m b → 1 ≤ m → p < size m b → first_place c (size m b) (first_position c (size m b) p) ≡ p
first_back_there c m b p k hm h =
    let e = first_whole c m b k in
    let d : ℕ = size m b / c in
    let f = mul_comm c d in
    transposed_back d c p (first_tall c m b k hm) (omega arith)

-- ---- the second step

-- the column of a place depends on its group alone
pub column_is : (c m b x : ℕ) (k : Cut c m b) → c * x / size m b ≡ x / m / k.q
column_is c m b x k = ap (λ y. c * x / y) k.whole ∙ mul-div-mul_left x (m * k.q) k.wide ∙ sym (div-div-eq-div-mul x m k.q)

pub column_same : (c m b x y : ℕ) → Cut c m b → x / m ≡ y / m → c * x / size m b ≡ c * y / size m b
column_same c m b x y k e = column_is c m b x k ∙ ap (λ z. z / k.q) e ∙ sym (column_is c m b y k)

pub column_le : (c m b x : ℕ) → Cut c m b → x < size m b → c * x / size m b ≤ size m b
column_le c m b x k h = omega (arith, column_is c m b x k, div-le_self (x / m) k.q, div-le_self x m)

pub second_whole : (c m b : ℕ) (k : Cut c m b) → size m b ≡ m * (c * k.q)
second_whole c m b k = k.whole ∙ mul_left_comm c m k.q

pub second_turned : (c m b x y : ℕ) → y ≤ size m b → m * (x / m) + (x + size m b - y) % m ≡ turned m (size m b - y) x
second_turned c m b x y h =
    let e : x + size m b - y ≡ x + (size m b - y) = omega arith in
    ap (λ z. m * (x / m) + z % m) e

pub second_there : (c m b j : ℕ) → Cut c m b → 1 ≤ m → j < size m b → second_place c m (size m b) j < size m b
second_there c m b j k hm h =
    let e = second_whole c m b k in
    let s : ℕ = size m b - c * j / size m b in
    let is = second_turned c m b j (c * j / size m b) (column_le c m b j k h) in
    omega (arith, turned_within m s j (c * k.q) (omega arith) (omega arith))

pub second_back : (c m b p : ℕ) → Cut c m b → 1 ≤ m → p < size m b → second_position c m (size m b) p < size m b
second_back c m b p k hm h =
    let e = second_whole c m b k in
    omega (arith, turned_within m (c * p / size m b) p (c * k.q) (omega arith) (omega arith))

pub second_there_back : (c m b j : ℕ) → Cut c m b → 1 ≤ m → j < size m b → second_position c m (size m b) (second_place c m (size m b) j) ≡ j
second_there_back c m b j k hm h =
    let t : ℕ = c * j / size m b in
    let le : t ≤ size m b = column_le c m b j k h in
    let s : ℕ = size m b - t in
    let x : ℕ = turned m s j in
    let is : second_place c m (size m b) j ≡ x = second_turned c m b j t le in
    let same : c * x / size m b ≡ t = column_same c m b x j k (turned_group m s j (omega arith)) in
    let sum : s + t ≡ m * (c * k.q) = omega (arith, second_whole c m b k) in
    ap (second_position c m (size m b)) is ∙ ap (λ z. turned m z x) same ∙ turned_back m s t (c * k.q) j (omega arith) sum

pub second_back_there : (c m b p : ℕ) → Cut c m b → 1 ≤ m → p < size m b → second_place c m (size m b) (second_position c m (size m b) p) ≡ p
second_back_there c m b p k hm h =
    let t : ℕ = c * p / size m b in
    let le : t ≤ size m b = column_le c m b p k h in
    let s : ℕ = size m b - t in
    let x : ℕ = turned m t p in
    let same : c * x / size m b ≡ t = column_same c m b x p k (turned_group m t p (omega arith)) in
    let sum : t + s ≡ m * (c * k.q) = omega (arith, second_whole c m b k) in
    ap (λ z. m * (x / m) + (x + size m b - z) % m) same ∙ second_turned c m b x t le ∙ turned_back m t s (c * k.q) p (omega arith) sum
