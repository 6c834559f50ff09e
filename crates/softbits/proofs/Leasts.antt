-- The least of some numbers: one number more, and that it is the least. Assumes nothing.
use Rattle.std.proofs.Common.{◌≡◌, ℕ, zero, suc, ◌+◌, ◌-◌, ◌^◌, ◌<◌, ◌≤◌, min, Bool, true, false, ◌⊎◌, sym, refl, ap, ◌∙◌, inl, inr, not-suc-le-zero, add-one, arith, pow_pos, pow_mono}
use lib.Pow.{pow-lt}
use Rattle.std.proofs.lemmas.Bool.{both_ways}
use Rattle.softbits.specs.SoftBits.{first_with, least, least_with, lead_of, lesser}

lesser_is : (t : Bool) (x y new : ℕ) → (t ≡ true → new ≡ min x y) → (t ≡ false → new ≡ y) → new ≡ lesser t x y
lesser_is true x y new f g = f refl
lesser_is false x y new f g = g refl

-- the number n passes the test
pub more_took : (p : ℕ → Bool) (f : ℕ → ℕ) (top n best new : ℕ) → p n ≡ true → best ≡ least p f top n → new ≡ min best (f n) → new ≡ least p f top (n + 1)
more_took p f top n best new t h i = rw add-one (lesser_is (p n) (f n) (least p f top n) new (λ _. omega arith) (λ e. absurd (both_ways (p n) e t)))

-- it fails the test
pub more_kept : (p : ℕ → Bool) (f : ℕ → ℕ) (top n best new : ℕ) → p n ≡ false → best ≡ least p f top n → new ≡ best → new ≡ least p f top (n + 1)
more_kept p f top n best new t h i = rw add-one (lesser_is (p n) (f n) (least p f top n) new (λ e. absurd (both_ways (p n) t e)) (λ _. cc))

-- the least reads f below n alone
least_same : (p : ℕ → Bool) (f g : ℕ → ℕ) (s t n : ℕ) → s ≡ t → ((i : ℕ) → i < n → f i ≡ g i) → least p f s n ≡ least p g t n
least_same p f g s t zero e h = e
least_same p f g s t (suc n) e h =
    let u : f n ≡ g n = h n (omega arith) in
    let v : least p f s n ≡ least p g t n = least_same p f g s t n e (λ i l. h i (omega arith)) in
    cc

half_few : (m k : ℕ) → m ≤ 4 → 1 ≤ k → 2 ^ (m - k) ≤ 8
half_few m k h g = let e : m - k ≤ 3 = omega arith in pow_mono e

pub first_few : (c m k : ℕ) → c < 2 → m ≤ 4 → 1 ≤ k → first_with m k c < 16
first_few zero m k h g l = grind (arith, half_few m k g l)
first_few (suc zero) m k h g l = grind (arith, half_few m k g l)
first_few (suc (suc c)) m k h g l = absurd (omega arith)

pub first_below : (c m k : ℕ) → c < 2 → 1 ≤ k → k ≤ m → first_with m k c < 2 ^ m
first_below zero m k h o l = grind (arith, pow_pos m)
first_below (suc zero) m k h o l = let e : m - k < m = omega arith in grind (arith, pow-lt e)
first_below (suc (suc c)) m k h o l = absurd (omega arith)

least_with_same : (m k c : ℕ) (f g : ℕ → ℕ) → c < 2 → 1 ≤ k → k ≤ m → ((i : ℕ) → i < 2 ^ m → f i ≡ g i) → least_with m k c f ≡ least_with m k c g
least_with_same m k c f g l o h e = least_same _ f g (f (first_with m k c)) (g (first_with m k c)) (2 ^ m) (e (first_with m k c) (first_below c m k l o h)) e

-- numbers that are the same at the levels have the same lead
pub lead_same : (m k : ℕ) (f g : ℕ → ℕ) → 1 ≤ k → k ≤ m → ((i : ℕ) → i < 2 ^ m → f i ≡ g i) → lead_of m k f ≡ lead_of m k g
lead_same m k f g o h e =
    let u : least_with m k 0 f ≡ least_with m k 0 g = least_with_same m k 0 f g (omega arith) o h e in
    let v : least_with m k 1 f ≡ least_with m k 1 g = least_with_same m k 1 f g (omega arith) o h e in
    cc

lesser_below : (t : Bool) (x y : ℕ) → (lesser t x y ≤ y) × (t ≡ true → lesser t x y ≤ x)
lesser_below true x y = (omega arith, λ e. omega arith)
lesser_below false x y = (omega arith, λ e. grind arith)

lesser_one : (t : Bool) (x y : ℕ) → (lesser t x y ≡ y) ⊎ ((t ≡ true) × (lesser t x y ≡ x))
lesser_one true x y = grind arith
lesser_one false x y = inl refl

last : (i n : ℕ) → i < suc n → (i < n) ⊎ (i ≡ n)
last i n h = grind arith

pub least_below : (p : ℕ → Bool) (f : ℕ → ℕ) (top n i : ℕ) → i < n → p i ≡ true → least p f top n ≤ f i
least_below p f top zero i h e = absurd (not-suc-le-zero h)
least_below p f top (suc n) i h e = go (λ l. least_below p f top n i l e) (last i n h)
  where
    go : (i < n → least p f top n ≤ f i) → (i < n) ⊎ (i ≡ n) → lesser (p n) (f n) (least p f top n) ≤ f i
    go w (inl l) = omega (arith, (lesser_below (p n) (f n) (least p f top n)).0, w l)
    go w (inr q) =
        let t : p n ≡ true = ap p (sym q) ∙ e in
        let g : f i ≡ f n = ap f q in
        omega (arith, (lesser_below (p n) (f n) (least p f top n)).1 t)

-- a number below n that passes the test and at which f is v
pub record Met (p : ℕ → Bool) (f : ℕ → ℕ) (n v : ℕ) : Type 0 where
  pub number : ℕ
  pub inside : number < n
  pub passes : p number ≡ true
  pub value : v ≡ f number

-- the least is the top, or met below n
pub least_met : (p : ℕ → Bool) (f : ℕ → ℕ) (top n : ℕ) → (least p f top n ≡ top) ⊎ Met p f n (least p f top n)
least_met p f top zero = inl refl
least_met p f top (suc n) = go (lesser_one (p n) (f n) (least p f top n)) (least_met p f top n)
  where
    now : ℕ
    now = lesser (p n) (f n) (least p f top n)

    go : (now ≡ least p f top n) ⊎ ((p n ≡ true) × (now ≡ f n)) → (least p f top n ≡ top) ⊎ Met p f n (least p f top n) → (now ≡ top) ⊎ Met p f (suc n) now
    go (inl e) (inl q) = inl (e ∙ q)
    go (inl e) (inr q) = inr (record { number = q.number; inside = omega (arith, q.inside); passes = q.passes; value = e ∙ q.value })
    go (inr e) q = inr (record { number = n; inside = omega arith; passes = e.0; value = e.1 })
