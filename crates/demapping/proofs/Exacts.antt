-- The exact soft bit from a table of the squares. Assumes nothing.
use Rattle.std.proofs.Common.{◌≡◌, ℕ, ◌≤◌, Bool, true, false, cond, leb, List, [], ◌∷◌, length, get_or, ℤ, pos, refl, ap, ◌∙◌, arith}
use lib.Signed.{quot_z}
use Rattle.std.proofs.lemmas.Bool.{leb-true}
use Rattle.softbits.specs.SoftBits.{apart, divisor, exact, lead_of}
use Rattle.softbits.proofs.Leasts.{lead_same}
use Rattle.demapping.specs.Demappings.{exact_demapping}
use Rattle.demapping.specs.Steps.{Squares, at, exact_from}

cond_same : (b : Bool) (x y z : ℤ) → (b ≡ true → x ≡ y) → cond b x z ≡ cond b y z
cond_same true x y z f = f refl
cond_same false x y z f = refl

-- of whatever reading the table has the squares
pub exact_bit : (m k : ℕ) (t : List ℕ) (z : ℤ) → 1 ≤ k → z ≡ exact_from t m k → (r : ℤ) → Squares m r t → z ≡ exact_demapping.answer m k r
unfolding exact_demapping
exact_bit m k t z o v r s =
    v ∙ cond_same (leb k m) (quot_z (lead_of m k (at t)) (pos divisor)) (exact m k r) (pos 0)
    (λ l. ap (λ (x : ℤ). quot_z x (pos divisor)) (lead_same m k (at t) (apart m r) o (leb-true k m l) s.each))

-- four numbers make the list of them
pub four : (a b c d : ℤ) (ys : List ℤ) → length ys ≡ 4 → get_or ys 0 (pos 0) ≡ a → get_or ys 1 (pos 0) ≡ b → get_or ys 2 (pos 0) ≡ c → get_or ys 3 (pos 0) ≡ d → ys ≡ a ∷ b ∷ c ∷ d ∷ []
four a b c d [] l e f g h = absurd (omega (arith, l))
four a b c d (x ∷ []) l e f g h = absurd (omega (arith, l))
four a b c d (x ∷ y ∷ []) l e f g h = absurd (omega (arith, l))
four a b c d (x ∷ y ∷ z ∷ []) l e f g h = absurd (omega (arith, l))
four a b c d (x ∷ y ∷ z ∷ w ∷ []) l e f g h = cc
four a b c d (x ∷ y ∷ z ∷ w ∷ v ∷ vs) l e f g h = absurd (omega (arith, l))
