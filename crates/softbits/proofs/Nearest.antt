-- near(c) is the squared distance of a nearest level whose label bit k is c. Assumes nothing.
use Rattle.std.proofs.Common.{◌≡◌, ℕ, zero, suc, ◌^◌, ◌<◌, ◌≤◌, Bool, eqb, ◌⊎◌, refl, inl, inr, arith}
use Rattle.std.proofs.lemmas.Bool.{eqb-true, eq-eqb}
use Rattle.qam.specs.Levels.{Axis, BitOf, label_bit}
use Rattle.softbits.specs.SoftBits.{apart, first_with, near}
use Rattle.softbits.specs.Theorems.{Nearest, AllNearest}
use Rattle.softbits.proofs.Bits.{by_bit}
use Rattle.softbits.proofs.Leasts.{Met, first_below, least_below, least_met}

-- the level that the search starts at has the bit
first_has : (c m k : ℕ) → c < 2 → Axis m → BitOf m k → label_bit m k (first_with m k c) ≡ c
first_has zero m k h a b = by_bit (λ m k. label_bit m k (first_with m k 0) ≡ 0) (record { one_1 = refl; two_1 = refl; two_2 = refl; three_1 = refl; three_2 = refl; three_3 = refl; four_1 = refl; four_2 = refl; four_3 = refl; four_4 = refl }) m k a b
first_has (suc zero) m k h a b = by_bit (λ m k. label_bit m k (first_with m k 1) ≡ 1) (record { one_1 = refl; two_1 = refl; two_2 = refl; three_1 = refl; three_2 = refl; three_3 = refl; four_1 = refl; four_2 = refl; four_3 = refl; four_4 = refl }) m k a b
first_has (suc (suc c)) m k h a b = absurd (omega arith)

pub near_is_nearest : AllNearest near
unfolding AllNearest
near_is_nearest m k c r a b h = go (least_met p f (f s) (2 ^ m))
  where
    f : ℕ → ℕ
    f = apart m r

    p : ℕ → Bool
    p i = eqb (label_bit m k i) c

    s : ℕ
    s = first_with m k c

    below : (i : ℕ) → i < 2 ^ m → label_bit m k i ≡ c → near m k c r ≤ apart m r i
    below i l e = least_below p f (f s) (2 ^ m) i l (eq-eqb (label_bit m k i) c e)

    go : (near m k c r ≡ f s) ⊎ Met p f (2 ^ m) (near m k c r) → Nearest m k c r (near m k c r)
    go (inl e) = record { number = s; inside = first_below c m k h b.first b.last; has = first_has c m k h a b; reached = e; least = below }
    go (inr q) = record { number = q.number; inside = q.inside; has = eqb-true (label_bit m k q.number) c q.passes; reached = q.value; least = below }
