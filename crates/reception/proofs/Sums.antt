-- Sums of penalties, and totals that are sums. Assumes nothing.
use Rattle.std.proofs.Common.{◌≡◌, ℕ, ◌+◌, ◌≤◌, List, [], ◌∷◌, length, ℤ, sym, ap, ◌∙◌, arith}
use Rattle.std.proofs.lemmas.Bool.{ltb-false}
use Rattle.paths.specs.Orders.{IsSum, Metric, adds}
use Rattle.paths.specs.Paths.{Inputs}
use Rattle.coding.specs.Encoding.{Coding, sent_bits, steps_for}
use Rattle.coding.specs.Puncturing.{sent_before}
use Rattle.coding.proofs.Sent.{sent_bits_size}
use Rattle.trellis.specs.Penalties.{penalties, total}
use Rattle.trellis.specs.Nearest.{LeastTotal}

abbrev pub summed : List ℕ → ℕ
summed [] = 0
summed (p ∷ ps) = p + summed ps

-- what bits pay in all, at the positions from j on
abbrev pub paid : (ℕ → ℤ) → ℕ → List ℕ → ℕ
paid v j cs = summed (penalties v j cs)

pub adds_sum : {X : Type 0} (M : Metric X) (S : IsSum M) (t : X) (ps : List ℕ) → S.size (adds M t ps) ≡ S.size t + summed ps
adds_sum M S t [] = omega arith
adds_sum M S t (p ∷ ps) = omega (arith, adds_sum M S (M.add t p) ps, S.adds_up t p)

total_sum : {X : Type 0} (Q : Coding) (M : Metric X) (S : IsSum M) (v : ℕ → ℤ) (ms : List ℕ) → S.size (total Q M v ms) ≡ paid v 0 (sent_bits Q ms)
total_sum Q M S v ms = omega (arith, adds_sum M S M.start (penalties v 0 (sent_bits Q ms)), S.from_zero)

-- the message of the least total pays the least sum
pub least_sum : {X : Type 0} (Q : Coding) (K : ℕ) (M : Metric X) (S : IsSum M) (v : ℕ → ℤ) (ms rs : List ℕ) (t : X) → LeastTotal Q K M v ms t → Inputs K rs → paid v 0 (sent_bits Q ms) ≤ paid v 0 (sent_bits Q rs)
least_sum Q K M S v ms rs t least i =
    let low = ltb-false (S.size (total Q M v rs)) (S.size t) (sym (S.by_size (total Q M v rs) t) ∙ least.not_lower rs i) in
    omega (arith, total_sum Q M S v ms, total_sum Q M S v rs, ap S.size least.own)

-- messages of one length send equally many bits
pub as_many : (Q : Coding) (K : ℕ) (ms rs : List ℕ) → Inputs K ms → Inputs K rs → length (sent_bits Q ms) ≡ length (sent_bits Q rs)
as_many Q K ms rs i j = sent_bits_size Q ms ∙ ap (λ n. sent_before Q.rate (steps_for Q n)) (i.size ∙ sym j.size) ∙ sym (sent_bits_size Q rs)
