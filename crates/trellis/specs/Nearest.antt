-- What the search promises: the nearest message, which is the only one, or the first refusal that is met. Assumes nothing.
use Rattle.std.specs.Prelude.{◌≡◌, ℕ, ◌≤◌, false, ◌||◌, ◌≢◌, List, [], ◌∷◌, take, drop, ℤ, Some, None, Ok, Err, Option, Result, nat_lt}
use Rattle.paths.specs.Codes.{Trellis}
use Rattle.paths.specs.Paths.{Inputs}
use Rattle.paths.specs.Endings.{Tail, TailLaws}
use Rattle.paths.specs.Orders.{Metric, Ordered, most_penalties}
use Rattle.paths.specs.Best.{Earlier}
use Rattle.coding.specs.declared.puncture.Rate.{Rate}
use Rattle.coding.specs.Puncturing.{sent_before}
use Rattle.coding.specs.Encoding.{Coding, code_of, sent_for, steps_for, trail_of}
use Rattle.refusals.specs.declared.Refusal.{Refusal}
use Rattle.refusals.specs.Numbers.{number, outside, first_met}
use Rattle.trellis.specs.Penalties.{AllLimited, total}

abbrev pub coded : Trellis → Tail → Rate → Coding
coded R T rate = record { trellis = R; tail = T; rate = rate }

-- Of all messages of K bits, ms has the least total, t; of those with the same total, it has the earliest trail.
pub record LeastTotal {X : Type 0} (Q : Coding) (K : ℕ) (M : Metric X) (v : ℕ → ℤ) (ms : List ℕ) (t : X) : Type 0 where
  pub bits : Inputs K ms
  pub own : total Q M v ms ≡ t
  pub not_lower : (rs : List ℕ) → Inputs K rs → M.lt (total Q M v rs) t ≡ false
  pub tie : (rs : List ℕ) → Inputs K rs → rs ≢ ms → total Q M v rs ≡ t → Earlier (trail_of Q ms) (trail_of Q rs)

-- two messages that are such are one, and so are their totals
abbrev pub OneNearest : Type 0 → Type 0
OneNearest X =
    (Q : Coding) (K : ℕ) (O : Ordered X) (v : ℕ → ℤ) → TailLaws (code_of Q) Q.tail → sent_for Q K ≤ most_penalties → AllLimited v → (ms rs : List ℕ) (t u : X) → LeastTotal Q K O.metric v ms t → LeastTotal Q K O.metric v rs u →
    (ms ≡ rs) × (t ≡ u)

-- The first K bytes that the message buffer has after the search are the nearest message, and the others are as they were.
pub record FoundNearest {X : Type 0} (Q : Coding) (K : ℕ) (M : Metric X) (v : ℕ → ℤ) (before after : List ℕ) (t : X) : Type 0 where
  pub least : LeastTotal Q K M v (take K after) t
  pub rest : drop K after ≡ drop K before

-- decision words, both stores of totals and the message buffer are as they were
pub record Untouched {X : Type 0} (decisions decisions' : List ℕ) (totals totals' spare spare' : List X) (message message' : List ℕ) : Type 0 where
  pub same_decisions : decisions' ≡ decisions
  pub same_totals : totals' ≡ totals
  pub same_spare : spare' ≡ spare
  pub same_message : message' ≡ message

-- ---- refusals

-- of K bits in so many steps, by a code of so many states, with stores of these lengths: the number of the first check that is met
abbrev pub store_refusal : Rate → ℕ → ℕ → ℕ → ℕ → ℕ → ℕ → ℕ → ℕ → Option ℕ
store_refusal rate K steps states soft decisions totals spare message =
    first_met ((outside 1 4090 K, 2) ∷ (nat_lt soft (sent_before rate steps), 5) ∷ (nat_lt decisions steps, 10) ∷ (nat_lt totals states || nat_lt spare states, 11) ∷ (nat_lt message K, 12) ∷ [])

abbrev pub search_refusal : Coding → ℕ → ℕ → ℕ → ℕ → ℕ → ℕ → Option ℕ
search_refusal Q K soft decisions totals spare message = store_refusal Q.rate K (steps_for Q K) (code_of Q).states soft decisions totals spare message

-- the number with which a call is refused
abbrev pub refused_by : {A : Type 0} → Result A Refusal → Option ℕ
refused_by (Ok x) = None
refused_by (Err e) = Some (number e)
