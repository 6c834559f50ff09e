-- Walks: what a step adds, and a message taken input by input. Assumes nothing.
use Rattle.std.proofs.Common.{◌≡◌, ℕ, suc, ◌+◌, ◌-◌, ◌*◌, ◌<◌, ◌≤◌, Bool, true, false, List, ◌++◌, length, get_or, drop, ℤ, pos, Some, Option, sym, refl, ap, ◌∙◌, subst, inl, inr, arith}
use Rattle.std.specs.Bool.{then_some}
use Rattle.std.specs.Int.{from_bool}
use Rattle.std.proofs.lemmas.Bool.{cases_lt}
use Rattle.std.proofs.lemmas.List.{at_drop_all, at_drop_more}
use Rattle.paths.specs.Best.{total_from}
use Rattle.paths.specs.Endings.{TailLaws, closing_input, closing_steps, tail_inputs}
use Rattle.paths.specs.Orders.{Bears, Metric, Reached.none, adds}
use Rattle.paths.proofs.Bearing.{bears_adds, bears_fewer}
use Rattle.coding.specs.Encoding.{Coding, code_of, if_sent}
use Rattle.coding.specs.declared.puncture.Rate.{Rate}
use Rattle.coding.specs.Puncturing.{sends_first, sends_second, sent_before}
use Rattle.coding.proofs.Patterns.{at_most_one}
use Rattle.coding.proofs.Sent.{tail_short}
use Rattle.trellis.specs.Penalties.{AllLimited, penalties, penalty, soft_at, total}
use Rattle.trellis.specs.Steps.{costs_at}
use Rattle.trellis.proofs.Costing.{costs_lawful}
use Rattle.trellis.proofs.Totalling.{total_steps}
use Rattle.tally.specs.declared.reckoning.Walk.{Walk}
use Rattle.tally.specs.Reckoning.{Reckoned}
use Rattle.tally.specs.Walks.{Going, comes_to, paid_at, walked}
use Rattle.tally.proofs.Totals.{all_left, closing_bit, inputs_from, left_over, none_left, one_taken}

-- ---- one step

pub byte_most : (b : Bool) → from_bool b ≤ 1
byte_most true = omega arith
byte_most false = omega arith

-- the penalties of the two code bits, each at its own position
pub both_paid : {X : Type 0} (M : Metric X) (t : X) (soft : List ℤ) (j : ℕ) (p q : Bool) (c d : ℕ) →
    adds M (adds M t (paid_at (then_some p (get_or soft j (pos 0))) c)) (paid_at (then_some q (get_or soft (j + from_bool p) (pos 0))) d) ≡ adds M t (penalties (soft_at soft) j (if_sent p c ++ if_sent q d))
both_paid M t soft j true true c d =
    let e : j + 1 ≡ suc j = omega arith in
    ap (λ (k : ℕ). M.add (M.add t (penalty (soft_at soft j) c)) (penalty (soft_at soft k) d)) e
both_paid M t soft j true false c d = refl
both_paid M t soft j false true c d = let e : j + 0 ≡ j = omega arith in ap (λ (k : ℕ). M.add t (penalty (soft_at soft k) d)) e
both_paid M t soft j false false c d = refl

-- what a step is found to pay is what the step costs
pub step_paid : {X : Type 0} (M : Metric X) (t total : X) (soft : List ℤ) (rate : Rate) (k c c' d d' : ℕ) (first second : Option ℤ) → c ≡ c' → d ≡ d' →
    first ≡ then_some (sends_first rate k) (get_or soft (sent_before rate k) (pos 0)) → second ≡ then_some (sends_second rate k) (get_or soft (sent_before rate k + from_bool (sends_first rate k)) (pos 0)) →
    total ≡ adds M (adds M t (paid_at first c)) (paid_at second d) → total ≡ adds M t (costs_at rate (soft_at soft) k c' d')
step_paid M t total soft rate k c c' d d' first second ec ed ef es et = let e = both_paid M t soft (sent_before rate k) (sends_first rate k) (sends_second rate k) c d in cc

-- ---- walks

module _ {X : Type 0} (Q : Coding) (M : Metric X) (v : ℕ → ℤ) (limits : AllLimited v) where
  goes_on : (w : Walk X) (b : ℕ) → w.step < 4096 → b < 2 → Going Q M w → Going Q M (walked Q M v w b)
  goes_on w b short bit h =
      let C = code_of Q in
      let c = C.first w.state b in
      let d = C.second w.state b in
      let ps = costs_at Q.rate v w.step c d in
      let paid = costs_lawful v limits Q.rate in
      let hc = Q.trellis.lawful.first_bit w.state b h.inside bit in
      let hd = Q.trellis.lawful.second_bit w.state b h.inside bit in
      let few : length ps ≤ 2 = omega (arith, paid.count w.step c d hc hd, at_most_one (sends_first Q.rate w.step), at_most_one (sends_second Q.rate w.step)) in
      record {
        inside = Q.trellis.lawful.stays w.state b h.inside bit;
        bears = bears_adds (2 * (4096 - suc w.step)) w.total ps (paid.small w.step c d hc hd) (bears_fewer (2 * (4096 - suc w.step) + length ps) (2 * (4096 - w.step)) w.total (omega arith) h.bears);
      }

  -- ---- the closing steps

  -- so many closing inputs are left, and what is come to by them is what the walk `from` comes to by all of them
  pub record Closing (from : Walk X) (left : ℕ) (w : Walk X) : Type 0 where
    pub going : Going Q M w
    pub room : w.step + left ≤ 4096
    pub same : comes_to Q M v w (left_over (code_of Q) Q.tail left w.state) ≡ comes_to Q M v from (tail_inputs (code_of Q) Q.tail from.state)

  pub closing_starts : (w : Walk X) (left : ℕ) → left ≡ closing_steps Q.tail → TailLaws (code_of Q) Q.tail → w.step ≤ 4090 → Going Q M w → Closing w left w
  closing_starts w left e laws short h = record {
    going = h;
    room = omega (arith, tail_short (code_of Q) Q.tail laws);
    same = ap (comes_to Q M v w) (ap (λ (n : ℕ). left_over (code_of Q) Q.tail n w.state) e ∙ all_left (code_of Q) Q.tail w.state);
  }

  pub closing_goes : (from w : Walk X) (left n b : ℕ) → left ≡ suc n → left ≤ closing_steps Q.tail → TailLaws (code_of Q) Q.tail → b ≡ closing_input Q.tail w.state → Closing from left w → Closing from n (walked Q M v w b)
  closing_goes from w left n b e few laws is h =
      let bit : b < 2 = omega (arith, is, closing_bit (code_of Q) Q.tail w.state laws h.going.inside) in
      record {
        going = goes_on w b (omega (arith, h.room)) bit h.going;
        room = omega (arith, h.room);
        same = ap (comes_to Q M v w) (one_taken (code_of Q) Q.tail left n w.state ((code_of Q).next w.state b) b e (omega arith) is refl) ∙ h.same;
      }

  pub closing_ends : (from w : Walk X) (left : ℕ) → left ≡ 0 → Closing from left w → w.total ≡ comes_to Q M v from (tail_inputs (code_of Q) Q.tail from.state)
  closing_ends from w left e h =
      sym (ap (comes_to Q M v w) (ap (λ (n : ℕ). left_over (code_of Q) Q.tail n w.state) e ∙ none_left (code_of Q) Q.tail w.state)) ∙ h.same

  -- ---- the message

  -- k bytes of the message are taken, all bits, and what is left leads to the total of the message
  pub record Taken (ms : List ℕ) (k : ℕ) (w : Walk X) : Type 0 where
    pub going : Going Q M w
    pub step_is : w.step ≡ k
    pub bits : (i : ℕ) → i < k → get_or ms i 0 < 2
    pub same : comes_to Q M v w (inputs_from (code_of Q) Q.tail w.state (drop k ms)) ≡ total Q M v ms

  pub none_taken : (ms : List ℕ) (t : X) → t ≡ M.start → Taken ms 0 (record { step = 0; state = 0; total = t })
  none_taken ms t e = record {
    going = record { inside = Q.trellis.lawful.some; bears = subst (Bears M 8192) (sym e) (record { count = 0; room = omega arith; reached = none }) };
    step_is = refl;
    bits = λ i l. absurd (omega arith);
    same = ap (λ (x : X). total_from (code_of Q) M (costs_at Q.rate v) 0 0 x (inputs_from (code_of Q) Q.tail 0 ms)) e ∙ sym (total_steps Q M v ms);
  }

  pub one_more : (ms : List ℕ) (k : ℕ) (w : Walk X) → k < length ms → k < 4096 → get_or ms k 0 < 2 → Taken ms k w → Taken ms (k + 1) (walked Q M v w (get_or ms k 0))
  one_more ms k w l short bit h = record {
    going = goes_on w (get_or ms k 0) (omega (arith, h.step_is)) bit h.going;
    step_is = omega (arith, h.step_is);
    bits = λ i j. elim (cases_lt i k) [ inl a ↦ h.bits i a | inr a ↦ let e : k ≡ i = omega arith in subst (λ (n : ℕ). get_or ms n 0 < 2) e bit ];
    same = sym (at_drop_more (λ (xs : List ℕ). comes_to Q M v w (inputs_from (code_of Q) Q.tail w.state xs)) ms k 0 l) ∙ h.same;
  }

  pub all_taken : (ms : List ℕ) (k : ℕ) (w : Walk X) (t : X) → k ≡ length ms → length ms ≤ 4090 → Taken ms k w → t ≡ comes_to Q M v w (tail_inputs (code_of Q) Q.tail w.state) → Reckoned Q M v ms (Some t)
  all_taken ms k w t e few h d = (
    record { few = few; bits = record { size = refl; bits = λ i l. h.bits i (omega arith) } },
    sym h.same ∙ at_drop_all (λ (xs : List ℕ). comes_to Q M v w (inputs_from (code_of Q) Q.tail w.state xs)) ms k (omega arith) ∙ sym d,
  )
