-- The steps of an encoder: inputs, states, positions and labels after each. Assumes nothing.
use Rattle.std.proofs.Common.{◌≡◌, ℕ, zero, suc, ◌+◌, ◌-◌, ◌*◌, ◌/◌, ◌^◌, ◌<◌, ◌≤◌, List, [], ◌∷◌, ◌++◌, length, get_or, take, sym, refl, ap, ◌∙◌, subst, inl, inr, mul_comm, arith}
use native.Mathlib.Nat.{div-add-mod}
use Rattle.std.proofs.lemmas.Nat.{mod_below}
use Rattle.std.proofs.ByRecursion.{All-get_or, All-take}
use Rattle.std.proofs.lemmas.List.{append_assoc, append-nil, get_or_append_left, length-take-le, take_all, take_more}
use Rattle.std.proofs.lemmas.Bool.{cases_lt}
use Rattle.qam.specs.declared.cell.QamCell.{QamCell}
use Rattle.paths.specs.Codes.{Code}
use Rattle.paths.specs.Paths.{Inputs, end_from, path_end}
use Rattle.paths.specs.Endings.{Closer, Tail, Tail.unclosed, Tail.closed_by, TailLaws, closing, closing_input, closing_steps, tail_inputs}
use Rattle.coding.specs.declared.puncture.Rate.{Rate}
use Rattle.coding.specs.Puncturing.{sent_before}
use Rattle.coding.specs.Encoding.{Coding, code_of, inputs_of, sent_at, sent_bits, sent_from, steps_for}
use Rattle.coding.proofs.Patterns.{sent_most}
use Rattle.coding.proofs.Sent.{all_bits, ends_inside, inputs_bits, inputs_size, sent_at_size, sent_from_size, tail_short}
use Rattle.interleaving.specs.Interleaving.{Interleaving, size}
use Rattle.interleaving.proofs.Bounds.{size_some}
use Rattle.sending.specs.Labelling.{Encoded, EncodedFor, Holds, Taking, TakingFor}
use Rattle.sending.specs.Links.{Link, Planned, block, blocks, cells, sent}
use Rattle.sending.proofs.Sizes.{cells_are}

-- ---- counts

-- the count of sent bits never falls
pub sent_mono : (rate : Rate) (a b : ℕ) → a ≤ b → sent_before rate a ≤ sent_before rate b
unfolding sent_before
sent_mono rate a zero h = let e : a ≡ 0 = omega arith in omega (arith, ap (sent_before rate) e)
sent_mono rate a (suc b) h =
    elim (cases_lt b a) [
      | inl l ↦ let e : a ≡ suc b = omega arith in omega (arith, ap (sent_before rate) e)
      | inr g ↦ omega (arith, sent_mono rate a b g)
    ]

none_sent : (rate : Rate) → sent_before rate 0 ≡ 0
unfolding sent_before
none_sent rate = refl

-- x raised to a multiple of n
pub raised_over : (x n : ℕ) → 0 < n → x ≤ (x + (n - 1)) / n * n
raised_over x n h =
    let y = x + (n - 1) in
    omega (arith, div-add-mod y n, mod_below y n h, mul_comm n (y / n))

-- ---- paths

end_append : (C : Code) (s : ℕ) (xs ys : List ℕ) → end_from C s (xs ++ ys) ≡ end_from C (end_from C s xs) ys
end_append C s [] ys = refl
end_append C s (x ∷ xs) ys = end_append C (C.next s x) xs ys

-- the i-th closing input is that of the state to which the ones before it lead
closing_at : (C : Code) (E : Closer) (n s i : ℕ) → i < n → get_or (closing C E n s) i 0 ≡ E.close (end_from C s (take i (closing C E n s)))
closing_at C E zero s i h = absurd (omega arith)
closing_at C E (suc n) s zero h = refl
closing_at C E (suc n) s (suc i) h = closing_at C E n (C.next s (E.close s)) i (omega arith)

tail_at : (C : Code) (T : Tail) (s i : ℕ) → i < closing_steps T → get_or (tail_inputs C T s) i 0 ≡ closing_input T (end_from C s (take i (tail_inputs C T s)))
tail_at C unclosed s i h = absurd (omega arith)
tail_at C (closed_by E) s i h = closing_at C E E.memory s i h

-- past the message an input is the closing input of the state before it
late : (C : Code) (T : Tail) (s : ℕ) (ms : List ℕ) (k : ℕ) → length ms ≤ k → k < length ms + closing_steps T →
    get_or (ms ++ tail_inputs C T (end_from C s ms)) k 0 ≡ closing_input T (end_from C s (take k (ms ++ tail_inputs C T (end_from C s ms))))
late C T s [] k g h = tail_at C T s k (omega arith)
late C T s (b ∷ ms) zero g h = absurd (omega arith)
late C T s (b ∷ ms) (suc k) g h = late C T (C.next s b) ms k (omega arith) (omega arith)

module _ (Q : Coding) (ms : List ℕ) where
  -- the inputs are the message's bits, and past them the closing input of each state
  pub message_input : (k : ℕ) → k < length ms → get_or ms k 0 ≡ get_or (inputs_of Q ms) k 0
  message_input k l = sym (get_or_append_left ms (tail_inputs (code_of Q) Q.tail (path_end (code_of Q) ms)) 0 k l)

  pub closing_input_at : (k : ℕ) → length ms ≤ k → k < steps_for Q (length ms) → closing_input Q.tail (path_end (code_of Q) (take k (inputs_of Q ms))) ≡ get_or (inputs_of Q ms) k 0
  closing_input_at k g h = sym (late (code_of Q) Q.tail 0 ms k g h)

  sent_push : (k s : ℕ) (bs : List ℕ) (b : ℕ) → sent_from Q k s (bs ++ b ∷ []) ≡ sent_from Q k s bs ++ sent_at Q (k + length bs) (end_from (code_of Q) s bs) b
  sent_push k s [] b = let e : k ≡ k + 0 = omega arith in append-nil (sent_at Q k s b) ∙ ap (λ x. sent_at Q x s b) e
  sent_push k s (x ∷ bs) b =
      let next = (code_of Q).next s x in
      let e : suc k + length bs ≡ k + suc (length bs) = omega arith in
      ap (λ xs. sent_at Q k s x ++ xs) (sent_push (suc k) next bs b ∙ ap (λ n. sent_from Q (suc k) next bs ++ sent_at Q n (end_from (code_of Q) next bs) b) e)
      ∙ sym (append_assoc (sent_at Q k s x) (sent_from Q (suc k) next bs) (sent_at Q (k + suc (length bs)) (end_from (code_of Q) next bs) b))

  -- ---- what an encoder holds after k steps

  module _ (X : Interleaving) (m b : ℕ) where
    pub encoded_none : (xs : List QamCell) → Holds X m b [] xs → Encoded X m b Q ms 0 0 0 xs
    encoded_none xs h = record { state_is = refl; position_is = sym (none_sent Q.rate); holds = h }

    module _ (k s j : ℕ) (xs : List QamCell) (at : Encoded X m b Q ms k s j xs) (l : k < steps_for Q (length ms)) where
      front : List ℕ
      front = take k (inputs_of Q ms)

      inside : k < length (inputs_of Q ms)
      inside = omega (arith, inputs_size Q ms)

      front_size : length (take k (inputs_of Q ms)) ≡ k
      front_size = let i = inside in length-take-le k (inputs_of Q ms) (omega arith)

      sent_size : length (sent_from Q 0 0 (take k (inputs_of Q ms))) ≡ j
      sent_size =
          let e : 0 + length (take k (inputs_of Q ms)) ≡ k = omega (arith, front_size) in
          omega (arith, sent_from_size Q 0 0 (take k (inputs_of Q ms)), none_sent Q.rate, ap (sent_before Q.rate) e, at.position_is)

      -- the next state, position and labels
      pub encoded_more : (v s' j' : ℕ) (xs' : List QamCell) → v ≡ get_or (inputs_of Q ms) k 0 → s' ≡ (code_of Q).next s v → j' ≡ j + length (sent_at Q k s v) →
          ((bs : List ℕ) → length bs ≡ j → Holds X m b bs xs → Holds X m b (bs ++ sent_at Q k s v) xs') → Encoded X m b Q ms (k + 1) s' j' xs'
      encoded_more v s' j' xs' input next position holds =
          let bs = take k (inputs_of Q ms) in
          let longer : take (k + 1) (inputs_of Q ms) ≡ bs ++ v ∷ [] = take_more (inputs_of Q ms) k 0 inside ∙ ap (λ x. bs ++ x ∷ []) (sym input) in
          let one : suc k ≡ k + 1 = omega arith in
          let time : 0 + length bs ≡ k = omega (arith, front_size) in
          let before : sent_from Q 0 0 (take (k + 1) (inputs_of Q ms)) ≡ sent_from Q 0 0 bs ++ sent_at Q k s v =
          ap (sent_from Q 0 0) longer ∙ sent_push 0 0 bs v ∙ ap (λ n. sent_from Q 0 0 bs ++ sent_at Q n (path_end (code_of Q) bs) v) time
          ∙ ap (λ x. sent_from Q 0 0 bs ++ sent_at Q k x v) (sym at.state_is) in
          record {
            state_is = next ∙ ap (λ x. (code_of Q).next x v) at.state_is ∙ sym (end_append (code_of Q) 0 bs (v ∷ [])) ∙ ap (path_end (code_of Q)) (sym longer);
            position_is = omega (arith, position, at.position_is, sent_at_size Q k s v, ap (sent_before Q.rate) one);
            holds = subst (λ ys. Holds X m b ys xs') (sym before) (holds (sent_from Q 0 0 bs) sent_size at.holds);
          }

      -- the cells have room for what the next step sends
      pub encoded_taking : (n v : ℕ) → length xs ≡ n * b → sent_before Q.rate (steps_for Q (length ms)) ≤ n * size m b → Taking X m b j (length (sent_at Q k s v)) xs
      encoded_taking n v sized room =
          record {
            blocks = n;
            sized = sized;
            room = omega (arith, at.position_is, sent_at_size Q k s v, sent_mono Q.rate (suc k) (steps_for Q (length ms)) (omega arith));
            before = sent_from Q 0 0 (take k (inputs_of Q ms));
            counted = sent_size;
            holds = at.holds;
          }

      pub state_inside : TailLaws (code_of Q) Q.tail → Inputs (length ms) ms → s < (code_of Q).states
      state_inside laws i =
          let all = All-take (λ c. c < 2) k (inputs_of Q ms) (inputs_bits Q laws ms (all_bits (length ms) ms i)) in
          let ends = ends_inside (code_of Q) Q.trellis.lawful 0 (take k (inputs_of Q ms)) Q.trellis.lawful.some all in
          omega (arith, at.state_is)

      pub input_inside : TailLaws (code_of Q) Q.tail → Inputs (length ms) ms → get_or (inputs_of Q ms) k 0 < 2
      input_inside laws i = All-get_or (λ c. c < 2) (inputs_of Q ms) k 0 inside (inputs_bits Q laws ms (all_bits (length ms) ms i))

    -- after all steps the cells hold the labels of all sent bits
    pub encoded_all : (k s j : ℕ) (xs : List QamCell) → Encoded X m b Q ms k s j xs → k ≡ steps_for Q (length ms) → Holds X m b (sent_bits Q ms) xs
    encoded_all k s j xs at e =
        let whole : take k (inputs_of Q ms) ≡ inputs_of Q ms = take_all k (inputs_of Q ms) (omega (arith, inputs_size Q ms)) in
        subst (λ ys. Holds X m b (sent_from Q 0 0 ys) xs) whole at.holds

-- ---- a step of a planned link

-- what a step asks
pub record Ready (L : Link) (k s j v : ℕ) (xs : List QamCell) : Type 0 where
  pub state : s < (code_of L.coding).states
  pub input : v < 2
  pub few : k < 2 ^ 31
  pub short : j < 2 ^ 31
  pub taking : TakingFor L j (length (sent_at L.coding k s v)) xs

pub ready : (L : Link) → Planned L → (ms : List ℕ) → Inputs L.K ms → (k s j v : ℕ) (xs : List QamCell) → EncodedFor L ms k s j xs → k < steps_for L.coding (length ms) → v ≡ get_or (inputs_of L.coding ms) k 0 → length xs ≡ cells L →
    Ready L k s j v xs
ready L p ms i k s j v xs at early is sized =
    let Q = L.coding in
    let few = i.size in
    let whole : Inputs (length ms) ms = subst (λ n. Inputs n ms) (sym few) i in
    let some : 0 < block L = size_some L.m L.B p.sizes.some_bits p.sizes.some_cells in
    let room : sent_before Q.rate (steps_for Q (length ms)) ≤ blocks L * size L.m L.B = subst (λ n. sent_before Q.rate (steps_for Q n) ≤ blocks L * block L) (sym few) (raised_over (sent L) (block L) some) in
    record {
      state = state_inside Q ms L.interleaving L.m L.B k s j xs at early p.ending whole;
      input = omega (arith, is, input_inside Q ms L.interleaving L.m L.B k s j xs at early p.ending whole);
      few = omega (arith, p.short_message, tail_short (code_of Q) Q.tail p.ending);
      short = omega (arith, at.position_is, sent_most Q.rate k, p.short_message, tail_short (code_of Q) Q.tail p.ending);
      taking = encoded_taking Q ms L.interleaving L.m L.B k s j xs at early (blocks L) v (sized ∙ cells_are L p) room;
    }
