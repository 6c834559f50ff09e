-- Inputs and sent bits are bits, and how many there are. Assumes nothing.
use Rattle.std.proofs.Common.{◌≡◌, ℕ, zero, suc, ◌+◌, ◌<◌, ◌≤◌, Bool, true, false, cond, List, [], ◌∷◌, length, refl, ap, ◌∙◌, arith, length-append}
use Rattle.std.specs.List.{AllByRecursion}
use Rattle.std.proofs.ByRecursion.{All-get_or, All-from_get_or, All-append}
use Rattle.paths.specs.Codes.{Code, CodeLaws}
use Rattle.paths.specs.Paths.{Inputs, end_from, path_end}
use Rattle.paths.specs.Endings.{Closer, CloserLaws, Tail, Tail.unclosed, Tail.closed_by, TailLaws, closing, closing_steps, tail_inputs}
use Rattle.coding.specs.Puncturing.{sends_first, sends_second, sent_before}
use Rattle.coding.specs.Encoding.{Coding, MessagesWellSent, code_of, if_sent, inputs_of, sent_at, sent_bits, sent_from, steps_for}

abbrev pub AllBits : List ℕ → Type 0
AllBits = AllByRecursion (λ b. b < 2)

-- ---- inputs

pub ends_inside : (C : Code) → CodeLaws C → (s : ℕ) (bs : List ℕ) → s < C.states → AllBits bs → end_from C s bs < C.states
ends_inside C c s [] l a = l
ends_inside C c s (b ∷ bs) l a = ends_inside C c (C.next s b) bs (c.stays s b l a.0) a.1

closing_bits : (C : Code) (E : Closer) → CodeLaws C → CloserLaws C E → (n s : ℕ) → s < C.states → AllBits (closing C E n s)
closing_bits C E c e zero s l = tt
closing_bits C E c e (suc n) s l = (e.bit s l, closing_bits C E c e n (C.next s (E.close s)) (c.stays s (E.close s) l (e.bit s l)))

pub length_closing : (C : Code) (E : Closer) (n s : ℕ) → length (closing C E n s) ≡ n
length_closing C E zero s = refl
length_closing C E (suc n) s = ap suc (length_closing C E n (C.next s (E.close s)))

pub tail_bits : (C : Code) (T : Tail) → CodeLaws C → TailLaws C T → (s : ℕ) → s < C.states → AllBits (tail_inputs C T s)
tail_bits C unclosed c e s l = tt
tail_bits C (closed_by E) c e s l = closing_bits C E c e E.memory s l

pub length_tail : (C : Code) (T : Tail) (s : ℕ) → length (tail_inputs C T s) ≡ closing_steps T
length_tail C unclosed s = refl
length_tail C (closed_by E) s = length_closing C E E.memory s

-- a lawful end appends at most six inputs
pub tail_short : (C : Code) (T : Tail) → TailLaws C T → closing_steps T ≤ 6
tail_short C unclosed laws = omega arith
tail_short C (closed_by E) laws = laws.short

pub all_bits : (n : ℕ) (bs : List ℕ) → Inputs n bs → AllBits bs
all_bits n bs i = All-from_get_or (λ b. b < 2) bs 0 (λ k l. i.bits k (omega (arith, i.size)))

module _ (Q : Coding) where
  pub inputs_size : (ms : List ℕ) → length (inputs_of Q ms) ≡ steps_for Q (length ms)
  inputs_size ms = let e = path_end (code_of Q) ms in omega (arith, length-append ms (tail_inputs (code_of Q) Q.tail e), length_tail (code_of Q) Q.tail e)

  pub inputs_bits : TailLaws (code_of Q) Q.tail → (ms : List ℕ) → AllBits ms → AllBits (inputs_of Q ms)
  inputs_bits laws ms a =
      let c = Q.trellis.lawful in
      All-append (λ b. b < 2) ms (tail_inputs (code_of Q) Q.tail (path_end (code_of Q) ms)) a
      (tail_bits (code_of Q) Q.tail c laws (path_end (code_of Q) ms) (ends_inside (code_of Q) c 0 ms c.some a))

  -- ---- sent bits

  if_sent_bits : (p : Bool) (c : ℕ) → c < 2 → AllBits (if_sent p c)
  if_sent_bits true c l = (l, tt)
  if_sent_bits false c l = tt

  pub sent_at_bits : (k s b : ℕ) → s < (code_of Q).states → b < 2 → AllBits (sent_at Q k s b)
  sent_at_bits k s b l i =
      let C = code_of Q in
      let c = Q.trellis.lawful in
      All-append (λ x. x < 2) (if_sent (sends_first Q.rate k) (C.first s b)) (if_sent (sends_second Q.rate k) (C.second s b))
      (if_sent_bits (sends_first Q.rate k) (C.first s b) (c.first_bit s b l i)) (if_sent_bits (sends_second Q.rate k) (C.second s b) (c.second_bit s b l i))

  sent_from_bits : (k s : ℕ) (bs : List ℕ) → s < (code_of Q).states → AllBits bs → AllBits (sent_from Q k s bs)
  sent_from_bits k s [] l a = tt
  sent_from_bits k s (b ∷ bs) l a =
      All-append (λ x. x < 2) (sent_at Q k s b) (sent_from Q (suc k) ((code_of Q).next s b) bs) (sent_at_bits k s b l a.0)
      (sent_from_bits (suc k) ((code_of Q).next s b) bs (Q.trellis.lawful.stays s b l a.0) a.1)

  pub sent_bits_all : TailLaws (code_of Q) Q.tail → (ms : List ℕ) → AllBits ms → AllBits (sent_bits Q ms)
  sent_bits_all laws ms a = sent_from_bits 0 0 (inputs_of Q ms) Q.trellis.lawful.some (inputs_bits laws ms a)

  if_sent_size : (p : Bool) (c : ℕ) → length (if_sent p c) ≡ cond p 1 0
  if_sent_size true c = refl
  if_sent_size false c = refl

  -- one step sends as many bits as the count goes up
  pub sent_at_size : (k s b : ℕ) → sent_before Q.rate k + length (sent_at Q k s b) ≡ sent_before Q.rate (suc k)
  unfolding sent_before
  sent_at_size k s b =
      let p = sends_first Q.rate k in
      let q = sends_second Q.rate k in
      let c = (code_of Q).first s b in
      let d = (code_of Q).second s b in
      omega (arith, length-append (if_sent p c) (if_sent q d), if_sent_size p c, if_sent_size q d)

  pub sent_from_size : (k s : ℕ) (bs : List ℕ) → sent_before Q.rate k + length (sent_from Q k s bs) ≡ sent_before Q.rate (k + length bs)
  sent_from_size k s [] = let e : k ≡ k + 0 = omega arith in omega (arith, ap (sent_before Q.rate) e)
  sent_from_size k s (b ∷ bs) =
      let e : suc k + length bs ≡ k + suc (length bs) = omega arith in
      let next = (code_of Q).next s b in
      omega (arith, ap (sent_before Q.rate) e, sent_at_size k s b, sent_from_size (suc k) next bs, length-append (sent_at Q k s b) (sent_from Q (suc k) next bs))

  none_yet : sent_before Q.rate 0 ≡ 0
  unfolding sent_before
  none_yet = refl

  pub sent_bits_size : (ms : List ℕ) → length (sent_bits Q ms) ≡ sent_before Q.rate (steps_for Q (length ms))
  sent_bits_size ms =
      let e : 0 + length (inputs_of Q ms) ≡ steps_for Q (length ms) = omega (arith, inputs_size ms) in
      omega (arith, sent_from_size 0 0 (inputs_of Q ms), none_yet, ap (sent_before Q.rate) e)

pub messages_well_sent : MessagesWellSent
messages_well_sent Q K ms laws i =
    record {
      as_many = sent_bits_size Q ms ∙ ap (λ n. sent_before Q.rate (steps_for Q n)) i.size;
      bits = λ j l. All-get_or (λ b. b < 2) (sent_bits Q ms) j 0 l (sent_bits_all Q laws ms (all_bits K ms i));
    }
