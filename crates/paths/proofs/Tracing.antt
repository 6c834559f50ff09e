-- The way back through the words. Assumes nothing.
use Rattle.std.proofs.Common.{◌≡◌, ℕ, zero, suc, ◌+◌, ◌-◌, ◌<◌, ◌≤◌, Bool, true, false, List, [], ◌∷◌, ◌++◌, reverse, length, take, drop, set, sym, refl, ap, ◌∙◌, subst, append_assoc, append-nil, arith}
use mathlib.Core.List.{reverse-cons}
use Rattle.std.proofs.lemmas.List.{length-set, length-reverse, reverse-append, take_at, drop-set, drop_all}
use Rattle.paths.specs.Codes.{Branch, Code, CodeLaws, Enters}
use Rattle.paths.specs.Survivors.{arrival, traced}
use Rattle.paths.specs.Rows.{Passes, Tracing}

pub arrival_enters : {C : Code} → CodeLaws C → (c : Bool) (s : ℕ) → s < C.states → Enters C s (arrival C c s)
arrival_enters laws true s h = laws.higher_enters s h
arrival_enters laws false s h = laws.lower_enters s h

module _ {C : Code} (laws : CodeLaws C) (back : ℕ → ℕ → Bool) where
  pub trace_starts : (n e : ℕ) (out : List ℕ) → length out ≡ n → e < C.states → Tracing C back n e n e out
  trace_starts n e out h he = record {
    room = h;
    inside = he;
    split = sym (ap (λ xs. reverse (traced C back n e) ++ xs) (drop_all n out (omega arith)) ∙ append-nil (reverse (traced C back n e)));
  }

  -- one step back, from k + 1 to k, by the branch that `back` tells
  pub trace_more : (n e k s : ℕ) (out : List ℕ) (r : Branch) → k < n → Tracing C back n e (k + 1) s out → r ≡ arrival C (back k s) s → Tracing C back n e k r.from (set out k r.input)
  unfolding traced
  trace_more n e k s out r hk h here =
      let enters : Enters C s r = subst (Enters C s) (sym here) (arrival_enters laws (back k s) s h.inside) in
      let one : k + 1 ≡ suc k = omega arith in
      let l : k < length out = omega (arith, h.room) in
      let tail : traced C back (suc k) s ≡ r.input ∷ traced C back k r.from = ap (λ a. a.input ∷ traced C back k a.from) (sym here) in
      record {
        room = length-set out k r.input ∙ h.room;
        inside = enters.from_state;
        split =
            h.split ∙ ap (λ i. reverse (traced C back i s) ++ drop (k + 1) out) one ∙ ap (λ xs. reverse xs ++ drop (k + 1) out) tail ∙ ap (λ xs. xs ++ drop (k + 1) out) (reverse-cons r.input (traced C back k r.from)) ∙ append_assoc (reverse (traced C back k r.from)) (r.input ∷ []) (drop (k + 1) out) ∙ ap (λ xs. reverse (traced C back k r.from) ++ xs) (sym (drop-set out k r.input l));
      }

  -- the same where the loop counts down from k, as `for k in (0..n).rev()` does
  pub trace_down : (n e k s : ℕ) (out : List ℕ) (r : Branch) → 0 < k → k ≤ n → Tracing C back n e k s out → r ≡ arrival C (back (k - 1) s) s → Tracing C back n e (k - 1) r.from (set out (k - 1) r.input)
  trace_down n e k s out r some most h here = let d : k ≡ k - 1 + 1 = omega arith in trace_more n e (k - 1) s out r (omega arith) (subst (λ i. Tracing C back n e i s out) d h) here

  pub trace_ends : (n e s : ℕ) (out : List ℕ) → Tracing C back n e 0 s out → reverse (traced C back n e) ≡ out
  unfolding traced
  trace_ends n e s out h = h.split

  -- the way back is told by what `back` says of the steps and the states of the code
  pub traced_same : (other : ℕ → ℕ → Bool) (n : ℕ) → ((k s : ℕ) → k < n → s < C.states → back k s ≡ other k s) → (e : ℕ) → e < C.states → traced C back n e ≡ traced C other n e
  unfolding traced
  traced_same other zero h e he = refl
  traced_same other (suc n) h e he =
      let a = arrival C (other n e) e in
      ap (λ c. (arrival C c e).input ∷ traced C back n (arrival C c e).from) (h n e (omega arith) he) ∙ ap (λ xs. a.input ∷ xs) (traced_same other n (λ k s l i. h k s (omega arith) i) a.from (arrival_enters laws (other n e) e he).from_state)

  -- ---- over the closing steps

  pub passes_itself : (n e : ℕ) → e < C.states → Passes C back n e n e
  passes_itself n e h = record { inside = h; split = ([], refl) }

  pub passes_down : (n e k s : ℕ) (r : Branch) → 0 < k → Passes C back n e k s → r ≡ arrival C (back (k - 1) s) s → Passes C back n e (k - 1) r.from
  unfolding traced
  passes_down n e k s r some p is =
      let q : suc (k - 1) ≡ k = omega arith in
      let a = arrival C (back (k - 1) s) s in
      let t = traced C back (k - 1) a.from in
      let xs = p.split.0 in
      subst (λ (b : Branch). Passes C back n e (k - 1) b.from) (sym is) (record {
        inside = (arrival_enters laws (back (k - 1) s) s p.inside).from_state;
        split = (xs ++ a.input ∷ [], p.split.1 ∙ ap (λ (i : ℕ). xs ++ traced C back i s) (sym q) ∙ sym (append_assoc xs (a.input ∷ []) t));
      })

pub length_traced : (C : Code) (back : ℕ → ℕ → Bool) (n s : ℕ) → length (traced C back n s) ≡ n
unfolding traced
length_traced C back zero s = refl
length_traced C back (suc n) s = ap suc (length_traced C back n (arrival C (back n s) s).from)

-- the first k inputs of the whole way are those of the way from the state after k steps
pub front_traced : (C : Code) (back : ℕ → ℕ → Bool) (n e k s : ℕ) → Passes C back n e k s → take k (reverse (traced C back n e)) ≡ reverse (traced C back k s)
front_traced C back n e k s p =
    let xs = p.split.0 in
    ap (λ (ts : List ℕ). take k (reverse ts)) p.split.1
    ∙ ap (λ (ts : List ℕ). take k ts) (reverse-append xs (traced C back k s))
    ∙ take_at (reverse (traced C back k s)) (reverse xs) k (length-reverse (traced C back k s) ∙ length_traced C back k s)
