-- The closing inputs that are left at each step, and the inputs that are left of a message. Assumes nothing.
use Rattle.std.proofs.Common.{◌≡◌, ℕ, suc, ◌<◌, ◌≤◌, List, [], ◌∷◌, ◌++◌, refl, arith}
use Rattle.paths.specs.Codes.{Code}
use Rattle.paths.specs.Paths.{end_from}
use Rattle.paths.specs.Endings.{Tail, Tail.unclosed, Tail.closed_by, closing, TailLaws, closing_input, closing_steps, tail_inputs}

-- the last n closing inputs, from the state s on
abbrev pub left_over : Code → Tail → ℕ → ℕ → List ℕ
left_over C unclosed n s = []
left_over C (closed_by E) n s = closing C E n s

pub all_left : (C : Code) (T : Tail) (s : ℕ) → left_over C T (closing_steps T) s ≡ tail_inputs C T s
all_left C unclosed s = refl
all_left C (closed_by E) s = refl

pub none_left : (C : Code) (T : Tail) (s : ℕ) → left_over C T 0 s ≡ []
none_left C unclosed s = refl
none_left C (closed_by E) s = refl

pub one_left : (C : Code) (T : Tail) (n s : ℕ) → suc n ≤ closing_steps T → left_over C T (suc n) s ≡ closing_input T s ∷ left_over C T n (C.next s (closing_input T s))
one_left C unclosed n s h = absurd (omega arith)
one_left C (closed_by E) n s h = refl

-- one closing input is taken, and leads to the state s'
pub one_taken : (C : Code) (T : Tail) (m n s s' v : ℕ) → m ≡ suc n → suc n ≤ closing_steps T → v ≡ closing_input T s → s' ≡ C.next s v → v ∷ left_over C T n s' ≡ left_over C T m s
one_taken C T m n s s' v e h i f = let o = one_left C T n s h in cc

pub closing_bit : (C : Code) (T : Tail) (s : ℕ) → TailLaws C T → s < C.states → closing_input T s < 2
closing_bit C unclosed s laws l = omega arith
closing_bit C (closed_by E) s laws l = laws.bit s l

-- what is left of a message, with its closing inputs, from the state s on
abbrev pub inputs_from : Code → Tail → ℕ → List ℕ → List ℕ
inputs_from C T s ms = ms ++ tail_inputs C T (end_from C s ms)
