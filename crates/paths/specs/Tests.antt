-- Tests that tell whether a code and a way of closing it keep their laws; antt computes them for a code at hand. Assumes nothing.
use Rattle.std.specs.Prelude.{ℕ, zero, suc, ◌-◌, Bool, true, not, ◌&&◌, ◌||◌, ◌==◌, nat_le, nat_lt}
use Rattle.paths.specs.Codes.{Branch, Code}
use Rattle.paths.specs.Paths.{end_from}
use Rattle.paths.specs.Endings.{Closer, closing}

abbrev pub enters_ok : Code → ℕ → Branch → Bool
enters_ok C s r = nat_lt r.from C.states && (nat_lt r.input 2 && C.next r.from r.input == s)

abbrev pub takes_ok : ℕ → ℕ → Branch → Bool
takes_ok p b r = p == r.from && b == r.input

-- the branch out of p by b
abbrev pub branch_ok : Code → ℕ → ℕ → Bool
branch_ok C p b =
    nat_lt (C.next p b) C.states && (nat_lt (C.first p b) 2 && (nat_lt (C.second p b) 2 && (takes_ok p b (C.lower (C.next p b)) || takes_ok p b (C.higher (C.next p b)))))

-- the branches into s, and those out of it
abbrev pub state_ok : Code → ℕ → Bool
state_ok C s = enters_ok C s (C.lower s) && (enters_ok C s (C.higher s) && (nat_lt (C.lower s).from (C.higher s).from && (branch_ok C s 0 && branch_ok C s 1)))

abbrev pub all_below : (ℕ → Bool) → ℕ → Bool
all_below f zero = true
all_below f (suc n) = f n && all_below f n

abbrev pub code_ok : Code → Bool
code_ok C = nat_lt 0 C.states && (nat_le C.states 64 && all_below (state_ok C) C.states)

-- some n inputs lead from s to 0
abbrev pub reaches : Code → ℕ → ℕ → Bool
reaches C zero s = s == 0
reaches C (suc n) s = reaches C n (C.next s 0) || reaches C n (C.next s 1)

-- on the closing way from s, no other input leads to 0 in the steps that are left
abbrev pub only_ok : Code → Closer → ℕ → ℕ → Bool
only_ok C E zero s = true
only_ok C E (suc n) s = not (reaches C n (C.next s (1 - E.close s))) && only_ok C E n (C.next s (E.close s))

abbrev pub home_ok : Code → Closer → ℕ → Bool
home_ok C E s = nat_lt (E.close s) 2 && (end_from C s (closing C E E.memory s) == 0 && only_ok C E E.memory s)

abbrev pub closer_ok : Code → Closer → Bool
closer_ok C E = nat_le E.memory 6 && all_below (home_ok C E) C.states
