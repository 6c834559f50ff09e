-- A row that is filled from the last state down, where every state is reached. Assumes nothing.
use Rattle.std.proofs.Common.{◌≡◌, ℕ, ◌+◌, ◌-◌, ◌*◌, ◌^◌, ◌<◌, ◌≤◌, Bool, true, false, cond, ◌≢◌, List, length, get_or, set, is_some, Some, None, Option, sym, refl, ap, ◌∙◌, subst, inl, inr, arith}
use Rattle.std.proofs.lemmas.List.{get_or-set_same, get_or-set_other}
use Rattle.std.proofs.lemmas.Bool.{cases_order}
use Rattle.paths.specs.Orders.{Metric, adds}
use Rattle.paths.specs.Survivors.{chosen}
use Rattle.paths.specs.Rows.{Holding, Marks, bit_of, held}
use Rattle.paths.proofs.Marking.{all_marked, marks_down, marks_same}
use Rattle.trellis.specs.declared.cost.Cost.{Cost}
use Rattle.trellis.specs.declared.table.Way.{Way}
use Rattle.trellis.specs.declared.table.Fork.{Fork}
use Rattle.trellis.specs.Steps.{carried, fork_total, pair_pays}
use Rattle.trellis.proofs.Stepping.{held_read}

-- the states from j on have their totals, and the word has their bits
pub record Falling {X : Type 0} (M : Metric X) (f : ℕ → Option X) (g : ℕ → Bool) (states j : ℕ) (row : List X) (word : ℕ) : Type 0 where
  pub totals : (s : ℕ) (t : X) → j ≤ s → s < states → f s ≡ Some t → get_or row s M.start ≡ t
  pub marks : Marks (λ i. g (j + i)) (states - j) word

module _ {X : Type 0} (M : Metric X) (f : ℕ → Option X) (g : ℕ → Bool) (states : ℕ) where
  pub falling_more : (j : ℕ) (row : List X) (word : ℕ) (t : X) (b : Bool) → 0 < j → j ≤ states → states ≤ length row → Falling M f g states j row word → f (j - 1) ≡ Some t → b ≡ g (j - 1) → Falling M f g states (j - 1) (set row (j - 1) t) (2 * word + cond b 1 0)
  falling_more j row word t b some most room h e d = record { totals = at; marks = marks_down g states j word b some most h.marks d }
    where
      same : {x y : X} → Some x ≡ Some y → x ≡ y
      same p = cc

      at : (s : ℕ) (u : X) → j - 1 ≤ s → s < states → f s ≡ Some u → get_or (set row (j - 1) t) s M.start ≡ u
      at s u low high q =
          elim (cases_order s (j - 1)) [
            | inl i ↦ ap (λ k. get_or (set row (j - 1) t) k M.start) i ∙ get_or-set_same row (j - 1) t M.start (omega arith) ∙ same (sym e ∙ ap f (sym i) ∙ q)
            | inr i ↦ elim i [ inl k ↦ absurd (omega arith) | inr k ↦ (let ne : s ≢ j - 1 = omega arith in get_or-set_other row (j - 1) s t M.start ne ∙ h.totals s u (omega arith) high q) ]
          ]

  -- at the end, where every state has a total
  pub falling_holds : (row : List X) (word mask : ℕ) → mask ≡ 2 ^ states - 1 → ((s : ℕ) → s < states → is_some (f s) ≡ true) → Falling M f g states 0 row word → Holding M f states row mask
  falling_holds row word mask e all h = record {
    marked = subst (Marks (λ s. is_some (f s)) states) (sym e) (marks_same (λ _. true) (λ s. is_some (f s)) states (2 ^ states - 1) (λ s l. sym (all s l)) (all_marked states));
    totals = λ s t l q. h.totals s t (omega arith) l q;
  }

  pub falling_marks : (row : List X) (word : ℕ) → Falling M f g states 0 row word → Marks g states word
  falling_marks row word h =
      let size : states - 0 ≡ states = omega arith in
      subst (λ n. Marks g n word) size (marks_same (λ i. g (0 + i)) g (states - 0) word (λ s l. let q : 0 + s ≡ s = omega arith in ap g q) h.marks)

-- every state below n is marked in the word of ones
pub all_bits : (n mask s : ℕ) → mask ≡ 2 ^ n - 1 → s < n → bit_of mask s ≡ true
all_bits n mask s e l = ap (λ w. bit_of w s) e ∙ (all_marked n).holds s l

-- ---- totals where every state is reached

module _ {X : Type 0} (M : Metric X) (q : Cost) (old : List X) (mask states : ℕ) (all : mask ≡ 2 ^ states - 1) where
  pub all_held : (s : ℕ) → s < states → held M old mask s ≡ Some (get_or old s M.start)
  all_held s l = ap (λ (b : Bool). cond b (Some (get_or old s M.start)) None) (all_bits states mask s all l)

  -- a total that is read, and with the penalties of a branch
  pub read_held : (s : ℕ) (x : X) → s < states → states ≤ length old → x ≡ get_or old s x → held M old mask s ≡ Some x
  read_held s x l long is = held_read M old mask s x (all_bits states mask s all l) (omega arith) is

  pub read_carried : (w : Way) (x t : X) → w.from < states → states ≤ length old → x ≡ get_or old w.from x → t ≡ adds M x (pair_pays q w.bits) → Some t ≡ carried M q w (held M old mask w.from)
  read_carried w x t l long is e = ap Some e ∙ ap (carried M q w) (sym (read_held w.from x l long is))

  -- every state is given a total
  pub all_given : (f : Fork) → f.lower.from < states → f.higher.from < states → is_some (fork_total M q (held M old mask) f) ≡ true
  all_given f l h =
      ap (λ (o : Option X). is_some (chosen M (carried M q f.lower o) (carried M q f.higher (held M old mask f.higher.from)))) (all_held f.lower.from l)
      ∙ ap (λ (o : Option X). is_some (chosen M (carried M q f.lower (Some (get_or old f.lower.from M.start))) (carried M q f.higher o))) (all_held f.higher.from h)
      ∙ either (M.lt (adds M (get_or old f.higher.from M.start) (pair_pays q f.higher.bits)) (adds M (get_or old f.lower.from M.start) (pair_pays q f.lower.bits))) (adds M (get_or old f.higher.from M.start) (pair_pays q f.higher.bits)) (adds M (get_or old f.lower.from M.start) (pair_pays q f.lower.bits))
    where
      either : (b : Bool) (x y : X) → is_some (cond b (Some x) (Some y)) ≡ true
      either true x y = refl
      either false x y = refl
