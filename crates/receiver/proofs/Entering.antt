-- What a cell's answers are, and that a call with no row met is granted. Assumes nothing.
use Rattle.std.proofs.Common.{◌≡◌, ℕ, zero, suc, ◌-◌, ◌*◌, ◌<◌, ◌≤◌, Bool, true, false, cond, ltb, List, [], ◌∷◌, ◌++◌, get_or, ℤ, pos, ◌*ℤ◌, nat_abs, Some, None, Ok, Err, Result, not, sym, refl, ap, ◌∙◌, subst, arith}
use Rattle.std.proofs.lemmas.Bool.{ltb-true, ltb-false, lt-ltb, le-ltb, true≢false}
use Rattle.qam.specs.declared.cell.QamCell.{QamCell}
use Rattle.qam.specs.Levels.{Axis}
use Rattle.softbits.specs.SoftBits.{Reading}
use Rattle.softbits.specs.Demapping.{Demapping, answers, soft_limit}
use Rattle.refusals.specs.declared.Refusal.{Refusal}
use Rattle.refusals.specs.Numbers.{first_met, number}
use Rattle.sending.specs.Links.{Planned, cells, plan_refusal, plan_rows}
use Rattle.sending.proofs.Sendings.{then_met}
use Rattle.reception.specs.Entries.{Entry, Entry.received, Reception, bit_in, weighted}
use Rattle.receiver.specs.Calls.{EntryTaken}
use Rattle.receiver.specs.Rows.{asked, full_row}
use Rattle.receiver.specs.SoftCells.{CellTaken}
use Rattle.receiver.specs.declared.frame.FillingFrame.{FillingFrame}
use Rattle.receiver.specs.declared.soft_cell.SoftCell.{SoftCell}
use Rattle.receiver.specs.Stores.{Small, laid}
use Rattle.receiver.proofs.Laying.{with_cell_same}
use Rattle.receiver.proofs.Placing.{bit_below}

pub answer_at : (D : Demapping) (m : ℕ) (r : ℤ) (k : ℕ) → k < 4 → get_or (answers D m r) k (pos 0) ≡ D.answer m (suc k) r
answer_at D m r zero h = refl
answer_at D m r (suc zero) h = refl
answer_at D m r (suc (suc zero)) h = refl
answer_at D m r (suc (suc (suc zero))) h = refl
answer_at D m r (suc (suc (suc (suc k)))) h = absurd (omega arith)

pub answers_small : (D : Demapping) (m : ℕ) (r : ℤ) → Axis m → Reading r → Small (answers D m r)
answers_small D m r a h k l = subst (λ z. nat_abs z ≤ soft_limit) (sym (answer_at D m r k l)) (D.ranged m (suc k) r a (omega arith) h)

-- the numbers of a cell that came
pub laid_received : (R : Reception) (x : QamCell) (n : ℕ) → R.link.m ≤ 4 → n < 2 * R.link.m →
    laid R.link.m (answers R.demapping R.link.m x.in_phase) (answers R.demapping R.link.m x.quadrature) x.weight n ≡ weighted R (bit_in R.link.m (received x) n)
laid_received R x n few h = on (ltb n R.link.m) refl
  where
    on : (t : Bool) → ltb n R.link.m ≡ t →
        pos x.weight *ℤ cond t (get_or (answers R.demapping R.link.m x.in_phase) n (pos 0)) (get_or (answers R.demapping R.link.m x.quadrature) (n - R.link.m) (pos 0))
        ≡ pos x.weight *ℤ R.demapping.answer R.link.m (cond t (suc n) (suc (n - R.link.m))) (cond t x.in_phase x.quadrature)
    on true e = let l = ltb-true n R.link.m e in ap (λ z. pos x.weight *ℤ z) (answer_at R.demapping R.link.m x.in_phase n (omega arith))
    on false e = let l = ltb-false n R.link.m e in ap (λ z. pos x.weight *ℤ z) (answer_at R.demapping R.link.m x.quadrature (n - R.link.m) (omega arith))

-- no row is met
abbrev pub NoneMet : List (Bool × ℕ) → Type 0
NoneMet [] = Unit {0}
NoneMet (r ∷ rs) = (r.0 ≡ false) × NoneMet rs

pub not_met : (rows : List (Bool × ℕ)) → NoneMet rows → first_met rows ≡ None
not_met [] h = refl
not_met (r ∷ rs) h = at r.0 h.0 (not_met rs h.1)
  where
    at : (t : Bool) → t ≡ false → first_met rs ≡ None → cond t (Some r.1) (first_met rs) ≡ None
    at true e f = absurd (true≢false e)
    at false e f = f

-- a cell that is taken is its entry, where no row before the last is met
pub entry_taken : {C E I D : Type 0} (R : Reception) (e : Entry) (s : SoftCell) (rows : List (Bool × ℕ)) (f f' : FillingFrame C E I D) (store store' : List ℤ) (r : Result (Unit {0}) Refusal) →
    Planned R.link → plan_refusal R.link ≡ None → NoneMet rows → ((n : ℕ) → n < 2 * R.link.m → laid R.link.m s.in_phase s.quadrature s.weight n ≡ weighted R (bit_in R.link.m e n)) →
    CellTaken R.link s f store f' store' r → EntryTaken R (asked R.link (rows ++ full_row R.link f.taken ∷ [])) e f store f' store' r
entry_taken R e s rows f f' store store' (Ok u) p none unmet same h =
    let L = R.link in (
      then_met (plan_rows L) (rows ++ full_row L f.taken ∷ []) none ∙ then_met rows (full_row L f.taken ∷ []) (not_met rows unmet) ∙ ap (λ (t : Bool). cond (not t) (Some 8) None) (lt-ltb f.taken (cells L) h.0),
      h.1,
      h.2 ∙ with_cell_same L.interleaving L.m L.B f.taken (laid L.m s.in_phase s.quadrature s.weight) (λ n. weighted R (bit_in L.m e n)) store (λ j. same _ (bit_below L.interleaving L.m L.B p.sizes j)),
    )
entry_taken R e s rows f f' store store' (Err r) p none unmet same h =
    let L = R.link in (
      then_met (plan_rows L) (rows ++ full_row L f.taken ∷ []) none ∙ then_met rows (full_row L f.taken ∷ []) (not_met rows unmet) ∙ ap (λ (t : Bool). cond (not t) (Some 8) None) (le-ltb f.taken (cells L) h.0) ∙ sym (ap (λ (x : Refusal). Some (number x)) h.1),
      h.2,
      h.3,
    )
