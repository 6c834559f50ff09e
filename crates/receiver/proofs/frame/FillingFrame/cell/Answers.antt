-- `FillingFrame::cell` meets its contract: what is written is the weighted soft bits of the cell.
use Rattle.std.proofs.Common.{◌≡◌, ℕ, ◌*◌, ◌<◌, false, ltb, List, ◌∷◌, length, ℤ, nat_abs, ap, ◌∙◌}
use Rattle.std.proofs.lemmas.Bool.{le-ltb, or_from}
use Rattle.softbits.specs.Demapping.{answers}
use Rattle.sending.specs.Links.{positions}
use Rattle.reception.specs.Entries.{Entry.received, bit_in, weighted}
use Rattle.receiver.specs.Frames.{reception_of}
use Rattle.receiver.specs.Rows.{range_rows, store_row}
use Rattle.receiver.specs.Stores.{laid}
use Rattle.receiver.proofs.Entering.{NoneMet, entry_taken, laid_received}
use Rattle.receiver.proofs.frame.FillingFrame.cell.Goals as goal

pub returns : goal.returns
returns g c =
    let R = reception_of g.C.Code.trellis g.E.Ending.tail g.I.Interleaver.interleaving g.D.Demapper.demapping c.args.self.now.setup in
    let L = R.link in
    let m = L.m in
    let x = c.args.cell in
    let s = c.in_ok-soft_cell.soft_cell in
    let h = c.in_ok-soft_cell.ensures in
    let n = length c.args.soft.now in
    let granted = c.in_ok-size.ensures.0 in
    let p = granted.planned in
    let short : ltb n (positions L) ≡ false = le-ltb n (positions L) c.in_ok-size.ensures.1 in
    let inside = or_from (ltb 2047 (nat_abs x.in_phase)) (ltb 2047 (nat_abs x.quadrature)) (le-ltb 2047 (nat_abs x.in_phase) h.in_range.in_phase.inside) (le-ltb 2047 (nat_abs x.quadrature) h.in_range.quadrature.inside) in
    let rows : NoneMet (store_row L n ∷ range_rows x) = (short, (inside, (le-ltb 1023 x.weight h.in_range.light, tt))) in
    let value : (k : ℕ) → k < 2 * m → laid m s.in_phase s.quadrature s.weight k ≡ weighted R (bit_in m (received x) k) =
    λ k l. ap (λ (a : List ℤ). laid m a s.quadrature s.weight k) h.in_phase ∙ ap (λ (a : List ℤ). laid m (answers R.demapping m x.in_phase) a s.weight k) h.quadrature
    ∙ ap (λ (w : ℕ). laid m (answers R.demapping m x.in_phase) (answers R.demapping m x.quadrature) w k) h.weight ∙ laid_received R x k p.sizes.few_bits l in
    entry_taken R (received x) s (store_row L n ∷ range_rows x) c.args.self.now c.take.new.self c.args.soft.now c.take.new.soft c.take.result p granted.no_row rows value c.take.ensures
