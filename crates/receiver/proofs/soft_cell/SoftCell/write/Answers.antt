-- `SoftCell::write` meets its contract: each bit of the cell has its position in the store.
use Rattle.std.proofs.Common.{◌≡◌, ℕ, ◌+◌, ◌<◌, length, set, ℤ, sym, ap, ◌∙◌, subst, arith, w32, to_z, of_z, rules}
use Rattle.std.proofs.lemmas.Int.{to_z-of_z}
use Rattle.interleaving.specs.Blocks.{cell_bits, spot}
use Rattle.interleaving.proofs.Spots.{every_position_once}
use Rattle.receiver.specs.Stores.{laid}
use Rattle.receiver.proofs.Laying.{Laid, laid_all, laid_more}
use Rattle.receiver.proofs.Placing.{bit_below, only_spot, spot_in}
use Rattle.receiver.proofs.soft_cell.SoftCell.write.Goals as goal

pub spot-requires-clause-fits : goal.spot-requires-clause-fits
spot-requires-clause-fits g c =
    let X = g.I.Interleaver.interleaving c.args.layout.now.interleaver in
    let L = c.args.layout.now in
    let lt : c.loop-bit.bit < cell_bits L.block.bits = omega (arith, c.loop-bit-test.true, c.cell_bits-bit-end.ensures) in
    let room : spot X L.block.bits L.block.cells c.args.at c.loop-bit.bit < length c.args.soft.now =
    spot_in X L.block.bits L.block.cells L.block.sized L.taken c.requires.0 (length c.args.soft.now) c.args.at c.loop-bit.bit c.requires.1 c.requires.2 lt in
    search rules

pub offset_bounds-soft-spot : goal.offset_bounds-soft-spot
offset_bounds-soft-spot g c =
    let X = g.I.Interleaver.interleaving c.args.layout.now.interleaver in
    let L = c.args.layout.now in
    let lt : c.loop-bit.bit < cell_bits L.block.bits = omega (arith, c.loop-bit-test.true, c.cell_bits-bit-end.ensures) in
    let room : c.spot.result < length c.args.soft.now =
    omega (arith, spot_in X L.block.bits L.block.cells L.block.sized L.taken c.requires.0 (length c.args.soft.now) c.args.at c.loop-bit.bit c.requires.1 c.requires.2 lt, c.spot.ensures) in
    search rules

pub bounds-soft-spot : goal.bounds-soft-spot
bounds-soft-spot g c =
    let X = g.I.Interleaver.interleaving c.args.layout.now.interleaver in
    let L = c.args.layout.now in
    let lt : c.loop-bit.bit < cell_bits L.block.bits = omega (arith, c.loop-bit-test.true, c.cell_bits-bit-end.ensures) in
    omega (arith, spot_in X L.block.bits L.block.cells L.block.sized L.taken c.requires.0 (length c.args.soft.now) c.args.at c.loop-bit.bit c.requires.1 c.requires.2 lt, c.spot.ensures, c.loop-bit.auto.soft)

pub loop-bit-preserved : goal.loop-bit-preserved
loop-bit-preserved g c =
    let X = g.I.Interleaver.interleaving c.args.layout.now.interleaver in
    let L = c.args.layout.now in
    let m = L.block.bits in
    let b = L.block.cells in
    let z = L.block.sized in
    let n = c.requires.0 in
    let at = c.args.at in
    let bit = c.loop-bit.bit in
    let old = c.args.soft.now in
    let new = c.loop-bit.soft in
    let lt : bit < cell_bits m = omega (arith, c.loop-bit-test.true, c.cell_bits-bit-end.ensures) in
    let s = c.args.self.now in
    let value = laid m s.in_phase s.quadrature s.weight in
    let once = every_position_once X m b n z L.taken in
    let room : spot X m b at bit < length old = spot_in X m b z L.taken n (length old) at bit c.requires.1 c.requires.2 lt in
    let more =
    laid_more X m b at value bit old new (spot X m b at bit) c.loop-bit.invariant room (once.spot_cell at bit c.requires.2 lt) (once.spot_bit at bit c.requires.2 lt) (λ i hc hb. only_spot X m b z L.taken i at bit hc hb) in
    let both : set new (spot X m b at bit) (value bit) ≡ set new c.spot.result (to_z w32 (of_z w32 c.weighted.result)) =
    ap (λ (i : ℕ). set new i (value bit)) (sym c.spot.ensures)
    ∙ ap (λ (v : ℤ). set new c.spot.result v) (sym (to_z-of_z w32 c.weighted.result (record { sfits = c.weighted.type_inv }) ∙ c.weighted.ensures ∙ ap (λ (k : ℕ). laid k s.in_phase s.quadrature s.weight bit) c.from-m.ensures)) in
    subst (Laid X m b at value (bit + 1) old) both more

pub returns : goal.returns
returns g c =
    let X = g.I.Interleaver.interleaving c.args.layout.now.interleaver in
    let L = c.args.layout.now in
    let m = L.block.bits in
    let value = laid m c.args.self.now.in_phase c.args.self.now.quadrature c.args.self.now.weight in
    laid_all X m L.block.cells c.args.at value c.loop-bit.bit c.args.soft.now c.loop-bit.soft c.loop-bit.invariant
    (λ j. let h = bit_below X m L.block.cells L.block.sized j in omega (arith, h, c.loop-bit-test.false, c.cell_bits-bit-end.ensures))
