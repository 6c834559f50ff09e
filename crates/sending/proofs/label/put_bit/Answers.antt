-- `label::put_bit` meets its contract: the cell of the position is one of the frame's.
use Rattle.std.proofs.Common.{◌≡◌, ◌*◌, ◌<◌, [], ◌∷◌, ◌++◌, length, get_or, set, sym, ap, ◌∙◌, subst, arith, rules}
use Rattle.interleaving.specs.Interleaving.{size}
use Rattle.interleaving.specs.Blocks.{bit_of, cell_of}
use Rattle.interleaving.proofs.Spots.{every_position_once}
use Rattle.sending.specs.Cells.{in_phase_label, quadrature_label}
use Rattle.sending.specs.Labelling.{Holds, holding, with_bit}
use Rattle.sending.proofs.Labellings.{holds_labels, holds_more, taking_inside}
use Rattle.sending.proofs.Sizes.{no_cell}
use Rattle.sending.proofs.label.put_bit.Goals as goal

pub slice_copy_out-cell_with_bit : goal.slice_copy_out-cell_with_bit
slice_copy_out-cell_with_bit g c =
    let block = c.args.layout.now.block in
    let X = g.I.Interleaver.interleaving c.args.layout.now.interleaver in
    rw c.cell_and_bit-cell.ensures.cell (taking_inside X block.bits block.cells block.sized c.args.layout.now.taken c.args.position c.args.cells.now c.requires.taking)

pub cell_with_bit-requires-clause-labels : goal.cell_with_bit-requires-clause-labels
cell_with_bit-requires-clause-labels g c =
    let t = c.requires.taking in
    let block = c.args.layout.now.block in
    let X = g.I.Interleaver.interleaving c.args.layout.now.interleaver in
    let inside = taking_inside X block.bits block.cells block.sized c.args.layout.now.taken c.args.position c.args.cells.now t in
    rw c.cell_and_bit-cell.ensures.cell (holds_labels X block.bits block.cells t.before c.args.cells.now t.holds (cell_of X block.bits block.cells c.args.position) no_cell inside)

pub bounds-cells-cell : goal.bounds-cells-cell
bounds-cells-cell g c =
    let block = c.args.layout.now.block in
    let X = g.I.Interleaver.interleaving c.args.layout.now.interleaver in
    rw c.cell_and_bit-cell.ensures.cell (taking_inside X block.bits block.cells block.sized c.args.layout.now.taken c.args.position c.args.cells.now c.requires.taking)

pub offset_bounds-cells-cell-2 : goal.offset_bounds-cells-cell-2
offset_bounds-cells-cell-2 g c = let inside = bounds-cells-cell g c in search rules

pub returns : goal.returns
returns g c bs e h =
    let t = c.requires.taking in
    let X = g.I.Interleaver.interleaving c.args.layout.now.interleaver in
    let block = c.args.layout.now.block in
    let m = block.bits in
    let b = block.cells in
    let xs = c.args.cells.now in
    let y = c.cell_with_bit.result in
    let once = every_position_once X m b t.blocks block.sized c.args.layout.now.taken in
    let cell : c.cell_and_bit-cell.result.0 ≡ cell_of X m b (length bs) = c.cell_and_bit-cell.ensures.cell ∙ ap (cell_of X m b) (sym e) in
    let bit : c.cell_and_bit-cell.result.1 ≡ bit_of X m b (length bs) = c.cell_and_bit-cell.ensures.bit ∙ ap (bit_of X m b) (sym e) in
    let room : length bs < t.blocks * size m b = omega (arith, t.room) in
    let inside : cell_of X m b (length bs) < length xs = omega (arith, once.cell_inside (length bs) room, t.sized) in
    let p = in_phase_label X m b bs (cell_of X m b (length bs)) in
    let q = quadrature_label X m b bs (cell_of X m b (length bs)) in
    let held : get_or xs c.cell_and_bit-cell.result.0 no_cell ≡ holding p q = ap (λ x. get_or xs x no_cell) cell ∙ h.at (cell_of X m b (length bs)) no_cell inside in
    let is : y ≡ with_bit m (bit_of X m b (length bs)) c.args.bit p q = c.cell_with_bit.ensures p q held ∙ ap (λ x. with_bit m x c.args.bit p q) bit in
    subst (λ x. Holds X m b (bs ++ c.args.bit ∷ []) (set xs x y)) (sym cell) (holds_more X m b t.blocks once bs c.args.bit xs y room t.sized c.requires.bit h is)
