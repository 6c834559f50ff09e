-- `Layout::cell_and_bit` meets its contract: a cell's number fits its type.
use Rattle.std.proofs.Common.{◌%◌, div-le_self, arith}
use Rattle.std.proofs.lemmas.Nat.{mod_below}
use Rattle.interleaving.specs.Interleaving.{size}
use Rattle.interleaving.proofs.Bounds.{cells_before, size_le, size_some}
use Rattle.interleaving.proofs.layout.Layout.cell_and_bit.Goals as goal

pub overflow_add-result : goal.overflow_add-result
overflow_add-result g c =
    let block = c.args.self.now.block in
    let z = block.sized in
    let X = g.I.Interleaver.interleaving c.args.self.now.interleaver in
    let j = c.args.position in
    let place = X.place_within block.bits block.cells (j % size block.bits block.cells) z c.args.self.now.taken (mod_below j (size block.bits block.cells) (size_some block.bits block.cells z.some_bits z.some_cells)) in
    let few = size_le block.bits block.cells z.few_bits z.few_cells in
    rw (c.positions-positions.ensures, c.from.ensures) (omega (arith, cells_before block.bits block.cells j z.some_bits, c.place-place.ensures, div-le_self c.place-place.result c.cell_bits-cell_bits.result))
