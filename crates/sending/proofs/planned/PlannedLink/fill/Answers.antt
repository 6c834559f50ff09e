-- `PlannedLink::fill` meets its contract: blank cells, then labels, then levels.
use Rattle.std.proofs.Common.{◌≡◌, ◌<◌, length, ◌∙◌, arith}
use Rattle.std.proofs.lemmas.List.FromFn.{fill_by_all}
use Rattle.coding.specs.Encoding.{sent_bits}
use Rattle.sending.specs.Cells.{cell_with, in_phase_label, quadrature_label}
use Rattle.sending.specs.Links.{cells, linked}
use Rattle.sending.proofs.Labellings.{holds_labels}
use Rattle.sending.proofs.Sizes.{no_cell}
use Rattle.sending.proofs.planned.PlannedLink.fill.Goals as goal

pub modulate-requires : goal.modulate-requires
modulate-requires g c k d l =
    let L = linked g.C.Code.trellis g.E.Ending.tail g.I.Interleaver.interleaving c.args.self.now.link in
    holds_labels L.interleaving L.m L.B (sent_bits L.coding c.args.message.now) c.encode.new.cells c.encode.ensures k d l

pub returns : goal.returns
returns g c =
    let L = linked g.C.Code.trellis g.E.Ending.tail g.I.Interleaver.interleaving c.args.self.now.link in
    let X = L.interleaving in
    let bs = sent_bits L.coding c.args.message.now in
    let xs = c.modulate.new.cells in
    let size : length c.encode.new.cells ≡ cells L = c.encode.auto.cells ∙ c.blank.auto.cells ∙ c.requires.sized in
    fill_by_all (cell_with X L.m L.B bs) xs (cells L) no_cell (c.modulate.auto.cells ∙ size)
    (λ k l. let inside : k < length c.encode.new.cells = omega (arith, size) in
    c.modulate.ensures k no_cell (in_phase_label X L.m L.B bs k) (quadrature_label X L.m L.B bs k) inside (c.encode.ensures.at k no_cell inside))
