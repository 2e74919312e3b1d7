use Rattle.std.proofs.Common.{◌∙◌, sym, subst, ap, arith, ℕ, List, ◌+◌, ◌*◌, ◌<◌, length}
use Rattle.std.proofs.lemmas.List.{get_or_default}
use Rattle.cpl_ocean.specs.Layers.{LayerNumbers, SetsCell, no_layer}
use Rattle.cpl_transport.specs.Cells.{mixed_cell}
use Rattle.cpl_ocean.specs.Columns.{column_left}
use Rattle.cpl_ocean.proofs.Stored.{row_more}
use Rattle.cpl_ocean.proofs.mixing.store_row.Goals as goal

pub loop-i-preserved : goal.loop-i-preserved
loop-i-preserved c =
    let layers : List LayerNumbers = c.loop-i.layers in
    let count = c.loop-i.invariant.count in
    let columns = c.requires.columns in
    let more = c.loop-i-test.true in
    let within : c.args.l < length layers = omega arith in
    let same = get_or_default layers c.args.l c.index-layers-l.result no_layer within in
    row_more c.args.area.now c.args.mix c.args.l c.loop-i.i c.args.j c.args.layers.now layers c.loop-i.invariant within (omega arith, c.requires.row) c.set.new.self c.mixed_cell-it.result
    (subst (λ (layer : LayerNumbers). SetsCell layer.fields c.set.new.self.fields c.loop-i.i c.args.j c.mixed_cell-it.result) same c.set.ensures.fields)
    (c.set.ensures.left ∙ ap (λ (layer : LayerNumbers). layer.left) same)
    (c.mixed_cell-it.ensures ∙ ap (λ (n : ℕ). mixed_cell c.args.mix (length layers) (column_left layers (c.args.j * n + c.loop-i.i)) c.args.l) (sym columns))
