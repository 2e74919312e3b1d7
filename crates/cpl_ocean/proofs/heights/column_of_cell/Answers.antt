use Rattle.std.proofs.Common.{◌∙◌, ap, ℕ, List, length, ℤ, to_z, w64}
use Rattle.std.proofs.lemmas.List.{get_or_read}
use Rattle.cpl_field.specs.Spots.{CellAt, number_at}
use Rattle.cpl_ocean.specs.Layers.{LayerNumbers, layer_at, no_layer}
use Rattle.cpl_ocean.proofs.Sums.{next_sum}
use Rattle.cpl_ocean.proofs.heights.column_of_cell.Goals as goal

pub overflow_add-sum : goal.overflow_add-sum
overflow_add-sum c =
    let layers : List LayerNumbers = c.args.layers.now in
    let column : ℕ → ℤ = λ l. number_at (layer_at layers l).fields.water (CellAt c.args.i c.args.j) in
    let same = get_or_read layers c.loop-l.l c.index-layers-l.result c.loop-l-test.true c.index-layers-l.is no_layer in
    (next_sum column (length layers) c.loop-l.l c.loop-l-test.true c.requires.column.each c.requires.column.total (to_z w64 c.loop-l.sum-bits) c.water-sum.result c.loop-l.invariant
    (c.water-sum.ensures ∙ ap (λ (layer : LayerNumbers). number_at layer.fields.water (CellAt c.args.i c.args.j)) same)).0

pub loop-l-preserved : goal.loop-l-preserved
loop-l-preserved c =
    let layers : List LayerNumbers = c.args.layers.now in
    let column : ℕ → ℤ = λ l. number_at (layer_at layers l).fields.water (CellAt c.args.i c.args.j) in
    let same = get_or_read layers c.loop-l.l c.index-layers-l.result c.loop-l-test.true c.index-layers-l.is no_layer in
    (next_sum column (length layers) c.loop-l.l c.loop-l-test.true c.requires.column.each c.requires.column.total (to_z w64 c.loop-l.sum-bits) c.water-sum.result c.loop-l.invariant
    (c.water-sum.ensures ∙ ap (λ (layer : LayerNumbers). number_at layer.fields.water (CellAt c.args.i c.args.j)) same)).1
