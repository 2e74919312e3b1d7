use Rattle.std.proofs.Common.{◌∙◌, ap, ℕ, List, length, ℤ, to_z, w64}
use Rattle.std.proofs.lemmas.List.{get_or_read}
use Rattle.cpl_field.specs.Spots.{HoleAt, number_at}
use Rattle.cpl_ocean.specs.Layers.{LayerNumbers, layer_at, no_layer}
use Rattle.cpl_ocean.proofs.Sums.{next_sum}
use Rattle.cpl_ocean.proofs.heights.column_of_hole.Goals as goal

pub overflow_add-sum : goal.overflow_add-sum
overflow_add-sum c =
    let layers : List LayerNumbers = c.args.layers.now in
    let column : ℕ → ℤ = λ l. number_at (layer_at layers l).fields.water (HoleAt c.args.side c.args.at 1) in
    let same = get_or_read layers c.loop-l.l c.index-layers-l.result c.loop-l-test.true c.index-layers-l.is no_layer in
    (next_sum column (length layers) c.loop-l.l c.loop-l-test.true c.requires.column.each c.requires.column.total (to_z w64 c.loop-l.sum-bits) c.water_beside-sum.result c.loop-l.invariant
    (c.water_beside-sum.ensures ∙ ap (λ (layer : LayerNumbers). number_at layer.fields.water (HoleAt c.args.side c.args.at 1)) same)).0

pub loop-l-preserved : goal.loop-l-preserved
loop-l-preserved c =
    let layers : List LayerNumbers = c.args.layers.now in
    let column : ℕ → ℤ = λ l. number_at (layer_at layers l).fields.water (HoleAt c.args.side c.args.at 1) in
    let same = get_or_read layers c.loop-l.l c.index-layers-l.result c.loop-l-test.true c.index-layers-l.is no_layer in
    (next_sum column (length layers) c.loop-l.l c.loop-l-test.true c.requires.column.each c.requires.column.total (to_z w64 c.loop-l.sum-bits) c.water_beside-sum.result c.loop-l.invariant
    (c.water_beside-sum.ensures ∙ ap (λ (layer : LayerNumbers). number_at layer.fields.water (HoleAt c.args.side c.args.at 1)) same)).1
