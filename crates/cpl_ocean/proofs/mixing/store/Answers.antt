use Rattle.std.proofs.Common.{sym, subst, ℕ, ◌+◌, ◌*◌}
use Rattle.cpl_ocean.specs.Mixed.{IsMixedBelow, Mixes}
use Rattle.cpl_ocean.proofs.Stored.{layers_more, left_same}
use Rattle.cpl_ocean.proofs.mixing.store.Goals as goal

pub store_layer-requires-clause-left : goal.store_layer-requires-clause-left
store_layer-requires-clause-left c i j on =
    let before = c.loop-l.invariant in
    left_same c.args.area.now c.args.mix c.args.layers.now c.loop-l.layers (j * c.args.area.now.nx + i) before.count before.left (c.requires.left i j on)

pub loop-l-preserved : goal.loop-l-preserved
loop-l-preserved c =
    let area = c.args.area.now in
    layers_more area c.args.mix c.loop-l.l c.args.layers.now c.loop-l.layers c.store_layer.new.layers c.loop-l.invariant
    (subst (λ (n : ℕ). Mixes area c.args.mix (IsMixedBelow c.loop-l.l n) c.loop-l.layers c.store_layer.new.layers) (sym c.requires.rows) c.store_layer.ensures)
