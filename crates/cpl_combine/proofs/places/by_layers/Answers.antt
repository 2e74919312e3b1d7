use Rattle.std.proofs.Common.{◌≡◌, ◌+◌, ◌*◌, arith, refl, map}
use Rattle.cpl_combine.specs.Places.{by_layers}
use Rattle.cpl_combine.proofs.Steps.{rows_next}
use Rattle.cpl_combine.proofs.places.by_layers.Goals as goal

pub loop-layer-preserved : goal.loop-layer-preserved
loop-layer-preserved c = rows_next (λ layer. map (λ n. layer * c.args.count + n) c.args.items.now) c.loop-layer.places.items c.push_layer.new.places.items _ c.loop-layer.layer c.in_ok-push_layer.ensures c.loop-layer.invariant refl

pub returns : goal.returns
unfolding by_layers
returns c =
    let end : c.loop-layer.layer ≡ c.args.layers = omega arith in
    rw (← end) c.loop-layer.invariant
