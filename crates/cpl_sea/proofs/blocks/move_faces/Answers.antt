use Rattle.std.proofs.Common.{arith}
use Rattle.cpl_sea.specs.Before.{HasMoved}
use Rattle.cpl_sea.proofs.Moved.{stands_first, stands_on, stands_then}
use Rattle.cpl_sea.proofs.Rows.{one_more}
use Rattle.cpl_sea.proofs.blocks.move_faces.Goals as goal

pub loop-layer-preserved : goal.loop-layer-preserved
loop-layer-preserved c =
    let before = c.args.before.now in
    let from = c.args.from in
    let to = c.args.to in
    let layer = c.loop-layer.layer in
    let moves = c.move_layer.ensures in
    let is = c.loop-layer.invariant in
    record {
      moved = one_more (λ k. HasMoved before k from to c.args.faces.now c.move_layer.new.faces c.args.flows.now c.move_layer.new.flows) layer
          (λ k less. stands_then before from to c.requires.order c.requires.within (is.moved k less) (moves.others k (λ e. omega arith)))
          (stands_first before from to c.requires.order c.requires.within (is.later layer (omega arith)) moves.moved);
      later = λ k l. stands_on before (is.later k (omega arith)) (moves.others k (λ e. omega arith));
      range = moves.range;
    }
