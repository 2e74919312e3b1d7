use Rattle.cpl_ocean.specs.Layers.{IsEmptyLayer}
use Rattle.cpl_ocean.proofs.Each.{each_pushed}
use Rattle.cpl_ocean.proofs.piece.empty_layers.Goals as goal

pub loop-n-preserved : goal.loop-n-preserved
loop-n-preserved c =
    let pushed = each_pushed (IsEmptyLayer c.args.piece.now) c.loop-n._n c.loop-n.list.items c.push.new.self.items c.in_ok-new.field-0 c.loop-n.invariant.count c.loop-n.invariant.each c.in_ok-push.ensures.items c.in_ok-new.ensures in
    record { count = pushed.0; each = pushed.1 }
