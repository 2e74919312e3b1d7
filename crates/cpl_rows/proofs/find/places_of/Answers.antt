use Rattle.std.proofs.Common.{map}
use Rattle.cpl_rows.specs.Rows.{items_on}
use Rattle.cpl_rows.proofs.Standing.{at_more}
use Rattle.cpl_rows.proofs.find.places_of.Goals as goal

pub loop-item-preserved : goal.loop-item-preserved
loop-item-preserved c =
    at_more (map (items_on c.args.exchanges.now) c.args.edges.now) c.args.items.now c.loop-item.item-index c.loop-item.places.items c.push.new.self.items c.place_of.result c.loop-item-test.true c.loop-item.invariant c.place_of.ensures
    c.in_ok-push.ensures.items
