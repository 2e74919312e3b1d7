use Rattle.std.proofs.Common.{take, map}
use Rattle.cpl_rows.specs.Rows.{items_on}
use Rattle.cpl_rows.specs.Found.{AreAt}
use Rattle.cpl_rows.proofs.find.places_of.Given as goal

abbrev pub invariant-loop-item : goal.invariant-loop-item
invariant-loop-item l = AreAt (map (items_on l.exchanges) l.edges) (take l.item-index l.items) l.places.items
