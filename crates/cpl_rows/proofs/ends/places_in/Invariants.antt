use Rattle.std.proofs.Common.{◌≡◌, take, map}
use Rattle.cpl_rows.specs.Ends.{place_by}
use Rattle.cpl_rows.proofs.ends.places_in.Given as goal

abbrev pub invariant-loop-item : goal.invariant-loop-item
invariant-loop-item l = l.places.items ≡ map (place_by l.grid l.purpose l.end l.piece) (take l.item-index l.items)
