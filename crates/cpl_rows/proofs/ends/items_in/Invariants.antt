use Rattle.std.proofs.Common.{◌≡◌, take}
use Rattle.cpl_rows.specs.Ends.{cells_by, items_in}
use Rattle.cpl_rows.proofs.ends.items_in.Given as goal

abbrev pub invariant-loop-item : goal.invariant-loop-item
invariant-loop-item l = l.items.items ≡ items_in l.layout l.p (take l.item (cells_by l.grid l.purpose l.end))
