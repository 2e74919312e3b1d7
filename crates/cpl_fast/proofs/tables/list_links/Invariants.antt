use Rattle.cpl_fast.specs.Tables.{AreLinked}
use Rattle.cpl_fast.proofs.tables.list_links.Given as goal

abbrev pub invariant-loop-row : goal.invariant-loop-row
invariant-loop-row l = AreLinked l.air.tiles l.surface.tiles l.rows l.row-index l.fn.areas l.links.items l.areas
