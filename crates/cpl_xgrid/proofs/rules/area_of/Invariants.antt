use Rattle.std.proofs.Common.{◌≡◌, take}
use Rattle.cpl_xgrid.specs.Indexes.{refs_area}
use Rattle.cpl_xgrid.proofs.rules.area_of.Given as goal

abbrev pub invariant-loop-xref : goal.invariant-loop-xref
invariant-loop-xref l = l.sum ≡ refs_area l.land_rows l.ocean_rows (take l.xref-index l.refs)
