use Rattle.std.proofs.Common.{◌≡◌, map, take}
use Rattle.cpl_fixed.specs.Amounts.{at}
use Rattle.cpl_fixed.specs.Totals.{total_of}
use Rattle.cpl_xgrid.specs.declared.parts.XRef.{XRef}
use Rattle.cpl_fast.specs.Places.{place_in}
use Rattle.cpl_fast.proofs.tables.part_area.Given as goal

abbrev pub invariant-loop-xref : goal.invariant-loop-xref
invariant-loop-xref l = l.sum ≡ total_of (map (λ (ref : XRef). at l.areas (place_in l.rows ref.row l.k)) (take l.xref-index l.refs))
