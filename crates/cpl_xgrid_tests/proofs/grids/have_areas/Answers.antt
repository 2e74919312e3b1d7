use Rattle.std.proofs.Common.{get_or, rules, arith}
use mir.Val.{SFits}
use mir.Syntax.{w64}
use Rattle.std.proofs.lemmas.Int.{ints}
use Rattle.cpl_xgrid.specs.declared.parts.XRow.{XRow}
use Rattle.cpl_xgrid.specs.Lists.{IsArea}
use Rattle.cpl_xgrid.specs.Indexes.{no_row}
use Rattle.cpl_xgrid_tests.proofs.Each.{each_more}
use Rattle.cpl_xgrid_tests.proofs.grids.have_areas.Goals as goal

pub loop-row-preserved : goal.loop-row-preserved
loop-row-preserved c =
    let fits : SFits w64 (get_or c.args.rows.now c.loop-row.row-index no_row).area = search rules in
    each_more (λ (row : XRow). IsArea row.area) c.args.rows.now c.loop-row.row-index no_row c.loop-row-test.true c.loop-row.invariant (grind (arith, ints), grind (arith, ints))
