use Rattle.std.proofs.Common.{length, subst, List}
use Rattle.cpl_fast.specs.Sums.{SumsAre, in_part}
use Rattle.cpl_xgrid.specs.declared.parts.XRow.{XRow}
use Rattle.cpl_xgrid.specs.Rows.{rows_of}
use Rattle.cpl_fast.specs.Surfaces.{land_sums, refs_on}
use Rattle.cpl_fast.proofs.Made.{made_in}
use Rattle.cpl_xgrid.specs.declared.parts.Surface.TheVariants.{Land}
use Rattle.cpl_fast.proofs.land.land_sums.Goals as goal

pub returns-clause-value : goal.returns-clause-value
unfolding land_sums
returns-clause-value c =
    made_in c.part_sums.result c.args.flows.now (length (rows_of c.args.xgrid.now Land)) 0 c.cells_of_land.result.now (refs_on c.args.xgrid.now Land c.args.n) c.cells_of_land.ensures
    (subst (λ (rows : List XRow). SumsAre c.part_sums.result (in_part c.args.flows.now (length rows) 0 c.cells_of_land.result.now)) c.rows.ensures c.part_sums.ensures.value)
