use Rattle.std.proofs.Common.{refl, length, subst, List}
use Rattle.cpl_fast.specs.Sums.{SumsAre, in_part}
use Rattle.cpl_xgrid.specs.declared.parts.XRow.{XRow}
use Rattle.cpl_xgrid.specs.Rows.{rows_of}
use Rattle.cpl_xgrid.specs.declared.parts.Surface.TheVariants.{Ocean}
use Rattle.cpl_fast.proofs.Made.{made_in}
use Rattle.cpl_fast.proofs.ocean.open_sums.Goals as goal

pub returns-clause-value : goal.returns-clause-value
returns-clause-value c =
    made_in c.part_sums.result c.args.flows.now (length (rows_of c.args.xgrid.now Ocean)) 0 c.args.refs.now c.args.refs.now refl
    (subst (λ (rows : List XRow). SumsAre c.part_sums.result (in_part c.args.flows.now (length rows) 0 c.args.refs.now)) c.rows.ensures c.part_sums.ensures.value)
