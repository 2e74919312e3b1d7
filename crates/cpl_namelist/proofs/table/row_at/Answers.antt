use Rattle.std.proofs.Common.{◌≤◌, subst, sym}
use Rattle.cpl_namelist.specs.declared.table.Row.{Row}
use Rattle.cpl_namelist.specs.Table.{row_at}
use Rattle.cpl_namelist.proofs.Rows.{row_small}
use Rattle.cpl_namelist.proofs.table.row_at.Goals as goal

pub returns-clause-value : goal.returns-clause-value
unfolding row_at
returns-clause-value c = c.row_in.ensures

pub returns-clause-small : goal.returns-clause-small
unfolding row_at
returns-clause-small c =
    subst (λ (row : Row). row.count ≤ 12) (sym c.row_in.ensures) (row_small c.args.place)
