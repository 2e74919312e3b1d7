use Rattle.std.proofs.Common.{arith}
use Rattle.cpl_rows.proofs.Ended.{sea_count, sea_end}
use Rattle.cpl_rows.proofs.ends.ends_at.Goals as goal

pub cell-cell-requires : goal.cell-cell-requires
cell-cell-requires c = let count = sea_count c.args.grid.now c.args.purpose c.in-IceToOcean.is in let below = c.requires in omega arith

pub returns-in-IceToOcean : goal.returns-in-IceToOcean
returns-in-IceToOcean c = sea_end c.args.grid.now c.args.purpose c.in-IceToOcean.is c.args.item c.cell-cell.result c.requires c.cell-cell.ensures
