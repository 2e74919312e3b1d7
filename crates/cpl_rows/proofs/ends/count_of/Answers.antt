use Rattle.std.proofs.Common.{◌∙◌, sym}
use Rattle.cpl_rows.proofs.Ended.{sea_count}
use Rattle.cpl_rows.proofs.ends.count_of.Goals as goal

pub returns-in-IceToOcean-clause-count : goal.returns-in-IceToOcean-clause-count
returns-in-IceToOcean-clause-count c = c.cells.ensures.count ∙ sym (sea_count c.args.grid.now c.args.purpose c.in-IceToOcean.is)
