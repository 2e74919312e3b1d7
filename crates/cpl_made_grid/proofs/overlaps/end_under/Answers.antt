-- A cell ends past 0.
use Rattle.std.proofs.Common.{◌∙◌, arith}
use Rattle.cpl_made_grid.proofs.Mosaics.{counts}
use Rattle.cpl_made_grid.proofs.overlaps.end_under.Goals as goal

pub overflow_sub-result : goal.overflow_sub-result
overflow_sub-result c =
    let are = counts c.args.size c.requires.size in
    let some = are.some in
    let more = are.more in
    let oceans = c.from-2.ensures ∙ c.ocean_count.ensures in
    omega arith
