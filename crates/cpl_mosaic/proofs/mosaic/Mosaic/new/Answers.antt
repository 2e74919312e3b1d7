use Rattle.cpl_mosaic.proofs.Refusals.{no_range_fault}
use Rattle.cpl_mosaic.proofs.mosaic.Mosaic.new.Goals as goal

pub joined_table-requires-clause-ranges : goal.joined_table-requires-clause-ranges
joined_table-requires-clause-ranges c = no_range_fault c.args.tiles.now c.args.contacts.now c.in_ok-check_ranges.ensures.kept

pub check_self_meetings-requires-clause-ranges : goal.check_self_meetings-requires-clause-ranges
check_self_meetings-requires-clause-ranges c = no_range_fault c.args.tiles.now c.args.contacts.now c.in_ok-check_ranges.ensures.kept
