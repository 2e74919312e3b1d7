use Rattle.cpl_rows.proofs.Standing.{not_there}
use Rattle.cpl_rows.proofs.find.place_in.Goals as goal

pub returns-in-Err : goal.returns-in-Err
returns-in-Err c = not_there c.args.numbers.now c.args.number c.in-Err.field-0 c.binary_search.result c.in-Err.is c.binary_search.ensures.position c.requires.rising
