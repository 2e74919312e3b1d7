use Rattle.std.proofs.Common.{arith}
use Rattle.std.proofs.lemmas.Int.{ints}
use Rattle.cpl_field.specs.Spots.{CellAt}
use Rattle.cpl_atmos.proofs.areas.Areas.next_at.Goals as goal

pub overflow_sub-result : goal.overflow_sub-result
overflow_sub-result c =
    let amount = c.requires.amounts (CellAt c.args.i c.args.j) (omega arith, omega arith) in
    omega (arith, ints)

pub returns : goal.returns
returns c =
    let amount = c.requires.amounts (CellAt c.args.i c.args.j) (omega arith, omega arith) in
    omega (arith, ints)
