use Rattle.std.proofs.Common.{arith}
use Rattle.std.proofs.lemmas.Int.{ints}
use Rattle.cpl_ice.proofs.Amounts.{amount_at}
use Rattle.cpl_ice.proofs.cell.IceCell.freeze.Goals as goal

pub add-requires-clause-least : goal.add-requires-clause-least
add-requires-clause-least c =
    let old = amount_at c.args.self.now.ice 0 c.requires.cell.ice in
    omega (arith, ints, old.0)

pub add-requires-2-clause-least : goal.add-requires-2-clause-least
add-requires-2-clause-least c =
    let old = amount_at c.args.self.now.heat 0 c.requires.cell.heat in
    omega (arith, ints, old.0)
