use Rattle.std.proofs.Common.{arith}
use Rattle.std.proofs.lemmas.Int.{ints}
use Rattle.cpl_field.specs.Spots.{CellAt}
use Rattle.cpl_field.proofs.Apart.{sets_by}
use Rattle.cpl_field.proofs.field.Field.set.Goals as goal

pub returns : goal.returns
returns c = sets_by _ c.args.self.now c.self.invariant c.self.view_is (CellAt c.args.i c.args.j) c.requires c.args.x _ (omega (arith, ints)) c.place-there.result c.place-there.ensures
