use Rattle.std.proofs.Common.{arith}
use Rattle.std.proofs.lemmas.Int.{ints}
use Rattle.cpl_field.specs.Spots.{CellAt}
use Rattle.cpl_field.proofs.Apart.{read_by}
use Rattle.cpl_field.proofs.field.Field.get.Goals as goal

pub returns : goal.returns
returns c = read_by _ c.args.self.now c.self.invariant c.self.view_is (CellAt c.args.i c.args.j) c.requires c.place.result c.place.ensures c.index.result.now _ c.index.ensures (omega (arith, ints))
