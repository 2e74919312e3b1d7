use Rattle.std.proofs.Common.{arith}
use Rattle.std.proofs.lemmas.Int.{ints}
use Rattle.cpl_mosaic.specs.declared.parts.Side.TheVariants.{W, S}
use Rattle.cpl_field.proofs.Across.{read_east, read_north, told}
use Rattle.cpl_field.proofs.faces.Faces.side.Goals as goal

pub returns-in-W : goal.returns-in-W
returns-in-W c =
    let now = c.args.self.now in
    let read = read_east _ now c.self.invariant c.self.view_is c.args.i c.args.j (omega arith) c.requires.row c.place.result c.place.ensures c.index.result.now c.index.ensures in
    let range = read.0 in
    let tells = told now c.args.i c.args.j W c.args.side c.in-W.is _ c.requires (record { least = omega (arith, ints); most = omega (arith, ints) }) (omega (arith, ints, read.1)) in
    record { value = tells.value; range = tells.range; mate = tells.mate }

pub returns-in-S : goal.returns-in-S
returns-in-S c =
    let now = c.args.self.now in
    let read = read_north _ now c.self.invariant c.self.view_is c.args.i c.args.j c.requires.column (omega arith) c.place-in-S.result c.place-in-S.ensures c.index-in-S.result.now c.index-in-S.ensures in
    let range = read.0 in
    let tells = told now c.args.i c.args.j S c.args.side c.in-S.is _ c.requires (record { least = omega (arith, ints); most = omega (arith, ints) }) (omega (arith, ints, read.1)) in
    record { value = tells.value; range = tells.range; mate = tells.mate }
