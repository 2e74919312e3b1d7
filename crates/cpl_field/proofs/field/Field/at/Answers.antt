use Rattle.std.proofs.Common.{arith}
use Rattle.std.proofs.lemmas.Int.{ints}
use Rattle.cpl_field.specs.Spots.{out_from}
use Rattle.cpl_field.proofs.Apart.{index_below_by, read_by}
use Rattle.cpl_field.proofs.Out.{out_index}
use Rattle.cpl_field.proofs.field.Field.at.Goals as goal

pub index-requires : goal.index-requires
index-requires c =
    let out = out_index _ c.args.self.now c.self.invariant c.self.view_is c.args.i c.args.j c.args.side c.args.depth c.requires.cell c.requires.some c.requires.depth c.step_out-column.result c.step_out-column.ensures c.place.result c.place.ensures in
    let below = index_below_by _ c.args.self.now c.self.invariant c.self.view_is (out_from c.args.self.now c.args.i c.args.j c.args.side c.args.depth) out.0 c.place.result out.1 in
    omega (arith, c.self.inside.numbers.ok.0)

pub returns : goal.returns
returns c =
    let out = out_index _ c.args.self.now c.self.invariant c.self.view_is c.args.i c.args.j c.args.side c.args.depth c.requires.cell c.requires.some c.requires.depth c.step_out-column.result c.step_out-column.ensures c.place.result c.place.ensures in
    read_by _ c.args.self.now c.self.invariant c.self.view_is (out_from c.args.self.now c.args.i c.args.j c.args.side c.args.depth) out.0 c.place.result out.1 c.index.result.now _ c.index.ensures (omega (arith, ints))
