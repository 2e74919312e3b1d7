use Rattle.std.proofs.Common.{◌+◌, pos, get_or, to_z, of_z, w64, arith}
use Rattle.std.proofs.lemmas.Int.{ints}
use Rattle.cpl_group.proofs.Filled.{Filled, filled_more}
use Rattle.cpl_group.proofs.parts.scatter.Goals as goal

pub loop-k-preserved : goal.loop-k-preserved
loop-k-preserved c =
    let before : Filled c.args.holes.now c.args.from c.args.list.now c.loop-k.k c.args.field.now c.loop-k.field = record { shape = c.loop-k.invariant.shape; there = c.loop-k.invariant.there; others = c.loop-k.invariant.others } in
    let after = filled_more c.args.holes.now c.args.from c.args.list.now c.loop-k.k c.args.field.now c.loop-k.field c.set_halo.new.self (to_z w64 (of_z w64 (get_or c.args.list.now (c.args.from + c.loop-k.k) (pos 0)))) (omega arith) c.requires.holes c.requires.once before c.set_halo.ensures (omega (arith, ints)) in
    record { shape = after.shape; there = after.there; others = after.others }
