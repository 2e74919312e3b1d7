use Rattle.std.proofs.Common.{sym, arith, length}
use Rattle.std.proofs.lemmas.Bool.{eqb-false}
use Rattle.cpl_samples.proofs.Sizes.{small_tiles}
use Rattle.cpl_samples.proofs.tiles.are_small_tiles.Goals as goal

pub returns : goal.returns
returns c =
    let some = eqb-false (length c.args.tiles.now) 0 (sym c.if-is_empty.ensures) in
    small_tiles c.args.tiles.now (omega arith) c.if-tiles-gt16.false (λ k d below. c.loop-tile.invariant k d (omega arith))
