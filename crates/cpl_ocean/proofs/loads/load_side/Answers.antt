use Rattle.std.proofs.Common.{◌≡◌, arith}
use Rattle.std.proofs.lemmas.Int.{ints}
use Rattle.cpl_field.specs.Spots.{HoleAt, number_at}
use Rattle.cpl_transport.proofs.Bounds.{read}
use Rattle.cpl_ocean.proofs.Raised.{filled_hole}
use Rattle.cpl_ocean.proofs.loads.load_side.Goals as goal

pub loop-at-preserved : goal.loop-at-preserved
loop-at-preserved c =
    let from = c.args.from.now in
    let value : read c.halo.result ≡ number_at from (HoleAt c.args.side c.loop-at.at c.args.depth) = omega (arith, ints, c.halo.ensures) in
    filled_hole from (number_at from) c.args.side c.args.depth c.loop-at.at c.args.to.now c.loop-at.to c.set_halo.new.self c.requires.shape c.loop-at.invariant (read c.halo.result) c.set_halo.ensures value
