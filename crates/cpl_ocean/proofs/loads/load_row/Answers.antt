use Rattle.std.proofs.Common.{◌≡◌, arith}
use Rattle.std.proofs.lemmas.Int.{ints}
use Rattle.cpl_field.specs.Spots.{CellAt, number_at}
use Rattle.cpl_transport.proofs.Bounds.{read}
use Rattle.cpl_ocean.proofs.Raised.{filled_cell}
use Rattle.cpl_ocean.proofs.loads.load_row.Goals as goal

pub loop-i-preserved : goal.loop-i-preserved
loop-i-preserved c =
    let from = c.args.from.now in
    let value : read c.get.result ≡ number_at from (CellAt c.loop-i.i c.args.j) = omega (arith, ints, c.get.ensures) in
    filled_cell from (number_at from) c.loop-i.i c.args.j c.args.to.now c.loop-i.to c.set.new.self c.requires.shape c.loop-i.invariant (read c.get.result) c.set.ensures value
