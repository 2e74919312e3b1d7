use Rattle.std.proofs.Common.{◌≡◌, arith, w64, to_z, of_z}
use Rattle.std.proofs.lemmas.Int.{ints}
use Rattle.cpl_ice.specs.Slow.{at}
use Rattle.cpl_ice.proofs.Amounts.{amount_at}
use Rattle.cpl_ice.proofs.Totals.{at_most_total}
use Rattle.cpl_ice.proofs.shifts.amount_at.Goals as goal

pub returns : goal.returns
returns c =
    let old = amount_at c.args.xs.now c.args.n c.requires.amounts in
    let most = at_most_total c.args.xs.now c.args.n c.requires.amounts in
    let own : to_z w64 (of_z w64 (at c.args.xs.now c.args.n)) ≡ at c.args.xs.now c.args.n = omega (arith, ints, old.0, old.1) in
    record { value = own; least = omega (arith, ints, own, old.0); most = omega (arith, ints, own, most); amount = (omega (arith, ints, own, old.0), omega (arith, ints, own, old.1)) }
