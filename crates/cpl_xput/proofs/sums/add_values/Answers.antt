use Rattle.std.proofs.Common.{◌+◌, ◌<◌, length, get_or, arith, rules, w64}
use Rattle.std.specs.Prelude.{pos}
use Rattle.std.specs.Int.RustNames.{FitsSigned}
use Rattle.std.proofs.lemmas.Int.{ints}
use Rattle.cpl_xput.proofs.Added.{added_more, added_all, added_fits}
use Rattle.cpl_xput.proofs.sums.add_values.Goals as goal

pub overflow_add-to : goal.overflow_add-to
overflow_add-to c =
    let k = c.loop-k.k in
    let place = get_or c.args.places.now c.loop-k.k 0 in
    let long = c.requires.values in
    let low : place < length c.args.to.now = c.requires.places k 0 c.loop-k-test.true in
    let more = added_fits k c.args.places.now c.args.values.now c.loop-k-test.true (omega arith) in
    let fits = c.requires.sums (k + 1) place in
    let was = c.loop-k.invariant.each place low in
    let fits_sum : FitsSigned w64 (get_or c.loop-k.to place (pos 0)) = search rules in
    let fits_value : FitsSigned w64 (get_or c.args.values.now c.loop-k.k (pos 0)) = search rules in
    omega (arith, ints, fits_sum, fits_value, fits, more, was)

pub loop-k-preserved : goal.loop-k-preserved
loop-k-preserved c =
    let k = c.loop-k.k in
    let place = get_or c.args.places.now c.loop-k.k 0 in
    let long = c.requires.values in
    let low : place < length c.args.to.now = c.requires.places k 0 c.loop-k-test.true in
    let more = added_fits k c.args.places.now c.args.values.now c.loop-k-test.true (omega arith) in
    let fits = c.requires.sums (k + 1) place in
    let was = c.loop-k.invariant.each place low in
    let fits_sum : FitsSigned w64 (get_or c.loop-k.to place (pos 0)) = search rules in
    let fits_value : FitsSigned w64 (get_or c.args.values.now c.loop-k.k (pos 0)) = search rules in
    added_more (length c.args.to.now) k c.args.places.now c.args.values.now c.loop-k.to _ c.loop-k.invariant c.loop-k-test.true (omega arith) low
    (omega (arith, ints, fits_sum, fits_value, fits, more, was))

pub returns : goal.returns
returns c =
    let long = c.requires.values in
    added_all (length c.args.to.now) c.loop-k.k c.args.places.now c.args.values.now c.loop-k.to c.loop-k.invariant (omega arith) (omega arith)
