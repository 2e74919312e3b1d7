use Rattle.std.proofs.Common.{◌+◌, ◌/◌, ◌%◌, ◌<◌, arith}
use Rattle.cpl_atmos.proofs.Divisors.{row_of_place, area_in_column, northward_more, northward_all}
use Rattle.cpl_atmos.proofs.faces.northward_faces.Goals as goal

pub divisor_of-requires-clause-most : goal.divisor_of-requires-clause-most
divisor_of-requires-clause-most c =
    let n = c.loop-n.n in
    let w = c.args.nx in
    let row : n / w < c.args.ny + 1 = row_of_place n w (c.args.ny + 1) (omega arith) c.loop-n-test.true in
    let here = area_in_column c.args.area.now c.requires.width c.requires.areas c.row-south.result.now (n / w) (n % w) (c.row-south.ensures.each (n % w + 1) (omega arith)) (omega arith) (omega arith) in
    here.1

pub divisor_of-requires-clause-other_most : goal.divisor_of-requires-clause-other_most
divisor_of-requires-clause-other_most c =
    let n = c.loop-n.n in
    let w = c.args.nx in
    let row : n / w < c.args.ny + 1 = row_of_place n w (c.args.ny + 1) (omega arith) c.loop-n-test.true in
    let there = area_in_column c.args.area.now c.requires.width c.requires.areas c.row-north.result.now (n / w + 1) (n % w) (c.row-north.ensures.each (n % w + 1) (omega arith)) (omega arith) (omega arith) in
    there.1

pub loop-n-preserved : goal.loop-n-preserved
loop-n-preserved c =
    let n = c.loop-n.n in
    let w = c.args.nx in
    let row : n / w < c.args.ny + 1 = row_of_place n w (c.args.ny + 1) (omega arith) c.loop-n-test.true in
    let here = area_in_column c.args.area.now c.requires.width c.requires.areas c.row-south.result.now (n / w) (n % w) (c.row-south.ensures.each (n % w + 1) (omega arith)) (omega arith) (omega arith) in
    let there = area_in_column c.args.area.now c.requires.width c.requires.areas c.row-north.result.now (n / w + 1) (n % w) (c.row-north.ensures.each (n % w + 1) (omega arith)) (omega arith) (omega arith) in
    northward_more c.args.area.now c.args.nx c.loop-n.faces.items c.push.new.self.items n c.divisor_of.result _ _ c.loop-n.invariant c.in_ok-push.ensures.items c.divisor_of.ensures here.0 there.0

pub returns : goal.returns
returns c = northward_all c.args.area.now c.args.nx c.args.ny c.loop-n.faces.items c.loop-n.n c.requires.columns c.requires.rows (omega arith) c.loop-n.invariant
