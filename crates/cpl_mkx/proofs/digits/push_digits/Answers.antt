use Rattle.std.proofs.Common.{◌≡◌, ◌++◌, ◌∷◌, [], rules}
use Rattle.cpl_mkx.specs.BoxFormat.{is_one}
use Rattle.cpl_mkx.proofs.WetLines.{goes_on, ends, is_done}
use Rattle.cpl_mkx.proofs.digits.push_digits.Goals as goal

pub returns-in_default : goal.returns-in_default
returns-in_default c =
    ends c.loop.list.items c.args.count c.loop.counter c.loop.rest.now _ c.loop-test.true c.in_default.ensures c.loop.invariant

pub loop-preserved : goal.loop-preserved
loop-preserved c =
    let added : c.push.new.self.items ≡ c.loop.list.items ++ is_one c.in-Some.digit ∷ [] = search rules in
    rw added (goes_on c.loop.list.items c.args.count c.loop.counter c.loop.rest.now c.in-Some.digit c.in-Some.others.now _ c.loop-test.true c.in-Some.ensures c.loop.invariant)

pub returns : goal.returns
returns c = is_done c.loop.list.items c.args.count c.loop.counter c.loop.rest.now _ c.loop-test.false c.loop.invariant
