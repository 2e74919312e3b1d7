use Rattle.std.proofs.Common.{◌≡◌, ◌++◌, ◌∷◌, [], ◌&&◌, refl, rules}
use Rattle.cpl_lines.specs.Steps.{is_at_most, capped}
use Rattle.cpl_lines.proofs.Pushed.{goes_on, ends}
use Rattle.cpl_lines.proofs.numbers.push_numbers.Goals.{then-keeps, else-keeps}
use Rattle.cpl_lines.proofs.numbers.push_numbers.Goals as goal

pub returns-in_default : goal.returns-in_default
returns-in_default c =
    ends c.args.most c.loop.keeps c.loop.list.items c.args.count c.loop.counter c.loop.rest.now _ c.loop-test.true c.in_default.ensures c.loop.invariant

pub loop-preserved : goal.loop-preserved
loop-preserved c =
    let keeps : c.if-keeps.keeps ≡ (c.loop.keeps && is_at_most c.args.most c.in-Some.n) =
    elim c.if-keeps.branch [
      | then-keeps w ↦ rw (w.keeps-is, w.if-keeps.true) refl
      | else-keeps w ↦ rw (w.keeps-is, w.if-keeps.false) refl
    ] in
    let added : c.push.new.self.items ≡ c.loop.list.items ++ capped c.args.most c.in-Some.n ∷ [] = search rules in
    rw (keeps, added) (goes_on c.args.most c.loop.keeps c.loop.list.items c.args.count c.loop.counter c.loop.rest.now c.in-Some.n c.in-Some.others.now _ c.loop-test.true c.in-Some.ensures c.loop.invariant)
