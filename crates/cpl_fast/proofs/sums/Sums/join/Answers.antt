use Rattle.std.proofs.Common.{sym, subst, ◌+◌}
use Rattle.cpl_fast.specs.Sums.{AreSmall}
use Rattle.cpl_fast.proofs.Small.{joined_small, plus_passed}
use Rattle.cpl_fast.proofs.sums.Sums.join.Goals as goal

pub returns-clause-value : goal.returns-clause-value
returns-clause-value c =
    let a = c.args.self.now in
    let b = c.args.other.now in
    let s = c.requires.small in
    let t = c.requires.other in
    let heat = plus_passed a.heat b.heat s.heat t.heat in
    let water = plus_passed a.water b.water s.water t.water in
    let sun = plus_passed a.sun b.sun s.sun t.sun in
    let rain = plus_passed a.rain b.rain s.rain t.rain in
    λ i. record { heat = heat i; water = water i; sun = sun i; rain = rain i }

pub returns-clause-small : goal.returns-clause-small
returns-clause-small c m n s t = subst (AreSmall (m + n)) (sym (returns-clause-value c)) (joined_small m n c.args.self.now c.args.other.now s t)
