use Rattle.std.proofs.Common.{sym, subst, ◌^◌, ◌*◌, arith}
use Rattle.cpl_fast.specs.Sums.{IsSmallTaken}
use Rattle.cpl_fast.proofs.Small.{rain_passed, rained_small, water_more, wider}
use Rattle.cpl_fast.proofs.sums.Taken.with_rain.Goals as goal

pub returns-clause-value : goal.returns-clause-value
returns-clause-value c =
    let heat = rain_passed c.args.self.heat c.args.rain c.from.result (wider (3 * 2 ^ 42) (2 ^ 44) c.args.self.heat (omega arith) c.requires.taken.heat) c.requires.rain c.from.ensures in
    let water = water_more c.args.self.water c.args.rain (wider (3 * 2 ^ 42) (2 ^ 44) c.args.self.water (omega arith) c.requires.taken.water) c.requires.rain in
    λ i. record { heat = heat i; water = water i }

pub returns-clause-small : goal.returns-clause-small
returns-clause-small c = subst (IsSmallTaken (2 ^ 44)) (sym (returns-clause-value c)) (rained_small c.args.self c.args.rain c.requires.taken c.requires.rain)
