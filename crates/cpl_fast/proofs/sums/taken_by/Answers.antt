use Rattle.std.proofs.Common.{◌∙◌, sym, subst, ◌^◌, ◌*◌, arith}
use Rattle.std.specs.Prelude.{◌+ℤ◌, ◌*ℤ◌, pos}
use Rattle.cpl_fast.specs.Sums.{IsSmallTaken}
use Rattle.cpl_fast.proofs.Small.{rain_passed, taken_small, water_passed, wider}
use Rattle.cpl_fast.proofs.sums.taken_by.Goals as goal

pub returns-clause-value : goal.returns-clause-value
returns-clause-value c =
    let s = c.args.sums.now in
    let small = wider (2 ^ 43) (2 ^ 44) c.net_heat.result (omega arith) c.net_heat.ensures.small in
    let heat = rain_passed c.net_heat.result s.rain c.from.result small c.requires.rain c.from.ensures ∙ (λ i. c.net_heat.ensures.value i +ℤ (pos 1_426 *ℤ s.rain)) in
    let water = water_passed s.rain s.water c.requires.rain c.requires.water in
    λ i. record { heat = heat i; water = water i }

pub returns-clause-small : goal.returns-clause-small
returns-clause-small c = subst (IsSmallTaken (3 * 2 ^ 42)) (sym (returns-clause-value c)) (taken_small c.args.sums.now c.requires)
