use Rattle.std.proofs.Common.{◌≡◌, ◌∙◌, ◌*◌, ◌≤◌, arith, mul-le-mul, w64, to_z, of_z}
use Rattle.std.specs.Prelude.{pos, ◌*ℤ◌}
use Rattle.std.proofs.lemmas.Int.{ints}
use Rattle.std.proofs.lemmas.List.Elements.{All-from_recursion}
use Rattle.cpl_fixed.specs.Ranges.{IsFromℤ}
use Rattle.cpl_state.specs.Budget.{greatest, sun_of_strength}
use Rattle.cpl_plan.proofs.Held.{sun_is}
use Rattle.cpl_plan.proofs.budget.sun_to_come.Goals as goal

pub greatest-requires : goal.greatest-requires
greatest-requires c = All-from_recursion (IsFromℤ 0 4000) c.args.names.now.rates.month c.requires.names.rates.month

pub overflow_mul-result : goal.overflow_mul-result
overflow_mul-result c =
    let names = c.args.names.now in
    let most = c.sun_of_strength-most in
    let steps : c.from.result ≤ 10000 = omega (arith, c.from.ensures, c.requires.names.steps) in
    let fast : c.from-2.result ≤ 1000 = omega (arith, c.from-2.ensures, c.requires.names.fast.1) in
    let few : c.from.result * c.from-2.result ≤ 10000 * 1000 = mul-le-mul steps fast in
    (sun_is c.from-3.result most.result (c.from.result * c.from-2.result) c.from-3.ensures few most.ensures.small.0 most.ensures.small.1).fits

pub returns-clause-value : goal.returns-clause-value
returns-clause-value c =
    let names = c.args.names.now in
    let most = c.sun_of_strength-most in
    let steps : c.from.result ≤ 10000 = omega (arith, c.from.ensures, c.requires.names.steps) in
    let fast : c.from-2.result ≤ 1000 = omega (arith, c.from-2.ensures, c.requires.names.fast.1) in
    let few : c.from.result * c.from-2.result ≤ 10000 * 1000 = mul-le-mul steps fast in
    let own : to_z w64 (of_z w64 c.greatest.result) ≡ c.greatest.result = omega (arith, ints, c.greatest.ensures.range.0, c.greatest.ensures.range.1) in
    let strength : to_z w64 (of_z w64 c.greatest.result) ≡ greatest names.rates.month = own ∙ c.greatest.ensures.value in
    let sun = most.ensures.value ∙ (λ i. sun_of_strength (strength i) (c.as_slice.ensures i)) in
    (sun_is c.from-3.result most.result (c.from.result * c.from-2.result) c.from-3.ensures few most.ensures.small.0 most.ensures.small.1).is
    ∙ (λ i. pos (c.from.ensures i * c.from-2.ensures i) *ℤ sun i)

pub returns-clause-small : goal.returns-clause-small
returns-clause-small c =
    let most = c.sun_of_strength-most in
    let steps : c.from.result ≤ 10000 = omega (arith, c.from.ensures, c.requires.names.steps) in
    let fast : c.from-2.result ≤ 1000 = omega (arith, c.from-2.ensures, c.requires.names.fast.1) in
    let few : c.from.result * c.from-2.result ≤ 10000 * 1000 = mul-le-mul steps fast in
    let sun = sun_is c.from-3.result most.result (c.from.result * c.from-2.result) c.from-3.ensures few most.ensures.small.0 most.ensures.small.1 in
    (sun.least, sun.high)
