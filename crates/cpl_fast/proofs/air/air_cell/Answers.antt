use Rattle.std.proofs.Common.{◌≡◌, ◌∙◌, sym, ap, subst, ℕ, ◌*◌, ◌^◌, ◌≤◌, arith, length, List}
use Rattle.std.specs.Prelude.{All}
use Rattle.cpl_fixed.specs.Amounts.{IsAmount}
use Rattle.cpl_xgrid.specs.Lists.{XGridLists}
use Rattle.cpl_xgrid.specs.declared.parts.XRef.{XRef}
use Rattle.cpl_fast.specs.declared.sums.FlowLists.{FlowLists}
use Rattle.cpl_fast.specs.declared.sums.Sums.{Sums}
use Rattle.cpl_fast.specs.Air.{moist, rained, rained_at, refs_at, sums_at, warm}
use Rattle.cpl_fast.specs.Sums.{SumsAre, in_rows, within}
use Rattle.cpl_fast.proofs.Small.{smaller}
use Rattle.cpl_fast.proofs.air.air_cell.Goals as goal

-- the sums that were made
made : (sums : Sums) (xgrid : XGridLists) (flows : FlowLists) (n : ℕ) (refs : List XRef) → refs ≡ refs_at xgrid n → SumsAre sums (in_rows flows refs) → sums ≡ sums_at xgrid flows n
unfolding sums_at
made sums xgrid flows n refs e are =
    let here : SumsAre sums (in_rows flows (refs_at xgrid n)) = subst (λ (r : List XRef). SumsAre sums (in_rows flows r)) e are in
    λ i. record { heat = here.heat i; water = here.water i; sun = here.sun i; rain = here.rain i }

pub air_sums-sums-requires-clause-few : goal.air_sums-sums-requires-clause-few
air_sums-sums-requires-clause-few c = subst (λ (r : List XRef). length r ≤ 1_048_576) (sym c.cells_of_air.ensures) c.requires.can.few

pub air_sums-sums-requires-clause-rows : goal.air_sums-sums-requires-clause-rows
air_sums-sums-requires-clause-rows c = subst (All (within c.args.flows.now)) (sym c.cells_of_air.ensures) c.requires.can.rows

pub let_rain-requires-clause-small : goal.let_rain-requires-clause-small
let_rain-requires-clause-small c =
    let few : length c.cells_of_air.result.now ≤ 1_048_576 = subst (λ (r : List XRef). length r ≤ 1_048_576) (sym c.cells_of_air.ensures) c.requires.can.few in
    smaller (6 * length c.cells_of_air.result.now) (2 ^ 30) c.air_sums-sums.result (omega arith) c.air_sums-sums.ensures.small

pub let_rain-requires-clause-heat : goal.let_rain-requires-clause-heat
let_rain-requires-clause-heat c =
    let e = made c.air_sums-sums.result c.args.xgrid.now c.args.flows.now c.args.n c.cells_of_air.result.now c.cells_of_air.ensures c.air_sums-sums.ensures.value in
    subst (λ (s : Sums). IsAmount (warm c.args.rates.now c.args.air.now s)) (sym e) c.requires.can.heat

pub let_rain-requires-clause-vapour : goal.let_rain-requires-clause-vapour
let_rain-requires-clause-vapour c =
    let e = made c.air_sums-sums.result c.args.xgrid.now c.args.flows.now c.args.n c.cells_of_air.result.now c.cells_of_air.ensures c.air_sums-sums.ensures.value in
    subst (λ (s : Sums). IsAmount (moist c.args.air.now s)) (sym e) c.requires.can.vapour

pub returns-clause-value : goal.returns-clause-value
unfolding rained_at
returns-clause-value c =
    let e = made c.air_sums-sums.result c.args.xgrid.now c.args.flows.now c.args.n c.cells_of_air.result.now c.cells_of_air.ensures c.air_sums-sums.ensures.value in
    c.let_rain.ensures.value ∙ ap (rained c.args.rates.now c.args.air.now) e
