use Rattle.std.proofs.Common.{◌≡◌, ◌∙◌, sym, arith, [], rules}
use Rattle.std.specs.Prelude.{◌∷◌}
use Rattle.std.proofs.lemmas.Int.{ints}
use Rattle.cpl_fast.specs.Rooms.{before_step}
use Rattle.cpl_fast.proofs.AfterStep.{after_is, air_changed, divided_stays, parts_same, sun_same, surface_changed}
use Rattle.cpl_fast.proofs.Small.{passed}
use Rattle.cpl_fast.proofs.Taking.{ice_can, ice_has, ice_takes, land_can, land_has, land_takes}
use Rattle.cpl_fast.proofs.fast.step.Goals as goal

pub take_on_land-land-requires : goal.take_on_land-land-requires
take_on_land-land-requires c =
    let s = before_step c.args.grid.now c.args.rates.now c.args.month c.args.mid.now in
    land_can s c.fill-left.new.self c.swap_air.new.self c.swap_air.new.mid c.fill-left.ensures.flows c.swap_air.ensures.others c.swap_air.ensures.mid

pub take_on_ice-ice-requires : goal.take_on_ice-ice-requires
take_on_ice-ice-requires c =
    let s = before_step c.args.grid.now c.args.rates.now c.args.month c.args.mid.now in
    ice_can s c.fill-left.new.self c.swap_air.new.self c.swap_air.new.mid c.fill-left.ensures.flows c.swap_air.ensures.others c.swap_air.ensures.mid
    c.take_on_land-land.new.self c.take_on_land-land.new.mid c.take_on_land-land.ensures.room c.take_on_land-land.ensures.others

pub returns-clause-value : goal.returns-clause-value
returns-clause-value c =
    let s = before_step c.args.grid.now c.args.rates.now c.args.month c.args.mid.now in
    let land = c.take_on_land-land.new.mid in
    let ice = c.take_on_ice-ice.new.mid in
    after_is s c.fill-left.new.self c.swap_air.new.mid land ice c.swap_air.ensures.mid c.take_on_land-land.ensures.others c.take_on_ice-ice.ensures.others c.fill-left.ensures.air
    (land_has s c.fill-left.new.self c.swap_air.new.self c.swap_air.new.mid c.fill-left.ensures.flows c.swap_air.ensures.others c.swap_air.ensures.mid land c.take_on_land-land.ensures.land)
    (ice_has s c.fill-left.new.self c.swap_air.new.self c.swap_air.new.mid c.fill-left.ensures.flows c.swap_air.ensures.others c.swap_air.ensures.mid
    c.take_on_land-land.new.self land c.take_on_land-land.ensures.room c.take_on_land-land.ensures.others ice c.take_on_ice-ice.ensures.ice)

pub returns-clause-gave : goal.returns-clause-gave
returns-clause-gave c = search rules

pub returns-clause-took : goal.returns-clause-took
returns-clause-took c =
    let s = before_step c.args.grid.now c.args.rates.now c.args.month c.args.mid.now in
    let on_land = c.take_on_land-land.result in
    let on_ice = c.take_on_ice-ice.result in
    let land_heat : passed on_land.heat ≡ on_land.heat = omega (arith, ints) in
    let land_water : passed on_land.water ≡ on_land.water = omega (arith, ints) in
    let ice_heat : passed on_ice.heat ≡ on_ice.heat = omega (arith, ints) in
    let ice_water : passed on_ice.water ≡ on_ice.water = omega (arith, ints) in
    let land = c.take_on_land-land.ensures.taken
    ∙ land_takes s c.fill-left.new.self c.swap_air.new.self c.swap_air.new.mid c.fill-left.ensures.flows c.swap_air.ensures.others c.swap_air.ensures.mid in
    let ice = c.take_on_ice-ice.ensures.taken
    ∙ ice_takes s c.fill-left.new.self c.swap_air.new.self c.swap_air.new.mid c.fill-left.ensures.flows c.swap_air.ensures.others c.swap_air.ensures.mid
    c.take_on_land-land.new.self c.take_on_land-land.new.mid c.take_on_land-land.ensures.room c.take_on_land-land.ensures.others in
    (λ i. land_heat i ∷ land_water i ∷ ice_heat i ∷ ice_water i ∷ []) ∙ (λ i. (land i).heat ∷ (land i).water ∷ (ice i).heat ∷ (ice i).water ∷ [])

pub returns-clause-exchange : goal.returns-clause-exchange
returns-clause-exchange c = returns-clause-gave c ∙ c.fill-left.ensures.flows.seen.lawful.keeps.exchange ∙ sym (returns-clause-took c)

pub returns-clause-room : goal.returns-clause-room
returns-clause-room c =
    let s = before_step c.args.grid.now c.args.rates.now c.args.month c.args.mid.now in
    let air = air_changed s c.fill-left.new.self c.swap_air.new.self c.requires.can c.swap_air.ensures.air c.swap_air.ensures.others c.fill-left.ensures.flows.seen.room in
    let land = surface_changed s c.swap_air.new.self c.take_on_land-land.new.self c.take_on_land-land.ensures.room air in
    let ice = surface_changed s c.take_on_land-land.new.self c.take_on_ice-ice.new.self c.take_on_ice-ice.ensures.room land in
    divided_stays s c.take_on_ice-ice.new.mid
    (parts_same s c.fill-left.new.self c.swap_air.new.mid c.take_on_land-land.new.mid c.take_on_ice-ice.new.mid c.swap_air.ensures.mid c.take_on_land-land.ensures.others c.take_on_ice-ice.ensures.others)
    (sun_same s c.fill-left.new.self c.swap_air.new.mid c.take_on_land-land.new.mid c.take_on_ice-ice.new.mid c.swap_air.ensures.mid c.take_on_land-land.ensures.others c.take_on_ice-ice.ensures.others)
    c.take_on_ice-ice.new.self ice
