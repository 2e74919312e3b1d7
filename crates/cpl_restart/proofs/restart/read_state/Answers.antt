use Rattle.std.proofs.Common.{◌≡◌, w64}
use Rattle.std.specs.Int.{cast_signed, cast_unsigned}
use Rattle.std.proofs.lemmas.Int.{to_z-of_z}
use Rattle.std.proofs.lemmas.Result.{err_from_is_err_and}
use Rattle.cpl_restart.proofs.SectionSteps.{exits, fails_here, fails_on, none_left, read_on, state_fails, state_reads}
use Rattle.cpl_restart.proofs.restart.read_state.Goals as goal

pub returns-in_err-air_heat : goal.returns-in_err-air_heat
returns-in_err-air_heat c =
    let p = err_from_is_err_and c.from_residual.result c.from_residual.ensures.1 in
    exits _ _ _ _ _ p.1 p.2 (state_fails _ _ _ _ _ _ c.requires (fails_here _ _ _ _ _ _ c.in_err-air_heat.ensures.exact))

pub returns-in_err-air_vapour : goal.returns-in_err-air_vapour
returns-in_err-air_vapour c =
    let p = err_from_is_err_and c.from_residual-in_err-air_vapour.result c.from_residual-in_err-air_vapour.ensures.1 in
    exits _ _ _ _ _ p.1 p.2 (state_fails _ _ _ _ _ _ c.requires (fails_on _ _ _ _ _ _ _ c.in_ok-air_heat.ensures.exact (fails_here _ _ _ _ _ _ c.in_err-air_vapour.ensures.exact)))

pub returns-in_err-air_sun : goal.returns-in_err-air_sun
returns-in_err-air_sun c =
    let p = err_from_is_err_and c.from_residual-in_err-air_sun.result c.from_residual-in_err-air_sun.ensures.1 in
    exits _ _ _ _ _ p.1 p.2 (state_fails _ _ _ _ _ _ c.requires (fails_on _ _ _ _ _ _ _ c.in_ok-air_heat.ensures.exact (fails_on _ _ _ _ _ _ _ c.in_ok-air_vapour.ensures.exact (fails_here _ _ _ _ _ _ c.in_err-air_sun.ensures.exact))))

pub returns-in_err-land_heat : goal.returns-in_err-land_heat
returns-in_err-land_heat c =
    let p = err_from_is_err_and c.from_residual-in_err-land_heat.result c.from_residual-in_err-land_heat.ensures.1 in
    exits _ _ _ _ _ p.1 p.2 (state_fails _ _ _ _ _ _ c.requires (fails_on _ _ _ _ _ _ _ c.in_ok-air_heat.ensures.exact (fails_on _ _ _ _ _ _ _ c.in_ok-air_vapour.ensures.exact (fails_on _ _ _ _ _ _ _ c.in_ok-air_sun.ensures.exact (fails_here _ _ _ _ _ _ c.in_err-land_heat.ensures.exact)))))

pub returns-in_err-land_water : goal.returns-in_err-land_water
returns-in_err-land_water c =
    let p = err_from_is_err_and c.from_residual-in_err-land_water.result c.from_residual-in_err-land_water.ensures.1 in
    exits _ _ _ _ _ p.1 p.2 (state_fails _ _ _ _ _ _ c.requires (fails_on _ _ _ _ _ _ _ c.in_ok-air_heat.ensures.exact (fails_on _ _ _ _ _ _ _ c.in_ok-air_vapour.ensures.exact (fails_on _ _ _ _ _ _ _ c.in_ok-air_sun.ensures.exact (fails_on _ _ _ _ _ _ _ c.in_ok-land_heat.ensures.exact (fails_here _ _ _ _ _ _ c.in_err-land_water.ensures.exact))))))

pub returns-in_err-parts : goal.returns-in_err-parts
returns-in_err-parts c =
    let p = err_from_is_err_and c.from_residual-in_err-parts.result c.from_residual-in_err-parts.ensures.1 in
    exits _ _ _ _ _ p.1 p.2 (state_fails _ _ _ _ _ _ c.requires (fails_on _ _ _ _ _ _ _ c.in_ok-air_heat.ensures.exact (fails_on _ _ _ _ _ _ _ c.in_ok-air_vapour.ensures.exact (fails_on _ _ _ _ _ _ _ c.in_ok-air_sun.ensures.exact (fails_on _ _ _ _ _ _ _ c.in_ok-land_heat.ensures.exact (fails_on _ _ _ _ _ _ _ c.in_ok-land_water.ensures.exact (fails_here _ _ _ _ _ _ c.in_err-parts.ensures.exact)))))))

pub returns-in_err-ice : goal.returns-in_err-ice
returns-in_err-ice c =
    let p = err_from_is_err_and c.from_residual-in_err-ice.result c.from_residual-in_err-ice.ensures.1 in
    exits _ _ _ _ _ p.1 p.2 (state_fails _ _ _ _ _ _ c.requires (fails_on _ _ _ _ _ _ _ c.in_ok-air_heat.ensures.exact (fails_on _ _ _ _ _ _ _ c.in_ok-air_vapour.ensures.exact (fails_on _ _ _ _ _ _ _ c.in_ok-air_sun.ensures.exact (fails_on _ _ _ _ _ _ _ c.in_ok-land_heat.ensures.exact (fails_on _ _ _ _ _ _ _ c.in_ok-land_water.ensures.exact (fails_on _ _ _ _ _ _ _ c.in_ok-parts.ensures.exact (fails_here _ _ _ _ _ _ c.in_err-ice.ensures.exact))))))))

pub returns-in_err-ice_heat : goal.returns-in_err-ice_heat
returns-in_err-ice_heat c =
    let p = err_from_is_err_and c.from_residual-in_err-ice_heat.result c.from_residual-in_err-ice_heat.ensures.1 in
    exits _ _ _ _ _ p.1 p.2 (state_fails _ _ _ _ _ _ c.requires (fails_on _ _ _ _ _ _ _ c.in_ok-air_heat.ensures.exact (fails_on _ _ _ _ _ _ _ c.in_ok-air_vapour.ensures.exact (fails_on _ _ _ _ _ _ _ c.in_ok-air_sun.ensures.exact (fails_on _ _ _ _ _ _ _ c.in_ok-land_heat.ensures.exact (fails_on _ _ _ _ _ _ _ c.in_ok-land_water.ensures.exact (fails_on _ _ _ _ _ _ _ c.in_ok-parts.ensures.exact (fails_on _ _ _ _ _ _ _ c.in_ok-ice.ensures.exact (fails_here _ _ _ _ _ _ c.in_err-ice_heat.ensures.exact)))))))))

pub returns-in_err-water : goal.returns-in_err-water
returns-in_err-water c =
    let p = err_from_is_err_and c.from_residual-in_err-water.result c.from_residual-in_err-water.ensures.1 in
    exits _ _ _ _ _ p.1 p.2 (state_fails _ _ _ _ _ _ c.requires (fails_on _ _ _ _ _ _ _ c.in_ok-air_heat.ensures.exact (fails_on _ _ _ _ _ _ _ c.in_ok-air_vapour.ensures.exact (fails_on _ _ _ _ _ _ _ c.in_ok-air_sun.ensures.exact (fails_on _ _ _ _ _ _ _ c.in_ok-land_heat.ensures.exact (fails_on _ _ _ _ _ _ _ c.in_ok-land_water.ensures.exact (fails_on _ _ _ _ _ _ _ c.in_ok-parts.ensures.exact (fails_on _ _ _ _ _ _ _ c.in_ok-ice.ensures.exact (fails_on _ _ _ _ _ _ _ c.in_ok-ice_heat.ensures.exact (fails_here _ _ _ _ _ _ c.in_err-water.ensures.exact))))))))))

pub returns-in_err-heat : goal.returns-in_err-heat
returns-in_err-heat c =
    let p = err_from_is_err_and c.from_residual-in_err-heat.result c.from_residual-in_err-heat.ensures.1 in
    exits _ _ _ _ _ p.1 p.2 (state_fails _ _ _ _ _ _ c.requires (fails_on _ _ _ _ _ _ _ c.in_ok-air_heat.ensures.exact (fails_on _ _ _ _ _ _ _ c.in_ok-air_vapour.ensures.exact (fails_on _ _ _ _ _ _ _ c.in_ok-air_sun.ensures.exact (fails_on _ _ _ _ _ _ _ c.in_ok-land_heat.ensures.exact (fails_on _ _ _ _ _ _ _ c.in_ok-land_water.ensures.exact (fails_on _ _ _ _ _ _ _ c.in_ok-parts.ensures.exact (fails_on _ _ _ _ _ _ _ c.in_ok-ice.ensures.exact (fails_on _ _ _ _ _ _ _ c.in_ok-ice_heat.ensures.exact (fails_on _ _ _ _ _ _ _ c.in_ok-water.ensures.exact (fails_here _ _ _ _ _ _ c.in_err-heat.ensures.exact)))))))))))

pub returns-in_err-salt : goal.returns-in_err-salt
returns-in_err-salt c =
    let p = err_from_is_err_and c.from_residual-in_err-salt.result c.from_residual-in_err-salt.ensures.1 in
    exits _ _ _ _ _ p.1 p.2 (state_fails _ _ _ _ _ _ c.requires (fails_on _ _ _ _ _ _ _ c.in_ok-air_heat.ensures.exact (fails_on _ _ _ _ _ _ _ c.in_ok-air_vapour.ensures.exact (fails_on _ _ _ _ _ _ _ c.in_ok-air_sun.ensures.exact (fails_on _ _ _ _ _ _ _ c.in_ok-land_heat.ensures.exact (fails_on _ _ _ _ _ _ _ c.in_ok-land_water.ensures.exact (fails_on _ _ _ _ _ _ _ c.in_ok-parts.ensures.exact (fails_on _ _ _ _ _ _ _ c.in_ok-ice.ensures.exact (fails_on _ _ _ _ _ _ _ c.in_ok-ice_heat.ensures.exact (fails_on _ _ _ _ _ _ _ c.in_ok-water.ensures.exact (fails_on _ _ _ _ _ _ _ c.in_ok-heat.ensures.exact (fails_here _ _ _ _ _ _ c.in_err-salt.ensures.exact))))))))))))

pub returns-in_err-faces : goal.returns-in_err-faces
returns-in_err-faces c =
    let p = err_from_is_err_and c.from_residual-in_err-faces.result c.from_residual-in_err-faces.ensures.1 in
    exits _ _ _ _ _ p.1 p.2 (state_fails _ _ _ _ _ _ c.requires (fails_on _ _ _ _ _ _ _ c.in_ok-air_heat.ensures.exact (fails_on _ _ _ _ _ _ _ c.in_ok-air_vapour.ensures.exact (fails_on _ _ _ _ _ _ _ c.in_ok-air_sun.ensures.exact (fails_on _ _ _ _ _ _ _ c.in_ok-land_heat.ensures.exact (fails_on _ _ _ _ _ _ _ c.in_ok-land_water.ensures.exact (fails_on _ _ _ _ _ _ _ c.in_ok-parts.ensures.exact (fails_on _ _ _ _ _ _ _ c.in_ok-ice.ensures.exact (fails_on _ _ _ _ _ _ _ c.in_ok-ice_heat.ensures.exact (fails_on _ _ _ _ _ _ _ c.in_ok-water.ensures.exact (fails_on _ _ _ _ _ _ _ c.in_ok-heat.ensures.exact (fails_on _ _ _ _ _ _ _ c.in_ok-salt.ensures.exact (fails_here _ _ _ _ _ _ c.in_err-faces.ensures.exact)))))))))))))

pub returns-in_err-to_ice : goal.returns-in_err-to_ice
returns-in_err-to_ice c =
    let p = err_from_is_err_and c.from_residual-in_err-to_ice.result c.from_residual-in_err-to_ice.ensures.1 in
    exits _ _ _ _ _ p.1 p.2 (state_fails _ _ _ _ _ _ c.requires (fails_on _ _ _ _ _ _ _ c.in_ok-air_heat.ensures.exact (fails_on _ _ _ _ _ _ _ c.in_ok-air_vapour.ensures.exact (fails_on _ _ _ _ _ _ _ c.in_ok-air_sun.ensures.exact (fails_on _ _ _ _ _ _ _ c.in_ok-land_heat.ensures.exact (fails_on _ _ _ _ _ _ _ c.in_ok-land_water.ensures.exact (fails_on _ _ _ _ _ _ _ c.in_ok-parts.ensures.exact (fails_on _ _ _ _ _ _ _ c.in_ok-ice.ensures.exact (fails_on _ _ _ _ _ _ _ c.in_ok-ice_heat.ensures.exact (fails_on _ _ _ _ _ _ _ c.in_ok-water.ensures.exact (fails_on _ _ _ _ _ _ _ c.in_ok-heat.ensures.exact (fails_on _ _ _ _ _ _ _ c.in_ok-salt.ensures.exact (fails_on _ _ _ _ _ _ _ c.in_ok-faces.ensures.exact (fails_here _ _ _ _ _ _ c.in_err-to_ice.ensures.exact))))))))))))))

pub returns-in_err-to_ocean : goal.returns-in_err-to_ocean
returns-in_err-to_ocean c =
    let p = err_from_is_err_and c.from_residual-in_err-to_ocean.result c.from_residual-in_err-to_ocean.ensures.1 in
    exits _ _ _ _ _ p.1 p.2 (state_fails _ _ _ _ _ _ c.requires (fails_on _ _ _ _ _ _ _ c.in_ok-air_heat.ensures.exact (fails_on _ _ _ _ _ _ _ c.in_ok-air_vapour.ensures.exact (fails_on _ _ _ _ _ _ _ c.in_ok-air_sun.ensures.exact (fails_on _ _ _ _ _ _ _ c.in_ok-land_heat.ensures.exact (fails_on _ _ _ _ _ _ _ c.in_ok-land_water.ensures.exact (fails_on _ _ _ _ _ _ _ c.in_ok-parts.ensures.exact (fails_on _ _ _ _ _ _ _ c.in_ok-ice.ensures.exact (fails_on _ _ _ _ _ _ _ c.in_ok-ice_heat.ensures.exact (fails_on _ _ _ _ _ _ _ c.in_ok-water.ensures.exact (fails_on _ _ _ _ _ _ _ c.in_ok-heat.ensures.exact (fails_on _ _ _ _ _ _ _ c.in_ok-salt.ensures.exact (fails_on _ _ _ _ _ _ _ c.in_ok-faces.ensures.exact (fails_on _ _ _ _ _ _ _ c.in_ok-to_ice.ensures.exact (fails_here _ _ _ _ _ _ c.in_err-to_ocean.ensures.exact)))))))))))))))

pub returns : goal.returns
returns c =
    let back : cast_signed w64 (cast_unsigned w64 c.args.elapsed) ≡ c.args.elapsed = to_z-of_z w64 c.args.elapsed c.ranges.elapsed in
    state_reads _ _ _ _ _ _ _ c.requires back (read_on _ _ _ _ _ _ _ c.in_ok-air_heat.ensures.exact (read_on _ _ _ _ _ _ _ c.in_ok-air_vapour.ensures.exact (read_on _ _ _ _ _ _ _ c.in_ok-air_sun.ensures.exact (read_on _ _ _ _ _ _ _ c.in_ok-land_heat.ensures.exact (read_on _ _ _ _ _ _ _ c.in_ok-land_water.ensures.exact (read_on _ _ _ _ _ _ _ c.in_ok-parts.ensures.exact (read_on _ _ _ _ _ _ _ c.in_ok-ice.ensures.exact (read_on _ _ _ _ _ _ _ c.in_ok-ice_heat.ensures.exact (read_on _ _ _ _ _ _ _ c.in_ok-water.ensures.exact (read_on _ _ _ _ _ _ _ c.in_ok-heat.ensures.exact (read_on _ _ _ _ _ _ _ c.in_ok-salt.ensures.exact (read_on _ _ _ _ _ _ _ c.in_ok-faces.ensures.exact (read_on _ _ _ _ _ _ _ c.in_ok-to_ice.ensures.exact (read_on _ _ _ _ _ _ _ c.in_ok-to_ocean.ensures.exact (none_left _ _ _)))))))))))))))
