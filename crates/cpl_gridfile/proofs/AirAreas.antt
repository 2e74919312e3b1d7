-- The areas of an air grid that is read are above 0.
use Rattle.std.proofs.Common.{◌≡◌, refl, ℕ, ◌<◌, ◌≤◌, List, length, get_or, arith, Bool, true, false, cond, Option, Some, None, Result, Ok, Err, ℤ, pos, negsuc, All}
use Rattle.std.specs.Prelude.{IfOk}
use Rattle.std.specs.List.{position, position_or_len}
use Rattle.std.proofs.lemmas.Int.{ints}
use Rattle.std.proofs.lemmas.Bool.{ltb-false, eqb-false}
use Rattle.std.proofs.lemmas.List.Sums.{fails_before_first}
use Rattle.cpl_fixed.specs.Flows.{IsAirArea}
use Rattle.cpl_fixed.specs.Results.{Returns}
use Rattle.cpl_mosaic.specs.declared.mosaic.Mesh.{Mesh}
use Rattle.cpl_fixed.specs.declared.words.Component.TheVariants.{Atmos}
use Rattle.cpl_gridfile.specs.declared.fault.GridError.{GridError}
use Rattle.cpl_gridfile.specs.Faults.{is_memory}
use Rattle.cpl_gridfile.specs.Within.{IsArea}
use Rattle.cpl_gridfile.specs.Rules.{◌then◌, is_zero, at_cell, mosaic_fault}
use Rattle.cpl_gridfile.specs.Grids.{grid_in}
use Rattle.cpl_gridfile.specs.AirGrid.{IsAirGrid, air_grids}
use Rattle.cpl_gridfile.proofs.Laws.{returned_is_grid}
use Rattle.cpl_gridfile.proofs.AirLaws.{air_agrees}

no_cell : (found : Option ℕ) (others : Option GridError) → (at_cell found then others) ≡ None → found ≡ None
no_cell None others e = refl
no_cell (Some cell) others e = absurd (cc e)

none_passes : (b : Bool) (n : ℕ) → cond b (Some n) None ≡ None → b ≡ false
none_passes true n e = absurd (cc e)
none_passes false n e = refl

-- where no place was found, the test fails at each
fails_everywhere : (p : ℤ → Bool) (xs : List ℤ) → position p xs ≡ None → (i : ℕ) (d : ℤ) → i < length xs → p (get_or xs i d) ≡ false
fails_everywhere p xs e i d lt =
    let past : length xs ≤ position_or_len p xs = ltb-false _ _ (none_passes _ _ e) in
    fails_before_first p xs i d (omega (arith, past))

above_zero : (area : ℤ) → IsArea area → is_zero area ≡ false → IsAirArea area
above_zero (pos n) is e = let ne : n ≡ 0 → ⊥ = eqb-false n 0 e in (omega (arith, ints, ne), is.1)
above_zero (negsuc n) is e = absurd (omega (arith, ints, is.0))

-- the areas of an air mesh that keeps the rule of areas
pub air_areas : (areas : List ℤ) (others : Option GridError) → All IsArea areas → (at_cell (position is_zero areas) then others) ≡ None → All IsAirArea areas
air_areas areas others each rule =
    λ i d lt. above_zero (get_or areas i d) (each i d lt) (fails_everywhere is_zero areas (no_cell (position is_zero areas) others rule) i d lt)

of_air : (returned : Result Mesh GridError) → IfOk returned IsAirGrid → IfOk returned (λ mesh. All IsAirArea mesh.area)
of_air (Ok mesh) is = air_areas mesh.area (mosaic_fault Atmos mesh) is.limits.areas is.rules
of_air (Err fault) is = tt

pub areas_of_air : (bytes : List ℕ) (returned : Result Mesh GridError) → Returns is_memory returned (grid_in air_grids bytes) → IfOk returned (λ mesh. All IsAirArea mesh.area)
areas_of_air bytes returned reads = of_air returned (returned_is_grid air_grids air_agrees bytes returned reads)
