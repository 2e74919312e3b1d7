-- How long the bytes of a made start are at most.
use Rattle.std.proofs.Common.{◌≡◌, ℕ, ◌+◌, ◌*◌, ◌≤◌, arith, List, [], ◌∷◌, ◌++◌, length}
use Rattle.std.specs.Prelude.{ℤ, pos}
use Rattle.std.specs.List.{flat_map}
use Rattle.std.proofs.lemmas.List.{length-append}
use Rattle.cpl_fixed.specs.declared.limits.TheConstants.{MOST_START_BYTES}
use Rattle.cpl_mosaic.proofs.Agree.{mates_agree}
use Rattle.cpl_faces.proofs.Listed.{are_faces}
use Rattle.cpl_restart.specs.Numbers.{number_bytes, section_bytes, numbers_bytes}
use Rattle.cpl_restart.specs.RestartBytes.{second_mark, sections_of}
use Rattle.cpl_restart.specs.Sections.{wrapped_sum}
use Rattle.cpl_state.specs.declared.whole.Whole.{Whole}
use Rattle.cpl_restart.proofs.Words.{length-number_bytes, length-numbers_bytes}
use Rattle.cpl_made_grid.specs.declared.recipe.Recipe.{Recipe}
use Rattle.cpl_made_grid.specs.Shapes.{ocean_mosaic}
use Rattle.cpl_made_grid.specs.Shares.{IsSized}
use Rattle.cpl_made_grid.specs.Grids.{made_grid}
use Rattle.cpl_made_grid.proofs.Mosaics.{counts, sphere_cells, ocean_cells, ocean_lawful}
use Rattle.cpl_made_grid.proofs.RowLaws.{ocean_numbers}
use Rattle.cpl_make.specs.Starts.{made_start}
use Rattle.cpl_make.proofs.StartLaws.{lengths}

-- a section of version 2, with its sum
abbrev summed : List ℤ → List ℕ
summed xs = section_bytes xs ++ number_bytes (pos (wrapped_sum (pos (length xs) ∷ xs)))

abbrev elapsed_in : Whole → List ℕ
elapsed_in whole = number_bytes whole.elapsed ++ number_bytes (pos (wrapped_sum (whole.elapsed ∷ [])))

-- the spelling of a state in version 2
abbrev pub summed_bytes : Whole → List ℕ
summed_bytes whole = second_mark ++ elapsed_in whole ++ flat_map summed (sections_of whole)

section_size : (xs : List ℤ) → length (summed xs) ≡ 16 + 8 * length xs
section_size xs =
    let count = length-number_bytes (pos (length xs)) in
    let numbers = length-numbers_bytes xs in
    let section = length-append (number_bytes (pos (length xs))) (numbers_bytes xs) in
    let sum = length-number_bytes (pos (wrapped_sum (pos (length xs) ∷ xs))) in
    let both = length-append (section_bytes xs) (number_bytes (pos (wrapped_sum (pos (length xs) ∷ xs)))) in
    omega arith

-- how many numbers lists have
abbrev numbers_of : List (List ℤ) → ℕ
numbers_of [] = 0
numbers_of (xs ∷ others) = length xs + numbers_of others

sections_size : (sections : List (List ℤ)) → length (flat_map summed sections) ≡ 16 * length sections + 8 * numbers_of sections
sections_size [] = omega arith
sections_size (xs ∷ others) =
    let first = section_size xs in
    let rest = sections_size others in
    let both = length-append (summed xs) (flat_map summed others) in
    omega arith

whole_size : (whole : Whole) → length (summed_bytes whole) ≡ 248 + 8 * numbers_of (sections_of whole)
whole_size whole =
    let elapsed = length-number_bytes whole.elapsed in
    let sum = length-number_bytes (pos (wrapped_sum (whole.elapsed ∷ []))) in
    let pair = length-append (number_bytes whole.elapsed) (number_bytes (pos (wrapped_sum (whole.elapsed ∷ [])))) in
    let front = length-append second_mark (elapsed_in whole) in
    let all = length-append (second_mark ++ elapsed_in whole) (flat_map summed (sections_of whole)) in
    let sections = sections_size (sections_of whole) in
    omega arith

pub start_most : (recipe : Recipe) → IsSized recipe.size → length (summed_bytes (made_start recipe)) ≤ MOST_START_BYTES
unfolding made_grid
start_most recipe sized =
    let are = counts recipe.size sized in
    let airs = are.airs_few in
    let oceans = are.oceans_few in
    let air_cells = sphere_cells recipe.size in
    let cells = ocean_cells recipe.size in
    let lawful = ocean_lawful recipe.size sized in
    let faces = (are_faces (ocean_mosaic recipe.size) (ocean_numbers recipe.size sized) (mates_agree (ocean_mosaic recipe.size) lawful)).few in
    let long = lengths recipe sized in
    let size = whole_size (made_start recipe) in
    let a = long.air_heat in
    let b = long.air_vapour in
    let c = long.air_sun in
    let d = long.land_heat in
    let e = long.land_water in
    let f = long.parts in
    let g = long.ice in
    let h = long.ice_heat in
    let i = long.water in
    let j = long.heat in
    let k = long.salt in
    let l = long.faces in
    let m = long.to_ice in
    let n = long.to_ocean in
    omega arith
