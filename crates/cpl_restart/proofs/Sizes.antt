-- How many bytes a state has in version 2: never more than a start may have.
use Rattle.std.proofs.Common.{◌≡◌, refl, ℕ, ◌+◌, ◌*◌, ◌^◌, ◌≤◌, arith, List, [], ◌∷◌, ◌++◌, length, length-append, Ok}
use Rattle.std.specs.Prelude.{ℤ, pos}
use Rattle.std.specs.List.{AllByRecursion, flat_map}
use Rattle.std.proofs.lemmas.Nat.{mul-le}
use Rattle.cpl_fixed.specs.declared.limits.TheConstants.{MOST_CELLS, MOST_START_BYTES}
use Rattle.cpl_xgrid.specs.declared.grid.Grid.{Grid}
use Rattle.cpl_xgrid.specs.Lists.{IsColumn}
use Rattle.cpl_state.specs.declared.whole.Whole.{Whole}
use Rattle.cpl_state.specs.States.{HasLengths, IsWhole, air_cells, categories, face_count, land_cells, layers, ocean_cells, part_count}
use Rattle.cpl_restart.specs.Numbers.{number_bytes, numbers_bytes, section_bytes}
use Rattle.cpl_restart.specs.RestartBytes.{counts_of, elapsed_bytes, mark_of, sections_of, sum_bytes, summed_bytes, whole_bytes, whole_of}
use Rattle.cpl_restart.specs.Sections.{wrapped_sum}
use Rattle.cpl_restart.specs.declared.version.Version.TheVariants.{Second}
use Rattle.cpl_restart.proofs.LawfulLaws.{Knows}
use Rattle.cpl_restart.proofs.RestartLaws.{whole_again}
use Rattle.cpl_restart.proofs.Words.{length-number_bytes, length-numbers_bytes}

-- a count, the numbers and a sum
length-summed : (xs : List ℤ) → length (summed_bytes Second xs) ≡ 16 + 8 * length xs
length-summed xs =
    let count = number_bytes (pos (length xs)) in
    let sum = sum_bytes Second (pos (length xs) ∷ xs) in
    omega (
      arith,
      length-append (section_bytes xs) sum,
      length-append count (numbers_bytes xs),
      length-number_bytes (pos (length xs)),
      length-numbers_bytes xs,
      length-number_bytes (pos (wrapped_sum (pos (length xs) ∷ xs))),
    )

-- the bytes of sections
bytes_in : List (List ℤ) → ℕ
bytes_in [] = 0
bytes_in (xs ∷ sections) = 16 + 8 * length xs + bytes_in sections

length-sections : (sections : List (List ℤ)) → length (flat_map (summed_bytes Second) sections) ≡ bytes_in sections
unfolding bytes_in
length-sections [] = refl
length-sections (xs ∷ sections) =
    omega (arith, length-append (summed_bytes Second xs) (flat_map (summed_bytes Second) sections), length-summed xs, length-sections sections)

-- a mark, the elapsed seconds with their sum, and the sections
length-whole : (whole : Whole) → length (whole_bytes Second whole) ≡ 24 + bytes_in (sections_of whole)
unfolding whole_bytes
length-whole whole =
    let mark = mark_of Second in
    let elapsed = elapsed_bytes Second whole.elapsed in
    let text = flat_map (summed_bytes Second) (sections_of whole) in
    let eight : length mark ≡ 8 = refl in
    omega (
      arith,
      length-append (mark ++ elapsed) text,
      length-append mark elapsed,
      eight,
      length-append (number_bytes whole.elapsed) (sum_bytes Second (whole.elapsed ∷ [])),
      length-number_bytes whole.elapsed,
      length-number_bytes (pos (wrapped_sum (whole.elapsed ∷ []))),
      length-sections (sections_of whole),
    )

-- the numbers of all sections together
numbers_in : Whole → ℕ
numbers_in w =
    length w.air_heat + length w.air_vapour + length w.air_sun + length w.land_heat + length w.land_water + length w.parts + length w.ice + length w.ice_heat
    + length w.water + length w.heat + length w.salt + length w.faces + length w.to_ice + length w.to_ocean

bytes_of_numbers : (whole : Whole) → bytes_in (sections_of whole) ≡ 14 * 16 + 8 * numbers_in whole
unfolding bytes_in numbers_in
bytes_of_numbers whole = omega arith

-- what a grid's limits say of it
pub record IsSmall (grid : Grid) : Type 0 where
  pub air : air_cells grid ≤ MOST_CELLS
  pub land : land_cells grid ≤ MOST_CELLS
  pub ocean : ocean_cells grid ≤ MOST_CELLS
  pub faces : face_count grid ≤ 4 * ocean_cells grid
  pub column : IsColumn grid.column

module _ (grid : Grid) (small : IsSmall grid) where
  abbrev ocean : ℕ
  ocean = ocean_cells grid

  parts : part_count grid * ocean ≤ 6 * MOST_CELLS
  parts = mul-le (part_count grid) ocean 6 MOST_CELLS (let k = small.column.categories in omega (arith, k.1)) small.ocean

  ice : categories grid * ocean ≤ 5 * MOST_CELLS
  ice = mul-le (categories grid) ocean 5 MOST_CELLS small.column.categories.1 small.ocean

  water : layers grid * ocean ≤ 8 * MOST_CELLS
  water = mul-le (layers grid) ocean 8 MOST_CELLS small.column.layers.1 small.ocean

  faces : layers grid * face_count grid ≤ 8 * (4 * MOST_CELLS)
  faces = mul-le (layers grid) (face_count grid) 8 (4 * MOST_CELLS) small.column.layers.1 (let few = small.faces in let cells = small.ocean in omega (arith, few, cells))

  most_numbers : (whole : Whole) → HasLengths grid whole → numbers_in whole ≤ 85 * MOST_CELLS
  unfolding numbers_in
  most_numbers whole lengths =
      omega (
        arith,
        small.air,
        small.land,
        small.ocean,
        parts,
        ice,
        water,
        faces,
        lengths.air_heat,
        lengths.air_vapour,
        lengths.air_sun,
        lengths.land_heat,
        lengths.land_water,
        lengths.parts,
        lengths.ice,
        lengths.ice_heat,
        lengths.water,
        lengths.heat,
        lengths.salt,
        lengths.faces,
        lengths.to_ice,
        lengths.to_ocean,
      )

  pub within_limit : (whole : Whole) → HasLengths grid whole → length (whole_bytes Second whole) ≤ MOST_START_BYTES
  within_limit whole lengths = omega (arith, length-whole whole, bytes_of_numbers whole, most_numbers whole lengths)

  counts_small : AllByRecursion (λ n. n ≤ 2 ^ 24) (counts_of grid)
  counts_small =
      let air : air_cells grid ≤ 2 ^ 24 = omega (arith, small.air) in
      let land : land_cells grid ≤ 2 ^ 24 = omega (arith, small.land) in
      let some_ice : categories grid * ocean ≤ 2 ^ 24 = omega (arith, ice) in
      let some_water : layers grid * ocean ≤ 2 ^ 24 = omega (arith, water) in (
        air,
        (
          air,
          (
            air,
            (
              land,
              (
                land,
                (
                  omega (arith, parts),
                  (
                    some_ice,
                    (
                      some_ice,
                      (
                        some_water,
                        (
                          some_water,
                          (
                            some_water,
                            (
                              omega (arith, faces),
                              (omega (arith, small.ocean), (omega (arith, small.ocean), tt)),
                            ),
                          ),
                        ),
                      ),
                    ),
                  ),
                ),
              ),
            ),
          ),
        ),
      )

  -- what is written is read as the same state
  pub written_reads : (whole : Whole) → Knows grid → IsWhole grid whole → whole_of grid (whole_bytes Second whole) ≡ Ok whole
  written_reads whole knows is = whole_again grid Second whole counts_small knows is
