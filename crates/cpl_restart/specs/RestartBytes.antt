-- The bytes of a restart: a mark, the elapsed seconds, and fourteen sections. In version 2 each is followed by a sum.
use Rattle.std.specs.Prelude.{◌≡◌, ℕ, ◌+◌, ◌*◌, ◌^◌, ◌<◌, nat_lt, List, [], ◌∷◌, ◌++◌, length, take, drop, codes, Result, Ok, Err, if◌then◌else◌, ℤ, pos, slice_index, slice_index_or}
use Rattle.std.specs.Int.{w64}
use Rattle.std.specs.Int.RustNames.{FitsSigned}
use Rattle.std.specs.List.{AllByRecursion, flat_map}
use Rattle.std.specs.Str.{bytes_eq}
use Rattle.cpl_fixed.specs.Results.{◌>>=◌}
use Rattle.cpl_xgrid.specs.declared.grid.Grid.{Grid}
use Rattle.cpl_restart.specs.Numbers.{number_bytes, number_in, section_bytes}
use Rattle.cpl_restart.specs.Sections.{section_at, wrapped_sum, after_sum, nothing_after}
use Rattle.cpl_state.specs.States.{air_cells, land_cells, ocean_cells, face_count, layers, categories, part_count, HasLengths}
use Rattle.cpl_restart.specs.Lawful.{judged}
use Rattle.cpl_restart.specs.declared.start_error.StartError.{StartError}
use Rattle.cpl_restart.specs.declared.start_error.StartError.TheVariants.{Short, Magic}
use Rattle.cpl_restart.specs.declared.version.Version.{Version}
use Rattle.cpl_restart.specs.declared.version.Version.TheVariants.{First, Second}
use Rattle.cpl_state.specs.declared.whole.Whole.{Whole}

-- SPELLING

-- the first eight bytes of a restart
abbrev pub first_mark : List ℕ
first_mark = codes "CPLRST01"

abbrev pub second_mark : List ℕ
second_mark = codes "CPLRST02"

abbrev pub mark_of : Version → List ℕ
mark_of First = first_mark
mark_of Second = second_mark

-- the sum that follows these numbers, which version 1 lacks
abbrev pub sum_bytes : Version → List ℤ → List ℕ
sum_bytes First xs = []
sum_bytes Second xs = number_bytes (pos (wrapped_sum xs))

-- the elapsed seconds, with their sum
abbrev pub elapsed_bytes : Version → ℤ → List ℕ
elapsed_bytes version elapsed = number_bytes elapsed ++ sum_bytes version (elapsed ∷ [])

-- a section, with the sum of its count and its numbers
abbrev pub summed_bytes : Version → List ℤ → List ℕ
summed_bytes version xs = section_bytes xs ++ sum_bytes version (pos (length xs) ∷ xs)

-- the sections of a state in their order
abbrev pub sections_of : Whole → List (List ℤ)
sections_of whole =
    whole.air_heat ∷ whole.air_vapour ∷ whole.air_sun ∷ whole.land_heat ∷ whole.land_water
    ∷ whole.parts ∷ whole.ice ∷ whole.ice_heat
    ∷ whole.water ∷ whole.heat ∷ whole.salt ∷ whole.faces ∷ whole.to_ice ∷ whole.to_ocean ∷ []

-- the spelling of a state in a version
unfoldable pub whole_bytes : Version → Whole → List ℕ
whole_bytes version whole = mark_of version ++ elapsed_bytes version whole.elapsed ++ flat_map (summed_bytes version) (sections_of whole)

-- bytes that spell a state in either version
abbrev pub IsSpelled : List ℕ → Whole → Type 0
IsSpelled bytes whole = (version : Version) × (bytes ≡ whole_bytes version whole)

-- READING

-- the version that the mark tells, and the bytes after it
abbrev pub version_at : List ℕ → Result (Version × List ℕ) StartError
version_at bytes =
    if nat_lt (length bytes) 8 then Err Short
    else (if bytes_eq (take 8 bytes) first_mark then Ok (First, drop 8 bytes)
    else (if bytes_eq (take 8 bytes) second_mark then Ok (Second, drop 8 bytes) else Err Magic))

-- the bytes after the sum of a section with these numbers
abbrev pub after_sum_in : Version → ℕ → List ℤ → List ℕ → Result (List ℕ) StartError
after_sum_in First section xs bytes = Ok bytes
after_sum_in Second section xs bytes = after_sum section (wrapped_sum xs) bytes

-- the elapsed seconds, which are section 0 without a count, and the bytes after them
abbrev pub elapsed_at : Version → List ℕ → Result (ℤ × List ℕ) StartError
elapsed_at version bytes =
    if nat_lt (length bytes) 8 then Err Short
    else (after_sum_in version 0 (number_in bytes ∷ []) (drop 8 bytes) >>= λ rest. Ok (number_in bytes, rest))

-- the section of this number, of n numbers, with its sum, and the bytes after them
unfoldable pub summed_at : Version → (section n : ℕ) → List ℕ → Result (List ℤ × List ℕ) StartError
summed_at version section n bytes = do
  numbers ← section_at section n bytes
  rest ← after_sum_in version section (pos (length numbers.0) ∷ numbers.0) numbers.1
  Ok (numbers.0, rest)

-- sections of as many numbers as these counts say, from this section on, and the bytes after them
unfoldable pub sections_at : Version → (section : ℕ) → (counts : List ℕ) → List ℕ → Result (List (List ℤ) × List ℕ) StartError
sections_at version section [] bytes = Ok ([], bytes)
sections_at version section (n ∷ counts) bytes =
    summed_at version section n bytes >>= λ first. (
    sections_at version (section + 1) counts first.1 >>= λ others. Ok (first.0 ∷ others.0, others.1))

-- how many numbers each section of a grid's restart has
abbrev pub counts_of : Grid → List ℕ
counts_of grid =
    air_cells grid ∷ air_cells grid ∷ air_cells grid ∷ land_cells grid ∷ land_cells grid
    ∷ part_count grid * ocean_cells grid ∷ categories grid * ocean_cells grid ∷ categories grid * ocean_cells grid
    ∷ layers grid * ocean_cells grid ∷ layers grid * ocean_cells grid ∷ layers grid * ocean_cells grid ∷ layers grid * face_count grid
    ∷ 5 * ocean_cells grid ∷ 3 * ocean_cells grid ∷ []

-- a state of the elapsed seconds and its sections
abbrev pub section_of : List (List ℤ) → ℕ → List ℤ
section_of sections n = slice_index_or sections n []

abbrev pub whole_with : ℤ → List (List ℤ) → Whole
whole_with elapsed sections = record {
  elapsed = elapsed;
  air_heat = section_of sections 0;
  air_vapour = section_of sections 1;
  air_sun = section_of sections 2;
  land_heat = section_of sections 3;
  land_water = section_of sections 4;
  parts = section_of sections 5;
  ice = section_of sections 6;
  ice_heat = section_of sections 7;
  water = section_of sections 8;
  heat = section_of sections 9;
  salt = section_of sections 10;
  faces = section_of sections 11;
  to_ice = section_of sections 12;
  to_ocean = section_of sections 13;
}

-- all sections of a grid's restart as a state, and the bytes after them
unfoldable pub state_at : Grid → Version → ℤ → List ℕ → Result (Whole × List ℕ) StartError
state_at grid version elapsed bytes =
    sections_at version 1 (counts_of grid) bytes >>= λ sections. Ok (whole_with elapsed sections.0, sections.1)

-- The state of a grid that bytes spell, or their first fault: the mark, then in the order of the file what is missing, of another
-- count or of another sum, then what stands behind the end, then the first rule of lawful states that is broken.
unfoldable pub whole_of : Grid → List ℕ → Result Whole StartError
whole_of grid bytes = do
  start ← version_at bytes
  elapsed ← elapsed_at start.0 start.1
  state ← state_at grid start.0 elapsed.0 elapsed.1
  end ← nothing_after state.1
  lawful ← judged grid state.0
  Ok state.0

-- FAULTS

-- the count of section k + 1
abbrev pub count_of : Grid → ℕ → ℕ
count_of grid k = slice_index (counts_of grid) k

-- a spelling up to its first k sections
unfoldable pub front_bytes : Version → Whole → ℕ → List ℕ
front_bytes version whole k = mark_of version ++ elapsed_bytes version whole.elapsed ++ flat_map (summed_bytes version) (take k (sections_of whole))

-- What the sections of a grid's restart can hold: as many numbers as their counts say, fewer than 2^32, each within 64 bits with a
-- sign.
pub record HasSections (grid : Grid) (whole : Whole) : Type 0 where
  pub lengths : HasLengths grid whole
  pub small : AllByRecursion (λ n. n < 2 ^ 32) (counts_of grid)
  pub elapsed : FitsSigned w64 whole.elapsed
  pub each : AllByRecursion (AllByRecursion (FitsSigned w64)) (sections_of whole)
