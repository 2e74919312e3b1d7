-- Whether a state of the right lengths is lawful, with the first rule that it breaks.
use Rattle.std.specs.Prelude.{ℕ, ◌<◌, ◌/◌, ◌%◌, ◌&&◌, ◌||◌, not, Bool, List, [], ◌∷◌, length, Option, Some, None, Result, Ok, Err, ℤ, pos, neg_ℤ}
use Rattle.std.specs.Int.Signed.{lt_z}
use Rattle.std.specs.List.{find, range_with_len}
use Rattle.std.specs.Ordering.{int_eq}
use Rattle.cpl_fixed.specs.Amounts.{at}
use Rattle.cpl_fixed.specs.Results.{◌>>=◌}
use Rattle.cpl_fixed.specs.Totals.{total_of}
use Rattle.cpl_fixed.specs.declared.limits.TheConstants.{MOST_FACE, PARTS}
use Rattle.cpl_mosaic.specs.declared.mosaic.Mesh.{Mesh}
use Rattle.cpl_xgrid.specs.declared.grid.Grid.{Grid}
use Rattle.cpl_faces.specs.declared.face.Face.{Face}
use Rattle.cpl_restart.specs.Sections.{no_negative}
use Rattle.cpl_faces.specs.Faces.{face_in}
use Rattle.cpl_state.specs.States.{cells_in, ocean_faces, categories, part_count, all_of_cell}
use Rattle.cpl_restart.specs.declared.lawful.Spot.{Spot}
use Rattle.cpl_restart.specs.declared.start_error.StartError.{StartError}
use Rattle.cpl_restart.specs.declared.start_error.StartError.TheVariants.{Parts, Dry, Wall}
use Rattle.cpl_state.specs.declared.whole.Whole.{Whole}

-- the least number below a count that a test finds
abbrev pub least : (ℕ → Bool) → (count : ℕ) → Option ℕ
least test count = find test (range_with_len 0 count)

-- the fault of what was found
abbrev pub if_none : (ℕ → StartError) → Option ℕ → Result (Unit {0}) StartError
if_none fault None = Ok tt
if_none fault (Some n) = Err (fault n)

-- one test after another, up to the first fault
abbrev pub in_turn : {T : Type 0} → (T → Result (Unit {0}) StartError) → List T → Result (Unit {0}) StartError
in_turn test [] = Ok tt
in_turn test (item ∷ items) = test item >>= λ passed. in_turn test items

-- SIGNS

-- the sections of which no number is negative, with their numbers: all but that of the faces. The elapsed seconds are section 0
abbrev pub signed_sections : Whole → List (ℕ × List ℤ)
signed_sections whole =
    (0, whole.elapsed ∷ []) ∷ (1, whole.air_heat) ∷ (2, whole.air_vapour) ∷ (3, whole.air_sun) ∷ (4, whole.land_heat) ∷ (5, whole.land_water)
    ∷ (6, whole.parts) ∷ (7, whole.ice) ∷ (8, whole.ice_heat) ∷ (9, whole.water) ∷ (10, whole.heat) ∷ (11, whole.salt)
    ∷ (13, whole.to_ice) ∷ (14, whole.to_ocean) ∷ []

abbrev pub no_negatives : Whole → Result (Unit {0}) StartError
no_negatives whole = in_turn (λ section. no_negative section.0 section.1) (signed_sections whole)

-- PARTS

-- a cell without an area
abbrev pub is_dry : Mesh → ℕ → Bool
is_dry mesh n = int_eq (at mesh.area n) (pos 0)

-- a cell with water whose parts these are, and which have another sum
abbrev pub are_other_parts : Mesh → ℕ → List ℤ → Bool
are_other_parts mesh n parts = not (is_dry mesh n) && not (int_eq (total_of parts) PARTS)

-- the same, where each cell has this many parts in turn
abbrev pub has_other_parts : Mesh → (width : ℕ) → List ℤ → ℕ → Bool
has_other_parts mesh width parts n = are_other_parts mesh n (all_of_cell width n parts)

abbrev pub whole_parts : Mesh → (width : ℕ) → List ℤ → Result (Unit {0}) StartError
whole_parts mesh width parts = if_none Parts (least (has_other_parts mesh width parts) (cells_in mesh))

-- CELLS WITHOUT AN AREA

-- the numbers of a section by cells: in each layer the cells of a mesh in whole order, and as many numbers for each
pub record Spread : Type 0 where
  pub section : ℕ
  pub mesh : Mesh
  pub width : ℕ
  pub numbers : List ℤ

-- which cell the number at a place is of, and which of the cell's numbers it is
abbrev pub spot_at : (width cells place : ℕ) → Spot
spot_at width cells place = record { cell = place / width % cells; within = place % width }

-- a number other than 0 of a cell without an area
abbrev pub is_left : Mesh → ℕ → ℤ → Bool
is_left mesh n number = not (int_eq number (pos 0)) && is_dry mesh n

abbrev pub is_stray : Mesh → (width : ℕ) → List ℤ → (place : ℕ) → Bool
is_stray mesh width numbers place = is_left mesh (spot_at width (cells_in mesh) place).cell (at numbers place)

abbrev pub no_stray : Spread → Result (Unit {0}) StartError
no_stray it = if_none (Dry it.section) (least (is_stray it.mesh it.width it.numbers) (length it.numbers))

abbrev pub spread : ℕ → Mesh → ℕ → List ℤ → Spread
spread section mesh width numbers = record { section = section; mesh = mesh; width = width; numbers = numbers }

-- the sections of the land and of the ocean, the faces aside
abbrev pub spreads : Grid → Whole → List Spread
spreads grid whole =
    spread 4 grid.land 1 whole.land_heat ∷ spread 5 grid.land 1 whole.land_water
    ∷ spread 6 grid.ocean (part_count grid) whole.parts ∷ spread 7 grid.ocean (categories grid) whole.ice ∷ spread 8 grid.ocean (categories grid) whole.ice_heat
    ∷ spread 9 grid.ocean 1 whole.water ∷ spread 10 grid.ocean 1 whole.heat ∷ spread 11 grid.ocean 1 whole.salt
    ∷ spread 13 grid.ocean 5 whole.to_ice ∷ spread 14 grid.ocean 3 whole.to_ocean ∷ []

abbrev pub no_strays : Grid → Whole → Result (Unit {0}) StartError
no_strays grid whole = in_turn no_stray (spreads grid whole)

-- FACES

-- one of the cells of a face has no area
abbrev pub is_walled : Mesh → Face → Bool
is_walled mesh face = is_dry mesh face.first || is_dry mesh face.second

-- a number out of range, or other than 0 where a wall is
abbrev pub is_wrong : (walled : Bool) → ℤ → Bool
is_wrong walled u = lt_z u (neg_ℤ MOST_FACE) || lt_z MOST_FACE u || (not (int_eq u (pos 0)) && walled)

-- the number at a place, layer by layer, of the faces of a mesh
abbrev pub is_wrong_at : Mesh → List Face → List ℤ → (place : ℕ) → Bool
is_wrong_at mesh faces numbers place = is_wrong (is_walled mesh (face_in faces (place % length faces))) (at numbers place)

abbrev pub right_faces : Mesh → List Face → List ℤ → Result (Unit {0}) StartError
right_faces mesh faces numbers = if_none Wall (least (is_wrong_at mesh faces numbers) (length numbers))

-- both cells of a face are of the mesh
abbrev pub IsFaceOn : Mesh → Face → Type 0
IsFaceOn mesh face = (face.first < cells_in mesh) × (face.second < cells_in mesh)

-- The rules of lawful states, in this order: signs, parts, cells without an area, faces.
abbrev pub judged : Grid → Whole → Result (Unit {0}) StartError
judged grid whole = do
  signs ← no_negatives whole
  parts ← whole_parts grid.ocean (part_count grid) whole.parts
  dry ← no_strays grid whole
  right_faces grid.ocean (ocean_faces grid) whole.faces
