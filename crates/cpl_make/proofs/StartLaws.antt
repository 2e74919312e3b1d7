-- The made start is a lawful state of the made grid.
use Rattle.std.proofs.Common.{◌≡◌, refl, sym, ◌∙◌, ap, subst, Bool, true, false, cond, ◌&&◌, eqb, ℕ, ◌+◌, ◌*◌, ◌<◌, arith, List, length, get_or}
use Rattle.std.specs.Prelude.{ℤ, pos, All}
use Rattle.std.proofs.lemmas.Int.{ints}
use Rattle.std.proofs.lemmas.Bool.{and_right}
use Rattle.std.proofs.lemmas.List.{length-replicate}
use Rattle.std.proofs.lemmas.List.Elements.{All-replicate}
use Rattle.cpl_fixed.specs.Amounts.{at}
use Rattle.cpl_fixed.specs.declared.limits.TheConstants.{PARTS}
use Rattle.cpl_mosaic.specs.Contacts.{cells_of}
use Rattle.cpl_faces.specs.Faces.{faces_of}
use Rattle.cpl_xgrid.specs.declared.grid.Grid.{Grid}
use Rattle.cpl_state.specs.declared.whole.Whole.{Whole}
use Rattle.cpl_state.specs.Stored.{IsStored}
use Rattle.cpl_state.specs.States.{HasLengths, AreStored, IsWhole, IsFaceNumber, HasNone, HasNoneInLayers}
use Rattle.cpl_made_grid.specs.declared.recipe.Recipe.{Recipe}
use Rattle.cpl_made_grid.specs.Shapes.{sphere_tiles, ocean_tiles, ocean_mosaic, air_count, ocean_count}
use Rattle.cpl_made_grid.specs.Shares.{IsSized}
use Rattle.cpl_made_grid.specs.Areas.{land_areas, ocean_areas}
use Rattle.cpl_made_grid.specs.Grids.{made_grid}
use Rattle.cpl_made_grid.specs.Outlets.{is_wet}
use Rattle.cpl_made_grid.proofs.Mosaics.{counts, sphere_cells, ocean_cells}
use Rattle.cpl_made_grid.proofs.OutletLaws.{ocean_length}
use Rattle.cpl_made_grid.proofs.GridLaws.{air_is, land_is, ocean_is, land_length}
use Rattle.cpl_make.specs.declared.sections.Section.{Section}
use Rattle.cpl_make.specs.declared.sections.Section.TheVariants as section
use Rattle.cpl_make.specs.Sections.{AreAreas, made_section, made_parts}
use Rattle.cpl_make.specs.Starts.{made_start, zeros, air_areas}
use Rattle.cpl_make.proofs.SectionLaws.{section_length, section_stored, section_dry, in_layer_of, layer_within, parts_length, parts_stored, part_of_cell, wet_is, dry_is, zeros_at}

and_true : (b : Bool) → (b && true) ≡ b
and_true true = refl
and_true false = refl

module _ (recipe : Recipe) (sized : IsSized recipe.size) where
  abbrev size : ℕ
  size = recipe.size

  air_length : length (air_areas size) ≡ cells_of (sphere_tiles size)
  air_length = length-replicate (air_count size) (pos (ocean_count size)) ∙ sym (sphere_cells size)

  -- a section of one layer
  one : (s : Section) (areas : List ℤ) (cells : ℕ) → length areas ≡ cells → length (made_section recipe.number s 1 areas) ≡ cells
  one s areas cells e = section_length recipe.number s 1 areas ∙ omega arith

  two : (s : Section) → length (made_section recipe.number s 2 (ocean_areas recipe)) ≡ 2 * cells_of (ocean_tiles size)
  two s = let count = ocean_length recipe in let cells = ocean_cells size in section_length recipe.number s 2 (ocean_areas recipe) ∙ omega arith

  none : (width : ℕ) → length (zeros (width * ocean_count size)) ≡ width * cells_of (ocean_tiles size)
  none width = length-replicate (width * ocean_count size) (pos 0) ∙ ap (λ (n : ℕ). width * n) (sym (ocean_cells size))

  land_cells : length (land_areas recipe) ≡ cells_of (sphere_tiles size)
  land_cells = land_length recipe ∙ sym (sphere_cells size)

  pub lengths : HasLengths (made_grid recipe) (made_start recipe)
  unfolding made_grid made_start
  lengths =
      let parts = parts_length 4 (ocean_areas recipe) in
      let count = ocean_length recipe in
      let cells = ocean_cells size in
      record {
        air_heat = one section.AirHeat (air_areas size) (cells_of (sphere_tiles size)) air_length;
        air_vapour = one section.Vapour (air_areas size) (cells_of (sphere_tiles size)) air_length;
        air_sun = one section.Sun (air_areas size) (cells_of (sphere_tiles size)) air_length;
        land_heat = one section.LandHeat (land_areas recipe) (cells_of (sphere_tiles size)) land_cells;
        land_water = one section.LandWater (land_areas recipe) (cells_of (sphere_tiles size)) land_cells;
        parts = omega arith;
        ice = none 3;
        ice_heat = none 3;
        water = two section.OceanWater;
        heat = two section.OceanHeat;
        salt = two section.Salt;
        faces = length-replicate (2 * length (faces_of (ocean_mosaic size))) (pos 0);
        to_ice = none 5;
        to_ocean = none 3;
      }

  zero_stored : IsStored (pos 0)
  zero_stored = (omega (arith, ints), omega (arith, ints))

  zeros_stored : (count : ℕ) → All IsStored (zeros count)
  zeros_stored count = All-replicate IsStored count (pos 0) zero_stored

  pub stored : AreStored (made_start recipe)
  unfolding made_start
  stored =
      let air = (air_is size sized).each in
      let land = (land_is recipe sized).each in
      let ocean = (ocean_is recipe sized).each in
      record {
        elapsed = zero_stored;
        air_heat = section_stored recipe.number section.AirHeat 1 (air_areas size) air;
        air_vapour = section_stored recipe.number section.Vapour 1 (air_areas size) air;
        air_sun = section_stored recipe.number section.Sun 1 (air_areas size) air;
        land_heat = section_stored recipe.number section.LandHeat 1 (land_areas recipe) land;
        land_water = section_stored recipe.number section.LandWater 1 (land_areas recipe) land;
        parts = parts_stored 4 (ocean_areas recipe);
        ice = zeros_stored (3 * ocean_count size);
        ice_heat = zeros_stored (3 * ocean_count size);
        water = section_stored recipe.number section.OceanWater 2 (ocean_areas recipe) ocean;
        heat = section_stored recipe.number section.OceanHeat 2 (ocean_areas recipe) ocean;
        salt = section_stored recipe.number section.Salt 2 (ocean_areas recipe) ocean;
        to_ice = zeros_stored (5 * ocean_count size);
        to_ocean = zeros_stored (3 * ocean_count size);
      }

  -- a dry cell of a layer has nothing
  dry_at : (s : Section) (layers : ℕ) (areas : List ℤ) (layer n : ℕ) → layer < layers → n < length areas → at areas n ≡ pos 0 → at (made_section recipe.number s layers areas) (layer * length areas + n) ≡ pos 0
  dry_at s layers areas layer n layer_in n_in dry =
      section_dry recipe.number s layers areas (layer * length areas + n) (layer_within layers (length areas) layer n layer_in n_in)
      (ap (at areas) (in_layer_of (length areas) layer n n_in) ∙ dry)

  dry_land : (s : Section) (n : ℕ) → n < cells_of (sphere_tiles size) → at (land_areas recipe) n ≡ pos 0 → at (made_section recipe.number s 1 (land_areas recipe)) n ≡ pos 0
  dry_land s n below dry =
      let count = land_cells in
      let first : 0 * length (land_areas recipe) + n ≡ n = omega arith in
      ap (at (made_section recipe.number s 1 (land_areas recipe))) (sym first) ∙ dry_at s 1 (land_areas recipe) 0 n (omega arith) (omega arith) dry

  dry_layers : (s : Section) (n : ℕ) → n < cells_of (ocean_tiles size) → at (ocean_areas recipe) n ≡ pos 0 → HasNoneInLayers 2 (cells_of (ocean_tiles size)) n (made_section recipe.number s 2 (ocean_areas recipe))
  dry_layers s n below dry layer layer_in =
      let count = ocean_length recipe in
      let cells = ocean_cells size in
      let same : cells_of (ocean_tiles size) ≡ length (ocean_areas recipe) = omega arith in
      ap (λ (c : ℕ). at (made_section recipe.number s 2 (ocean_areas recipe)) (layer * c + n)) same ∙ dry_at s 2 (ocean_areas recipe) layer n layer_in (omega arith) dry

  ocean_within : (n : ℕ) → n < cells_of (ocean_tiles size) → n < length (ocean_areas recipe)
  ocean_within n below = let count = ocean_length recipe in let cells = ocean_cells size in omega arith

  no_parts : (n : ℕ) → n < cells_of (ocean_tiles size) → at (ocean_areas recipe) n ≡ pos 0 → HasNone 4 n (made_parts 4 (ocean_areas recipe))
  no_parts n below dry k k_in =
      part_of_cell 4 n k (ocean_areas recipe) k_in (ocean_within n below)
      ∙ ap (λ (b : Bool). cond b PARTS (pos 0)) (and_right (eqb k 0) (is_wet (ocean_areas recipe) n) (dry_is (ocean_areas recipe) n dry))

  no_zeros : (width count n : ℕ) → HasNone width n (zeros count)
  no_zeros width count n k k_in = zeros_at count (n * width + k)

  whole_part : (n : ℕ) → n < cells_of (ocean_tiles size) → (at (ocean_areas recipe) n ≡ pos 0 → ⊥) → (k : ℕ) → k < 4 → get_or (made_parts 4 (ocean_areas recipe)) (n * 4 + k) (pos 0) ≡ cond (eqb k 0) PARTS (pos 0)
  whole_part n below wet k k_in =
      part_of_cell 4 n k (ocean_areas recipe) k_in (ocean_within n below)
      ∙ ap (λ (b : Bool). cond (eqb k 0 && b) PARTS (pos 0)) (wet_is (ocean_areas recipe) n wet)
      ∙ ap (λ (b : Bool). cond b PARTS (pos 0)) (and_true (eqb k 0))

  zero_face : IsFaceNumber (pos 0)
  zero_face = (omega (arith, ints), omega (arith, ints))

  pub start_lawful : IsWhole (made_grid recipe) (made_start recipe)
  unfolding made_grid made_start
  start_lawful = record {
    lengths = lengths;
    stored = stored;
    parts = λ n wet.
        let a = whole_part n wet.0 wet.1 0 (omega arith) in
        let b = whole_part n wet.0 wet.1 1 (omega arith) in
        let c = whole_part n wet.0 wet.1 2 (omega arith) in
        let d = whole_part n wet.0 wet.1 3 (omega arith) in
        omega (arith, ints, a, b, c, d);
    dry_land_heat = λ n dry. dry_land section.LandHeat n dry.0 dry.1;
    dry_land_water = λ n dry. dry_land section.LandWater n dry.0 dry.1;
    dry_ocean = λ n dry. record {
      parts = no_parts n dry.0 dry.1;
      ice = no_zeros 3 (3 * ocean_count size) n;
      ice_heat = no_zeros 3 (3 * ocean_count size) n;
      water = dry_layers section.OceanWater n dry.0 dry.1;
      heat = dry_layers section.OceanHeat n dry.0 dry.1;
      salt = dry_layers section.Salt n dry.0 dry.1;
      to_ice = no_zeros 5 (5 * ocean_count size) n;
      to_ocean = no_zeros 3 (3 * ocean_count size) n;
    };
    faces = record {
      range = λ layer face layer_in face_in. subst IsFaceNumber (sym (zeros_at (2 * length (faces_of (ocean_mosaic size))) (layer * length (faces_of (ocean_mosaic size)) + face))) zero_face;
      dry = λ layer face layer_in face_in dry. zeros_at (2 * length (faces_of (ocean_mosaic size))) (layer * length (faces_of (ocean_mosaic size)) + face);
    };
  }

  -- the same of a grid and a state that are equal to the made ones
  pub lawful_for : (grid : Grid) (whole : Whole) → grid ≡ made_grid recipe → whole ≡ made_start recipe → IsWhole grid whole
  lawful_for grid whole g w = subst (λ (it : Grid). IsWhole it whole) (sym g) (subst (λ (it : Whole). IsWhole (made_grid recipe) it) (sym w) start_lawful)

  -- THE AREAS OF THE MADE GRID

  pub air_for : (grid : Grid) → grid ≡ made_grid recipe → grid.air.area ≡ air_areas size
  unfolding made_grid
  air_for grid g = ap (λ (it : Grid). it.air.area) g

  pub land_for : (grid : Grid) → grid ≡ made_grid recipe → grid.land.area ≡ land_areas recipe
  unfolding made_grid
  land_for grid g = ap (λ (it : Grid). it.land.area) g

  pub ocean_for : (grid : Grid) → grid ≡ made_grid recipe → grid.ocean.area ≡ ocean_areas recipe
  unfolding made_grid
  ocean_for grid g = ap (λ (it : Grid). it.ocean.area) g

  pub faces_for : (grid : Grid) → grid ≡ made_grid recipe → faces_of grid.ocean.mosaic ≡ faces_of (ocean_mosaic size)
  unfolding made_grid
  faces_for grid g = ap (λ (it : Grid). faces_of it.ocean.mosaic) g

  pub air_areas_are : AreAreas (air_areas size)
  air_areas_are =
      let few = (counts size sized).airs_few in
      let count = length-replicate (air_count size) (pos (ocean_count size)) in
      record { cells = omega arith; each = (air_is size sized).each }

  pub land_areas_are : AreAreas (land_areas recipe)
  land_areas_are =
      let few = (counts size sized).airs_few in
      let count = land_length recipe in
      record { cells = omega arith; each = (land_is recipe sized).each }

  pub ocean_areas_are : AreAreas (ocean_areas recipe)
  ocean_areas_are =
      let few = (counts size sized).oceans_few in
      let count = ocean_length recipe in
      record { cells = omega arith; each = (ocean_is recipe sized).each }
