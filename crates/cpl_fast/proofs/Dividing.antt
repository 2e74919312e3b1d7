-- The areas of a state can be set in a room of its grid, and what is set are the areas of its elements and its parts.
use Rattle.std.proofs.Common.{◌≡◌, ◌∙◌, sym, ap, subst, ℕ, zero, suc, ◌+◌, ◌*◌, ◌/◌, ◌%◌, ◌<◌, ◌≤◌, arith, List, length, take}
use Rattle.std.specs.Prelude.{ℤ, pos, ◌≤ℤ◌, All}
use Rattle.std.proofs.lemmas.Int.{ints}
use Rattle.std.proofs.lemmas.List.Elements.{All-from_get_or}
use Rattle.std.proofs.lemmas.Nat.{div_below, mod_below}
use Rattle.std.proofs.Math.Nat.{mul_comm, zero-mul}
use Rattle.cpl_fixed.specs.Amounts.{at}
use Rattle.cpl_fixed.specs.Shares.{share}
use Rattle.cpl_fixed.specs.Totals.{total_of}
use Rattle.cpl_fixed.specs.declared.limits.TheConstants.{PARTS}
use Rattle.cpl_mosaic.specs.Contacts.{cells_of}
use Rattle.cpl_xgrid.specs.declared.grid.Grid.{Grid}
use Rattle.cpl_xgrid.specs.declared.parts.XRow.{XRow}
use Rattle.cpl_xgrid.specs.declared.parts.Surface.{Surface}
use Rattle.cpl_xgrid.specs.declared.parts.Surface.TheVariants.{Land, Ocean}
use Rattle.cpl_xgrid.specs.Lists.{IsArea, XGridLists}
use Rattle.cpl_xgrid.specs.Rows.{rows_of}
use Rattle.cpl_state.specs.declared.whole.Whole.{Whole}
use Rattle.cpl_state.specs.States.{land_cells, ocean_cells, part_count, IsWhole}
use Rattle.cpl_state.specs.Elements.{tiles_of, element_count}
use Rattle.cpl_laws.specs.Once.{IsNumbered}
use Rattle.cpl_laws.proofs.Areas.{element_natural}
use Rattle.cpl_fast.specs.declared.flows.Link.{Link}
use Rattle.cpl_fast.specs.Flows.{link_at}
use Rattle.cpl_fast.specs.Places.{place_in}
use Rattle.cpl_fast.specs.Tables.{AreLinks, CanSumAreas, area_over, cells_on, parts_of, row_in}
use Rattle.cpl_fast.specs.Filled.{AreElementAreas}
use Rattle.cpl_fast.specs.Rooms.{ArePartAreas}
use Rattle.cpl_fast.proofs.Making.{land_areas_are, cell_within, parts_whole, ocean_areas_are, can_sum, sum_is}

-- the areas of the land's rows, as they stand in a list
abbrev pub AreOfRows : List XRow → (areas : List ℤ) → Type 0
AreOfRows rows areas = (m : ℕ) → m < length rows → at areas m ≡ (row_in rows m).area

-- the shares of the ocean's rows over the parts of their cells
abbrev pub AreShared : List XRow → List Link → (parts : List ℤ) → (width : ℕ) → (areas : List ℤ) → Type 0
AreShared rows links parts width areas =
    (m k : ℕ) → m < length rows → k < width
    → at areas (place_in (length rows) m k) ≡ share (row_in rows m).area (total_of (take k (parts_of links parts width m))) (total_of (take (k + 1) (parts_of links parts width m))) PARTS

-- what the ocean's rows need to be shared out
pub record CanShareOut (rows : List XRow) (links : List Link) (parts : List ℤ) (width : ℕ) : Type 0 where
  pub links_count : length links ≡ length rows
  pub ranges : All (λ (row : XRow). IsArea row.area) rows
  pub places : (m : ℕ) → m < length rows → (link_at links m).surface * width + width ≤ length parts
  pub natural : All (λ x. pos 0 ≤ℤ x) parts
  pub all_parts : (m : ℕ) → m < length rows → total_of (parts_of links parts width m) ≡ PARTS

-- where a place is one of rows, there is a row
some_row : (rows width i : ℕ) → i < rows * width → 0 < rows
some_row zero width i l = absurd (let none = zero-mul width in omega (arith, none, l))
some_row (suc rows) width i l = omega arith

module _ (grid : Grid) (is : IsNumbered grid) (whole : Whole) (lawful : IsWhole grid whole) where
  -- THE LAND

  pub land_divided : (rows : List XRow) (areas : List ℤ) → rows ≡ grid.xgrid.land_rows → length areas ≡ length grid.xgrid.land_rows → AreOfRows rows areas → AreElementAreas grid whole Land areas
  land_divided rows areas e count value = land_areas_are grid is whole lawful areas count (subst (λ (r : List XRow). AreOfRows r areas) e value)

  -- THE OCEAN

  module _ (links own_links : List Link) (rows : List XRow) (parts : List ℤ) (width : ℕ) (are : AreLinks grid Ocean own_links)
      (links_is : links ≡ own_links) (rows_is : rows ≡ grid.xgrid.ocean_rows) (parts_is : parts ≡ whole.parts) (width_is : width ≡ part_count grid) where
    own_can : CanShareOut grid.xgrid.ocean_rows own_links whole.parts (part_count grid)
    own_can = record {
      links_count = are.count;
      ranges = is.rules.rows.ocean;
      places = cell_within grid is whole lawful own_links are;
      natural = λ k d l. (lawful.stored.parts k d l).0;
      all_parts = parts_whole grid is whole lawful own_links are;
    }

    pub can_share_out : CanShareOut rows links parts width
    can_share_out = subst (λ (r : List XRow). CanShareOut r links parts width) (sym rows_is)
        (subst (λ (ls : List Link). CanShareOut grid.xgrid.ocean_rows ls parts width) (sym links_is)
        (subst (λ (p : List ℤ). CanShareOut grid.xgrid.ocean_rows own_links p width) (sym parts_is)
        (subst (λ (w : ℕ). CanShareOut grid.xgrid.ocean_rows own_links whole.parts w) (sym width_is) own_can)))

    pub ocean_divided : (areas : List ℤ) → length areas ≡ length grid.xgrid.ocean_rows * part_count grid → AreShared rows links parts width areas → AreElementAreas grid whole Ocean areas
    ocean_divided areas count value =
        ocean_areas_are grid is whole lawful own_links are areas count
        (subst (λ (w : ℕ). AreShared grid.xgrid.ocean_rows own_links whole.parts w areas) width_is
        (subst (λ (p : List ℤ). AreShared grid.xgrid.ocean_rows own_links p width areas) parts_is
        (subst (λ (ls : List Link). AreShared grid.xgrid.ocean_rows ls parts width areas) links_is
        (subst (λ (r : List XRow). AreShared r links parts width areas) rows_is value))))

  -- PARTS

  module _ (list : Surface) (areas : List ℤ) (are : AreElementAreas grid whole list areas) where
    -- no area is negative
    pub areas_natural : All (λ x. pos 0 ≤ℤ x) areas
    areas_natural = All-from_get_or (λ x. pos 0 ≤ℤ x) areas (pos 0) (λ i l. (
        let rows = length (rows_of grid.xgrid list) in
        let count = are.count ∙ mul_comm rows (element_count grid list) in
        let some = some_row rows (element_count grid list) i (omega (arith, are.count, l)) in
        let row = mod_below i rows some in
        let part = div_below i rows (element_count grid list) some (omega (arith, count)) in
        let turn = mul_comm rows (i / rows) in
        let place : place_in rows (i % rows) (i / rows) ≡ i = omega (arith, turn, some) in
        let own = ap (at areas) (sym place) ∙ are.each (i % rows) (i / rows) row part in
        let least = element_natural grid is whole lawful list (i % rows) (i / rows) row in
        omega (arith, ints, own, least)))

    -- the areas of the parts, as they stand in a list
    pub parts_divided : (sums : List ℤ) → length sums ≡ cells_of (tiles_of grid list) * element_count grid list
        → ((n k : ℕ) → n < cells_of (tiles_of grid list) → k < element_count grid list
        → at sums (place_in (cells_of (tiles_of grid list)) n k) ≡ area_over (cells_on grid.xgrid list n) areas (length (rows_of grid.xgrid list)) k)
        → ArePartAreas grid whole list sums
    parts_divided sums count value = record { count = count; each = λ n k l h. value n k l h ∙ sum_is grid is whole lawful list areas are n l k h }

    pub can_sum_cell : (n : ℕ) → n < cells_of (tiles_of grid list) → CanSumAreas (cells_on grid.xgrid list n) areas (length (rows_of grid.xgrid list)) (element_count grid list)
    can_sum_cell n l = can_sum grid is whole lawful list areas are n l

  -- the tiles of the exchange grid are those of the meshes
  pub land_tiles : cells_of grid.xgrid.land ≡ land_cells grid
  land_tiles = ap (λ (xgrid : XGridLists). cells_of xgrid.land) is.rules.lists

  pub ocean_tiles : cells_of grid.xgrid.ocean ≡ ocean_cells grid
  ocean_tiles = ap (λ (xgrid : XGridLists). cells_of xgrid.ocean) is.rules.lists

  -- the areas of the land's one part, as they stand in a list
  pub land_shares : (areas sums : List ℤ)
      → ((n : ℕ) → n < cells_of grid.xgrid.land → at sums n ≡ area_over (cells_on grid.xgrid Land n) areas (length grid.xgrid.land_rows) 0)
      → (n k : ℕ) → n < land_cells grid → k < 1 → at sums (place_in (land_cells grid) n k) ≡ area_over (cells_on grid.xgrid Land n) areas (length grid.xgrid.land_rows) k
  land_shares areas sums value n k l h =
      let first : k ≡ 0 = omega (arith, h) in
      let place : place_in (land_cells grid) n k ≡ n = ap (place_in (land_cells grid) n) first ∙ omega arith in
      ap (at sums) place ∙ value n (let same = land_tiles in omega (arith, same, l)) ∙ ap (area_over (cells_on grid.xgrid Land n) areas (length grid.xgrid.land_rows)) (sym first)

  -- what stands in a list by the counts of its tables
  pub ocean_shares : (areas sums : List ℤ) (cells width : ℕ) → cells ≡ ocean_cells grid → width ≡ part_count grid
      → ((n k : ℕ) → n < cells_of grid.xgrid.ocean → k < width → at sums (place_in cells n k) ≡ area_over (cells_on grid.xgrid Ocean n) areas (length grid.xgrid.ocean_rows) k)
      → (n k : ℕ) → n < ocean_cells grid → k < part_count grid → at sums (place_in (ocean_cells grid) n k) ≡ area_over (cells_on grid.xgrid Ocean n) areas (length grid.xgrid.ocean_rows) k
  ocean_shares areas sums cells width cells_are e value n k l h =
      ap (λ (count : ℕ). at sums (place_in count n k)) (sym cells_are) ∙ value n k (let same = ocean_tiles in omega (arith, same, l)) (omega (arith, h, e))
