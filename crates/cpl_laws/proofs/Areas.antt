-- The areas of elements are those of their exchange cells, and of their cells.
use Rattle.std.proofs.Common.{◌≡◌, ◌∙◌, refl, sym, ℕ, zero, suc, ◌<◌, arith, [], ◌∷◌, length}
use Rattle.std.specs.Prelude.{ℤ, pos, ◌≤ℤ◌, All}
use Rattle.std.specs.List.{range_with_len}
use Rattle.std.proofs.lemmas.Int.{ints}
use Rattle.std.proofs.lemmas.List.Elements.{All-map}
use Rattle.std.proofs.lemmas.List.FromFn.{length-map-range_with_len}
use Rattle.cpl_fixed.specs.Amounts.{at}
use Rattle.cpl_fixed.specs.Totals.{total_of}
use Rattle.cpl_fixed.specs.Shares.{CanShare}
use Rattle.cpl_fixed.proofs.ShareLaws.{shares_agree}
use Rattle.cpl_mosaic.specs.Contacts.{cells_of}
use Rattle.cpl_xgrid.specs.declared.grid.Grid.{Grid}
use Rattle.cpl_xgrid.specs.declared.parts.Surface.{Surface}
use Rattle.cpl_xgrid.specs.declared.parts.Surface.TheVariants.{Land, Ocean}
use Rattle.cpl_state.specs.declared.whole.Whole.{Whole}
use Rattle.cpl_state.specs.States.{air_cells, part_count, all_of_cell, of_cell, IsWhole, IsWet}
use Rattle.cpl_state.specs.Elements.{tiles_of, surface_number, refs_of_air_cell, refs_of_surface_cell, element_count, areas_in, element_area, over_elements, over_all, part_area}
use Rattle.cpl_diffusion.proofs.Sums.{sum_to, sum_to-above}
use Rattle.cpl_laws.specs.Once.{IsNumbered}
use Rattle.cpl_laws.specs.Cells.{mesh_of}
use Rattle.cpl_laws.proofs.Sums.{total_range, total_swap}
use Rattle.cpl_laws.proofs.Groups.{total_same, total_natural}
use Rattle.cpl_laws.proofs.Elements.{ref_in, at_natural, sum_at, rows_in, row_of, row_area, area_in, surface_below, each_of_surface, each_of_air, one_of_surface, on_surface, in_air, row_on_surface}

one_natural : (x : ℤ) → pos 0 ≤ℤ x → All (λ x. pos 0 ≤ℤ x) (x ∷ [])
one_natural x h zero d l = h
one_natural x h (suc k) d l = absurd (omega arith)

module _ (grid : Grid) (is : IsNumbered grid) (whole : Whole) (lawful : IsWhole grid whole) where
  -- the cell of an exchange cell of the ocean list has an area
  pub wet : (m : ℕ) → m < length (rows_in grid is Ocean) → IsWet grid.ocean (surface_number grid (ref_in Ocean m))
  wet m l =
      let some = row_area grid is Ocean m l in
      let most = row_on_surface grid is Ocean m l in
      (surface_below grid is Ocean m l, λ e. absurd (omega (arith, ints, some.0, most, e)))

  -- the parts of a cell
  pub parts_natural : (n : ℕ) → All (λ x. pos 0 ≤ℤ x) (all_of_cell (part_count grid) n whole.parts)
  parts_natural n =
      All-map (λ x. pos 0 ≤ℤ x) (λ k. of_cell (part_count grid) n k whole.parts) (range_with_len 0 (part_count grid))
      (λ k d l. at_natural whole.parts (λ k d l. (lawful.stored.parts k d l).0) _)

  -- the areas of the elements of an exchange cell: one for each, none negative, and together the exchange cell's
  pub record AreAreas (list : Surface) (m : ℕ) : Type 0 where
    pub count : length (areas_in grid whole (ref_in list m)) ≡ element_count grid list
    pub total : total_of (areas_in grid whole (ref_in list m)) ≡ (row_of grid is list m).area
    pub least : All (λ x. pos 0 ≤ℤ x) (areas_in grid whole (ref_in list m))

  pub areas_are : (list : Surface) (m : ℕ) → m < length (rows_in grid is list) → AreAreas list m
  unfolding areas_in
  areas_are Land m l =
      let some = row_area grid is Land m l in
      record { count = refl; total = omega (arith, ints); least = λ k d h. one_natural (row_of grid is Land m).area (omega (arith, ints, some.0)) k d h }
  areas_are Ocean m l =
      let n = surface_number grid (ref_in Ocean m) in
      let some = row_area grid is Ocean m l in
      let parts = all_of_cell (part_count grid) n whole.parts in
      let whole_parts = lawful.parts n (wet m l) in
      let can : CanShare (row_of grid is Ocean m).area parts = record { amount_least = omega (arith, ints, some.0); each = parts_natural n; some = omega (arith, ints, whole_parts) } in
      let agree = shares_agree (row_of grid is Ocean m).area parts can in
      record { count = agree.count ∙ length-map-range_with_len (λ k. of_cell (part_count grid) n k whole.parts) 0 (part_count grid); total = agree.total; least = agree.least }

  -- an element's area
  pub element_natural : (list : Surface) (m k : ℕ) → m < length (rows_in grid is list) → pos 0 ≤ℤ element_area grid whole (ref_in list m) k
  element_natural list m k l = at_natural (areas_in grid whole (ref_in list m)) (areas_are list m l).least k

  -- all elements of an exchange cell
  pub elements_total : (list : Surface) (m : ℕ) → m < length (rows_in grid is list) → over_elements grid (element_area grid whole) (ref_in list m) ≡ (row_of grid is list m).area
  elements_total list m l =
      let are = areas_are list m l in
      sum_at (areas_in grid whole (ref_in list m)) (element_count grid list) are.count ∙ are.total

  -- all elements of a cell
  pub air_elements : (n : ℕ) → n < air_cells grid → over_all grid (element_area grid whole) (refs_of_air_cell grid n) ≡ at grid.air.area n
  air_elements n l =
      total_same (over_elements grid (element_area grid whole)) (area_in grid is) (refs_of_air_cell grid n)
      (each_of_air grid is (λ ref. over_elements grid (element_area grid whole) ref ≡ area_in grid is ref) n l (λ list m h e. elements_total list m h))
      ∙ in_air grid is n l

  -- the parts of a cell's area
  pub part_areas : (list : Surface) (n : ℕ) → n < cells_of (tiles_of grid list) → sum_to (part_area grid whole list n) (element_count grid list) ≡ at (mesh_of grid list).area n
  unfolding part_area
  part_areas list n l =
      let count = element_count grid list in
      let refs = refs_of_surface_cell grid list n in
      sym (total_swap (element_area grid whole) count refs)
      ∙ total_same (λ ref. sum_to (element_area grid whole ref) count) (area_in grid is) refs
      (each_of_surface grid is (λ ref. sum_to (element_area grid whole ref) count ≡ area_in grid is ref) list n l (λ m h e.
      sym (total_range (element_area grid whole (ref_in list m)) count) ∙ elements_total list m h))
      ∙ on_surface grid is list n l

  pub part_natural : (list : Surface) (n k : ℕ) → n < cells_of (tiles_of grid list) → pos 0 ≤ℤ part_area grid whole list n k
  unfolding part_area
  part_natural list n k l = total_natural (λ ref. element_area grid whole ref k) (refs_of_surface_cell grid list n) (each_of_surface grid is (λ ref. pos 0 ≤ℤ element_area grid whole ref k) list n l (λ m h e. element_natural list m k h))

  pub part_most : (list : Surface) (n k : ℕ) → n < cells_of (tiles_of grid list) → k < element_count grid list → part_area grid whole list n k ≤ℤ at (mesh_of grid list).area n
  part_most list n k l h =
      let sum = part_areas list n l in
      let most = sum_to-above (part_area grid whole list n) (element_count grid list) (λ j i. part_natural list n j l) k h in
      omega (arith, ints, sum, most)

  -- an element lies in its part
  pub in_part : (list : Surface) (m k : ℕ) → m < length (rows_in grid is list) → element_area grid whole (ref_in list m) k ≤ℤ part_area grid whole list (surface_number grid (ref_in list m)) k
  unfolding part_area
  in_part list m k l = one_of_surface grid is (λ ref. element_area grid whole ref k) list m l (λ j h. element_natural list j k h)

  -- an element lies in its exchange cell, and this in its cell of the air
  in_row : (list : Surface) (m k : ℕ) → m < length (rows_in grid is list) → k < element_count grid list → element_area grid whole (ref_in list m) k ≤ℤ (row_of grid is list m).area
  in_row list m k l h =
      let sum = sym (total_range (element_area grid whole (ref_in list m)) (element_count grid list)) ∙ elements_total list m l in
      let most = sum_to-above (element_area grid whole (ref_in list m)) (element_count grid list) (λ j i. element_natural list m j l) k h in
      omega (arith, ints, sum, most)
