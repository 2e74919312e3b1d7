-- The lines of a coupled grid lead from its beginning to its end, and make it.
use Rattle.std.proofs.Common.{◌≡◌, ◌∙◌, refl, subst, ℕ, ◌+◌, ◌≤◌, List, [], ◌∷◌, ◌++◌, length, map, codes, Some, true, All, arith}
use Rattle.std.proofs.lemmas.Bool.{le-leb, and_from}
use Rattle.std.proofs.lemmas.List.{length-map}
use Rattle.cpl_fixed.specs.declared.limits.TheConstants.{MOST_EXCHANGE_CELLS, MOST_LAYERS, MOST_CATEGORIES}
use Rattle.cpl_lines.specs.Lines.{Line, row}
use Rattle.cpl_lines.proofs.Paths.{Leads, leads_on}
use Rattle.cpl_gridfile.specs.declared.next_line.GridKind.TheVariants as kind
use Rattle.cpl_gridfile.specs.declared.next_line.GridMesh.TheVariants as mesh
use Rattle.cpl_gridfile.specs.declared.next_line.GridList.{GridList}
use Rattle.cpl_gridfile.specs.declared.next_line.GridList.TheVariants as list
use Rattle.cpl_gridfile.specs.declared.next_line.MeshLine.TheVariants as line
use Rattle.cpl_gridfile.specs.declared.next_line.NextLine.{NextLine}
use Rattle.cpl_gridfile.specs.declared.next_line.NextLine.TheVariants as next
use Rattle.cpl_gridfile.specs.MeshFormat.{mesh_lines, no_mesh}
use Rattle.cpl_gridfile.specs.GridFormat.{Parts, grid_format, no_parts, after_list, most_items, column_keeps_limits}
use Rattle.cpl_gridfile.specs.Within.{AreWithinLimits}
use Rattle.cpl_gridfile.specs.CoupledGrid.{row_line, outlet_line, column_line, list_lines, lists_lines, grid_lines}
use Rattle.cpl_gridfile.proofs.MeshLeads.{mesh_leads}
use Rattle.cpl_gridfile.proofs.MeshInGrid.{leads_in_grid}
use Rattle.cpl_gridfile.proofs.Items.{IsItem, items_lead, with_items, rows_are_items, rows_again, outlets_are_items, outlets_again, of_ocean, land_added, ocean_added, outlets_added}

-- lines of a coupled grid lead from one of its lines to another
abbrev GridLeads : NextLine → Parts → List Line → NextLine → Parts → Type 0
GridLeads = Leads (grid_format kind.Coupled)

-- ---- lists

list_leads : (list : GridList) (before : ℕ) (items : List Line) (parts : Parts) → All (IsItem list) items → before + length items ≤ most_items list
    → length items ≤ MOST_EXCHANGE_CELLS
    → GridLeads (next.Count list before) parts (list_lines list items) (after_list list (before + length items)) (with_items list items parts)
list_leads list before items parts each few short =
    ((refl, (omega (arith, short), tt)), le-leb (before + length items) (most_items list) few, items_lead kind.Coupled list (before + length items) items parts each)

module _ (grid : Parts) (within : AreWithinLimits grid) where
  -- what is made up to the column, and with each list
  with_column : Parts
  with_column = record no_parts { air = grid.air; land = grid.land; ocean = grid.ocean; column = grid.column }

  with_land : Parts
  with_land = record no_parts { air = grid.air; land = grid.land; ocean = grid.ocean; column = grid.column; land_rows = grid.land_rows }

  with_ocean : Parts
  with_ocean = record no_parts {
    air = grid.air;
    land = grid.land;
    ocean = grid.ocean;
    column = grid.column;
    land_rows = grid.land_rows;
    ocean_rows = grid.ocean_rows;
  }

  land_lines : List Line
  land_lines = map row_line grid.land_rows

  ocean_lines : List Line
  ocean_lines = map row_line grid.ocean_rows

  outlet_lines : List Line
  outlet_lines = map outlet_line grid.outlets

  land_leads : GridLeads (next.Count list.Land 0) with_column (list_lines list.Land land_lines) (next.Count list.Ocean (0 + length land_lines)) with_land
  unfolding with_column with_land land_lines
  land_leads =
      let count : length land_lines ≡ length grid.land_rows = length-map grid.land_rows row_line in
      let made : with_items list.Land land_lines with_column ≡ with_land =
      land_added land_lines with_column ∙ λ i. record with_column { land_rows = rows_again grid.land_rows within.land_rows i } in
      subst (GridLeads (next.Count list.Land 0) with_column (list_lines list.Land land_lines) (next.Count list.Ocean (0 + length land_lines))) made
      (list_leads list.Land 0 land_lines with_column (rows_are_items grid.land_rows within.land_rows) (omega (arith, count, within.few_rows)) (omega (arith, count, within.few_rows)))

  ocean_leads : GridLeads (next.Count list.Ocean (0 + length land_lines)) with_land (list_lines list.Ocean ocean_lines) (next.Count list.Outlets 0) with_ocean
  unfolding with_land with_ocean land_lines ocean_lines
  ocean_leads =
      let before : length land_lines ≡ length grid.land_rows = length-map grid.land_rows row_line in
      let count : length ocean_lines ≡ length grid.ocean_rows = length-map grid.ocean_rows row_line in
      let made : with_items list.Ocean ocean_lines with_land ≡ with_ocean =
      ocean_added ocean_lines with_land ∙ λ i. record with_land { ocean_rows = rows_again grid.ocean_rows within.ocean_rows i } in
      subst (GridLeads (next.Count list.Ocean (0 + length land_lines)) with_land (list_lines list.Ocean ocean_lines) (next.Count list.Outlets 0)) made
      (list_leads list.Ocean (0 + length land_lines) ocean_lines with_land (of_ocean ocean_lines (rows_are_items grid.ocean_rows within.ocean_rows))
      (omega (arith, before, count, within.few_rows)) (omega (arith, count, within.few_rows)))

  outlets_lead : GridLeads (next.Count list.Outlets 0) with_ocean (list_lines list.Outlets outlet_lines) next.End grid
  unfolding with_ocean outlet_lines
  outlets_lead =
      let count : length outlet_lines ≡ length grid.outlets = length-map grid.outlets outlet_line in
      let made : with_items list.Outlets outlet_lines with_ocean ≡ grid =
      outlets_added outlet_lines with_ocean ∙ λ i. record grid { outlets = outlets_again grid.outlets within.outlets i } in
      subst (GridLeads (next.Count list.Outlets 0) with_ocean (list_lines list.Outlets outlet_lines) next.End) made
      (list_leads list.Outlets 0 outlet_lines with_ocean (outlets_are_items grid.outlets within.outlets) (omega (arith, count, within.few_outlets)) (omega (arith, count, within.few_outlets)))

  lists_lead : GridLeads (next.Count list.Land 0) with_column (lists_lines grid) next.Nothing grid
  unfolding land_lines ocean_lines outlet_lines
  lists_lead =
      let ending : List Line = row (codes "end") [] ∷ [] in
      let outlets = leads_on (grid_format kind.Coupled) (next.Count list.Outlets 0) with_ocean (list_lines list.Outlets outlet_lines) next.End grid ending next.Nothing grid
      outlets_lead ((refl, tt), refl, (refl, refl)) in
      let ocean = leads_on (grid_format kind.Coupled) (next.Count list.Ocean (0 + length land_lines)) with_land (list_lines list.Ocean ocean_lines) (next.Count list.Outlets 0) with_ocean
      (list_lines list.Outlets outlet_lines ++ ending) next.Nothing grid ocean_leads outlets in
      leads_on (grid_format kind.Coupled) (next.Count list.Land 0) with_column (list_lines list.Land land_lines) (next.Count list.Ocean (0 + length land_lines)) with_land
      (list_lines list.Ocean ocean_lines ++ (list_lines list.Outlets outlet_lines ++ ending)) next.Nothing grid land_leads ocean

  -- ---- the column

  column_keeps : column_keeps_limits grid.column ≡ true
  column_keeps =
      let c = within.column in
      and_from _ _ (and_from _ _ (and_from _ _ (le-leb 1 grid.column.layers c.layers_least) (le-leb grid.column.layers MOST_LAYERS c.layers_most))
      (le-leb 1 grid.column.categories c.categories_least)) (le-leb grid.column.categories MOST_CATEGORIES c.categories_most)

  column_leads : GridLeads next.Column (record no_parts { air = grid.air; land = grid.land; ocean = grid.ocean }) (column_line grid.column ∷ lists_lines grid) next.Nothing grid
  unfolding with_column
  column_leads = ((refl, (omega (arith, within.column.layers_most), (omega (arith, within.column.categories_most), tt))), column_keeps, lists_lead)

  -- ---- the meshes

  pub grid_leads : Leads (grid_format kind.Coupled) next.Head no_parts (grid_lines grid) next.Nothing grid
  grid_leads =
      let format = grid_format kind.Coupled in
      let air_made : Parts = record no_parts { air = grid.air } in
      let land_made : Parts = record no_parts { air = grid.air; land = grid.land } in
      let ocean_made : Parts = record no_parts { air = grid.air; land = grid.land; ocean = grid.ocean } in
      let air = leads_in_grid kind.Coupled mesh.Atmos no_parts (Some line.Mosaic) no_mesh (mesh_lines mesh.Atmos grid.air) grid.air (mesh_leads mesh.Atmos grid.air within.air) in
      let land = leads_in_grid kind.Coupled mesh.Land air_made (Some line.Mosaic) no_mesh (mesh_lines mesh.Land grid.land) grid.land (mesh_leads mesh.Land grid.land within.land) in
      let ocean = leads_in_grid kind.Coupled mesh.Ocean land_made (Some line.Mosaic) no_mesh (mesh_lines mesh.Ocean grid.ocean) grid.ocean (mesh_leads mesh.Ocean grid.ocean within.ocean) in
      let after_ocean : List Line = column_line grid.column ∷ lists_lines grid in
      let after_land : List Line = mesh_lines mesh.Ocean grid.ocean ++ after_ocean in
      let from_ocean = leads_on format (next.Mesh mesh.Ocean line.Mosaic) land_made (mesh_lines mesh.Ocean grid.ocean) next.Column ocean_made after_ocean next.Nothing grid ocean column_leads in
      let from_land = leads_on format (next.Mesh mesh.Land line.Mosaic) air_made (mesh_lines mesh.Land grid.land) (next.Mesh mesh.Ocean line.Mosaic) land_made after_land next.Nothing grid
      land from_ocean in (
        (refl, tt),
        refl,
        leads_on format (next.Mesh mesh.Atmos line.Mosaic) no_parts (mesh_lines mesh.Atmos grid.air) (next.Mesh mesh.Land line.Mosaic) air_made
            (mesh_lines mesh.Land grid.land ++ after_land) next.Nothing grid air from_land,
      )
