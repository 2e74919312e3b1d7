-- Lines in order of a coupled grid are those of a grid within the limits.
use Rattle.std.proofs.Common.{◌≡◌, ◌∙◌, sym, ap, subst, ℕ, ◌+◌, ◌≤◌, ◌&&◌, List, [], ◌∷◌, ◌++◌, length, map, codes, Some, true, All, arith, leb}
use Rattle.std.proofs.lemmas.Bool.{leb-true, and_parts}
use Rattle.std.proofs.lemmas.List.{length-map}
use Rattle.cpl_fixed.specs.declared.limits.TheConstants.{MOST_EXCHANGE_CELLS, MOST_OUTLETS, MOST_LAYERS, MOST_CATEGORIES}
use Rattle.cpl_mosaic.specs.declared.mosaic.Mesh.{Mesh}
use Rattle.cpl_xgrid.specs.declared.parts.XRow.{XRow}
use Rattle.cpl_xgrid.specs.declared.parts.Outlet.{Outlet}
use Rattle.cpl_lines.specs.Lines.{Line, row, row_form, at}
use Rattle.cpl_lines.proofs.Turns.{InOrder}
use Rattle.cpl_lines.proofs.RowForms.{line_is}
use Rattle.cpl_gridfile.specs.declared.next_line.GridKind.TheVariants as kind
use Rattle.cpl_gridfile.specs.declared.next_line.GridMesh.{GridMesh}
use Rattle.cpl_gridfile.specs.declared.next_line.GridMesh.TheVariants as mesh
use Rattle.cpl_gridfile.specs.declared.next_line.GridList.{GridList}
use Rattle.cpl_gridfile.specs.declared.next_line.GridList.TheVariants as list
use Rattle.cpl_gridfile.specs.declared.next_line.MeshLine.TheVariants as line
use Rattle.cpl_gridfile.specs.declared.next_line.NextLine.{NextLine}
use Rattle.cpl_gridfile.specs.declared.next_line.NextLine.TheVariants as next
use Rattle.cpl_gridfile.specs.MeshFormat.{mesh_lines}
use Rattle.cpl_gridfile.specs.GridFormat.{Parts, grid_format, head_word, column_of, column_keeps_limits, count_word, after_mesh, after_list, most_items, row_of, outlet_of}
use Rattle.cpl_gridfile.specs.Within.{IsWithinLimits, AreWithinLimits, ColumnIsWithin, RowIsWithin, OutletIsWithin}
use Rattle.cpl_gridfile.specs.CoupledGrid.{row_line, outlet_line, column_line, list_lines, lists_lines, grid_lines}
use Rattle.cpl_gridfile.proofs.MeshOf.{mesh_of_lines}
use Rattle.cpl_gridfile.proofs.MeshInGrid.{mesh_front}
use Rattle.cpl_gridfile.proofs.Items.{IsItem, items_front, rows_back, rows_within, outlets_back, outlets_within, of_land}
use Rattle.cpl_gridfile.proofs.AirLaws.{end_is}

abbrev GridOrder : NextLine → List Line → Type 0
GridOrder = InOrder (grid_format kind.Coupled)

-- ---- a list and the rest after it

record ListFront (list : GridList) (before : ℕ) (lines : List Line) : Type 0 where
  items : List Line
  rest : List Line
  each : All (IsItem list) items
  few : before + length items ≤ most_items list
  order : GridOrder (after_list list (before + length items)) rest
  text : lines ≡ list_lines list items ++ rest

list_front : (list : GridList) (before : ℕ) (lines : List Line) → GridOrder (next.Count list before) lines → ListFront list before lines
list_front list before [] order = absurd cc
list_front list before (counted ∷ lines) order =
    let said = line_is (row_form (count_word list) 1) counted order.0 in
    let front = items_front kind.Coupled list (before + at counted 0) (at counted 0) lines order.2 in
    let count : at counted 0 ≡ length front.items = sym front.number in
    let first : counted ≡ row (count_word list) (length front.items ∷ []) = said ∙ λ i. row (count_word list) (count i ∷ []) in
    record {
      items = front.items;
      rest = front.rest;
      each = front.each;
      few = omega (arith, leb-true (before + at counted 0) (most_items list) order.1, count);
      order = subst (λ (n : ℕ). GridOrder (after_list list (before + n)) front.rest) count front.order;
      text = λ i. first i ∷ front.text i;
    }

-- ---- the three lists

record Lists (lines : List Line) : Type 0 where
  land_rows : List XRow
  ocean_rows : List XRow
  outlets : List Outlet
  land_within : All RowIsWithin land_rows
  ocean_within : All RowIsWithin ocean_rows
  few_rows : length land_rows + length ocean_rows ≤ MOST_EXCHANGE_CELLS
  outlets_are_within : All OutletIsWithin outlets
  few_outlets : length outlets ≤ MOST_OUTLETS
  text : lines ≡ list_lines list.Land (map row_line land_rows)
      ++ (list_lines list.Ocean (map row_line ocean_rows) ++ (list_lines list.Outlets (map outlet_line outlets) ++ row (codes "end") [] ∷ []))

lists_of : (lines : List Line) → GridOrder (next.Count list.Land 0) lines → Lists lines
lists_of lines order =
    let land = list_front list.Land 0 lines order in
    let ocean = list_front list.Ocean (0 + length land.items) land.rest land.order in
    let outlets = list_front list.Outlets 0 ocean.rest ocean.order in
    let ending = end_is kind.Coupled outlets.rest outlets.order in
    let ocean_items = of_land ocean.items ocean.each in
    let land_back = rows_back land.items land.each in
    let ocean_back = rows_back ocean.items ocean_items in
    let outlets_are_back = outlets_back outlets.items outlets.each in
    let land_count = length-map land.items row_of in
    let ocean_count = length-map ocean.items row_of in
    let outlets_count = length-map outlets.items outlet_of in
    let third : ocean.rest ≡ list_lines list.Outlets (map outlet_line (map outlet_of outlets.items)) ++ row (codes "end") [] ∷ [] =
    outlets.text ∙ λ i. list_lines list.Outlets (outlets_are_back i) ++ ending i in
    let second : land.rest ≡ list_lines list.Ocean (map row_line (map row_of ocean.items))
    ++ (list_lines list.Outlets (map outlet_line (map outlet_of outlets.items)) ++ row (codes "end") [] ∷ []) =
    ocean.text ∙ λ i. list_lines list.Ocean (ocean_back i) ++ third i in
    record {
      land_rows = map row_of land.items;
      ocean_rows = map row_of ocean.items;
      outlets = map outlet_of outlets.items;
      land_within = rows_within land.items land.each;
      ocean_within = rows_within ocean.items ocean_items;
      few_rows = omega (arith, ocean.few, land_count, ocean_count);
      outlets_are_within = outlets_within outlets.items outlets.each;
      few_outlets = omega (arith, outlets.few, outlets_count);
      text = land.text ∙ λ i. list_lines list.Land (land_back i) ++ second i;
    }

-- ---- the whole

column_within : (layers categories : ℕ) → column_keeps_limits (column_of layers categories) ≡ true → ColumnIsWithin (column_of layers categories)
column_within layers categories keeps =
    let a = and_parts (leb 1 layers && leb layers MOST_LAYERS && leb 1 categories) (leb categories MOST_CATEGORIES) keeps in
    let b = and_parts (leb 1 layers && leb layers MOST_LAYERS) (leb 1 categories) a.0 in
    let c = and_parts (leb 1 layers) (leb layers MOST_LAYERS) b.0 in
    record {
      layers_least = leb-true 1 layers c.0;
      layers_most = leb-true layers MOST_LAYERS c.1;
      categories_least = leb-true 1 categories b.1;
      categories_most = leb-true categories MOST_CATEGORIES a.1;
    }

pub record IsOfGrid (lines : List Line) : Type 0 where
  pub grid : Parts
  pub limits : AreWithinLimits grid
  pub text : lines ≡ grid_lines grid

-- from the column on
record Tail (lines : List Line) : Type 0 where
  layers : ℕ
  categories : ℕ
  within : ColumnIsWithin (column_of layers categories)
  rest : List Line
  lists : Lists rest
  text : lines ≡ column_line (column_of layers categories) ∷ rest

tail_of : (lines : List Line) → GridOrder next.Column lines → Tail lines
tail_of [] order = absurd cc
tail_of (column ∷ lines) order =
    let said = line_is (row_form (codes "column") 2) column order.0 in
    record {
      layers = at column 0;
      categories = at column 1;
      within = column_within (at column 0) (at column 1) order.1;
      rest = lines;
      lists = lists_of lines order.2;
      text = λ i. said i ∷ lines;
    }

-- the meshes and what comes after them
record Fronts (lines : List Line) : Type 0 where
  air : Mesh
  land : Mesh
  ocean : Mesh
  air_within : IsWithinLimits air
  land_within : IsWithinLimits land
  ocean_within : IsWithinLimits ocean
  rest : List Line
  order : GridOrder next.Column rest
  text : lines ≡ mesh_lines mesh.Atmos air ++ (mesh_lines mesh.Land land ++ (mesh_lines mesh.Ocean ocean ++ rest))

-- a mesh and what comes after it
record Front (name : GridMesh) (lines : List Line) : Type 0 where
  of : Mesh
  within : IsWithinLimits of
  rest : List Line
  order : GridOrder (after_mesh kind.Coupled name) rest
  text : lines ≡ mesh_lines name of ++ rest

front_of : (name : GridMesh) (lines : List Line) → GridOrder (next.Mesh name line.Mosaic) lines → Front name lines
front_of name lines order =
    let front = mesh_front kind.Coupled name (Some line.Mosaic) lines order in
    let found = mesh_of_lines name front.front front.order in
    record { of = found.mesh; within = found.limits; rest = front.rest; order = front.rest_order; text = front.text ∙ ap (λ (l : List Line). l ++ front.rest) found.text }

fronts_of : (lines : List Line) → GridOrder (next.Mesh mesh.Atmos line.Mosaic) lines → Fronts lines
fronts_of lines order =
    let air = front_of mesh.Atmos lines order in
    let land = front_of mesh.Land air.rest air.order in
    let ocean = front_of mesh.Ocean land.rest land.order in
    let from_land : air.rest ≡ mesh_lines mesh.Land land.of ++ (mesh_lines mesh.Ocean ocean.of ++ ocean.rest) =
    land.text ∙ ap (λ (l : List Line). mesh_lines mesh.Land land.of ++ l) ocean.text in
    record {
      air = air.of;
      land = land.of;
      ocean = ocean.of;
      air_within = air.within;
      land_within = land.within;
      ocean_within = ocean.within;
      rest = ocean.rest;
      order = ocean.order;
      text = air.text ∙ ap (λ (l : List Line). mesh_lines mesh.Atmos air.of ++ l) from_land;
    }

-- the parts of the meshes and of what comes after them
parts_from : {lines rest : List Line} → Fronts lines → Tail rest → Parts
parts_from fronts tail = record {
  air = fronts.air;
  land = fronts.land;
  ocean = fronts.ocean;
  column = column_of tail.layers tail.categories;
  land_rows = tail.lists.land_rows;
  ocean_rows = tail.lists.ocean_rows;
  outlets = tail.lists.outlets;
}

parts_within : {lines rest : List Line} (fronts : Fronts lines) (tail : Tail rest) → AreWithinLimits (parts_from fronts tail)
unfolding parts_from
parts_within fronts tail = record {
  air = fronts.air_within;
  land = fronts.land_within;
  ocean = fronts.ocean_within;
  column = tail.within;
  land_rows = tail.lists.land_within;
  ocean_rows = tail.lists.ocean_within;
  few_rows = tail.lists.few_rows;
  outlets = tail.lists.outlets_are_within;
  few_outlets = tail.lists.few_outlets;
}

parts_lines : {lines : List Line} (fronts : Fronts lines) (tail : Tail fronts.rest) → row (head_word kind.Coupled) [] ∷ lines ≡ grid_lines (parts_from fronts tail)
unfolding parts_from
parts_lines fronts tail =
    let from_column : fronts.rest ≡ column_line (column_of tail.layers tail.categories) ∷ lists_lines (parts_from fronts tail) =
    tail.text ∙ ap (λ (l : List Line). column_line (column_of tail.layers tail.categories) ∷ l) tail.lists.text in
    ap (λ (l : List Line). row (head_word kind.Coupled) [] ∷ l)
    (fronts.text ∙ ap (λ (l : List Line). mesh_lines mesh.Atmos fronts.air ++ (mesh_lines mesh.Land fronts.land ++ (mesh_lines mesh.Ocean fronts.ocean ++ l))) from_column)

pub grid_of_lines : (lines : List Line) → InOrder (grid_format kind.Coupled) next.Head lines → IsOfGrid lines
grid_of_lines [] order = absurd cc
grid_of_lines (head ∷ lines) order =
    let said = line_is (row_form (head_word kind.Coupled) 0) head order.0 in
    let fronts = fronts_of lines order.2 in
    let tail = tail_of fronts.rest fronts.order in
    record {
      grid = parts_from fronts tail;
      limits = parts_within fronts tail;
      text = ap (λ (l : Line). l ∷ lines) said ∙ parts_lines fronts tail;
    }
