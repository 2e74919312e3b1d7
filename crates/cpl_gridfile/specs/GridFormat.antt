-- The lines of a grid.
use Rattle.std.specs.Prelude.{ℕ, zero, suc, ◌+◌, ◌&&◌, nat_le, List, [], ◌∷◌, ◌++◌, codes, Bool, true, Option, Some, None, pos}
use Rattle.cpl_fixed.specs.declared.limits.TheConstants.{MOST_EXCHANGE_CELLS, MOST_OUTLETS, MOST_LAYERS, MOST_CATEGORIES, MOST_AREA, MOST_WEIGHT, MOST_IN_ROW}
use Rattle.cpl_mosaic.specs.declared.parts.CellId.{CellId}
use Rattle.cpl_mosaic.specs.declared.mosaic.Mesh.{Mesh}
use Rattle.cpl_xgrid.specs.declared.parts.XRow.{XRow}
use Rattle.cpl_xgrid.specs.declared.parts.Outlet.{Outlet}
use Rattle.cpl_xgrid.specs.declared.parts.Column.{Column}
use Rattle.cpl_lines.specs.Lines.{Line, Form, row_form, at}
use Rattle.cpl_lines.specs.Formats.{Format}
use Rattle.cpl_gridfile.specs.declared.next_line.GridKind.{GridKind}
use Rattle.cpl_gridfile.specs.declared.next_line.GridKind.TheVariants as kind
use Rattle.cpl_gridfile.specs.declared.next_line.GridMesh.{GridMesh}
use Rattle.cpl_gridfile.specs.declared.next_line.GridMesh.TheVariants as mesh
use Rattle.cpl_gridfile.specs.declared.next_line.GridList.{GridList}
use Rattle.cpl_gridfile.specs.declared.next_line.GridList.TheVariants as list
use Rattle.cpl_gridfile.specs.declared.next_line.MeshLine.{MeshLine}
use Rattle.cpl_gridfile.specs.declared.next_line.MeshLine.TheVariants as line
use Rattle.cpl_gridfile.specs.declared.next_line.NextLine.{NextLine}
use Rattle.cpl_gridfile.specs.declared.next_line.NextLine.TheVariants as next
use Rattle.cpl_gridfile.specs.MeshFormat.{mesh_form, mesh_keeps, mesh_after, mesh_add, no_mesh}

-- ---- what a text of a grid tells

-- the parts of a grid; those of an air grid are the air's mesh alone
pub record Parts : Type 0 where
  pub air : Mesh
  pub land : Mesh
  pub ocean : Mesh
  pub column : Column
  pub land_rows : List XRow
  pub ocean_rows : List XRow
  pub outlets : List Outlet

abbrev pub column_of : ℕ → ℕ → Column
column_of layers categories = record { layers = layers; categories = categories }

abbrev pub no_parts : Parts
no_parts = record {
  air = no_mesh;
  land = no_mesh;
  ocean = no_mesh;
  column = column_of 0 0;
  land_rows = [];
  ocean_rows = [];
  outlets = [];
}

abbrev pub mesh_in : GridMesh → Parts → Mesh
mesh_in mesh.Atmos parts = parts.air
mesh_in mesh.Land parts = parts.land
mesh_in mesh.Ocean parts = parts.ocean

abbrev pub with_mesh : GridMesh → Mesh → Parts → Parts
with_mesh mesh.Atmos of parts = record parts { air = of }
with_mesh mesh.Land of parts = record parts { land = of }
with_mesh mesh.Ocean of parts = record parts { ocean = of }

-- the cell that a line tells from its k-th field on
abbrev pub cell_of : Line → ℕ → CellId
cell_of line k = record { tile = at line k; i = at line (k + 1); j = at line (k + 2) }

abbrev pub row_of : Line → XRow
row_of line = record { air = cell_of line 0; other = cell_of line 3; area = pos (at line 6) }

abbrev pub outlet_of : Line → Outlet
outlet_of line = record { land = cell_of line 0; ocean = cell_of line 3; weight = pos (at line 6) }

abbrev pub with_item : GridList → Line → Parts → Parts
with_item list.Land said parts = record parts { land_rows = parts.land_rows ++ row_of said ∷ [] }
with_item list.Ocean said parts = record parts { ocean_rows = parts.ocean_rows ++ row_of said ∷ [] }
with_item list.Outlets said parts = record parts { outlets = parts.outlets ++ outlet_of said ∷ [] }

-- ---- which line comes next

abbrev pub after_mesh : GridKind → GridMesh → NextLine
after_mesh kind.Air mesh = next.End
after_mesh kind.Coupled mesh.Atmos = next.Mesh mesh.Land line.Mosaic
after_mesh kind.Coupled mesh.Land = next.Mesh mesh.Ocean line.Mosaic
after_mesh kind.Coupled mesh.Ocean = next.Column

abbrev pub of_mesh : GridKind → GridMesh → Option MeshLine → NextLine
of_mesh kind mesh (Some line) = next.Mesh mesh line
of_mesh kind mesh None = after_mesh kind mesh

-- the limit on exchange cells is on both lists together
abbrev pub after_list : GridList → ℕ → NextLine
after_list list.Land total = next.Count list.Ocean total
after_list list.Ocean total = next.Count list.Outlets 0
after_list list.Outlets total = next.End

abbrev pub next_item : GridList → ℕ → ℕ → NextLine
next_item list total zero = after_list list total
next_item list total (suc more) = next.Item list total more

abbrev pub grid_after : GridKind → NextLine → Line → NextLine
grid_after kind next.Head said = next.Mesh mesh.Atmos line.Mosaic
grid_after kind (next.Mesh mesh line) said = of_mesh kind mesh (mesh_after line said)
grid_after kind next.Column said = next.Count list.Land 0
grid_after kind (next.Count list before) said = next_item list (before + at said 0) (at said 0)
grid_after kind (next.Item list total more) said = next_item list total more
grid_after kind next.End said = next.Nothing
grid_after kind next.Nothing said = next.Nothing

-- ---- forms and limits

abbrev pub head_word : GridKind → List ℕ
head_word kind.Air = codes "grid 1 air"
head_word kind.Coupled = codes "grid 1 coupled"

abbrev pub count_word : GridList → List ℕ
count_word list.Land = codes "xgrid land"
count_word list.Ocean = codes "xgrid ocean"
count_word list.Outlets = codes "outlets"

abbrev pub item_word : GridList → List ℕ
item_word list.Land = codes "x"
item_word list.Ocean = codes "x"
item_word list.Outlets = codes "o"

abbrev pub grid_form : GridKind → NextLine → Option Form
grid_form kind next.Head = Some (row_form (head_word kind) 0)
grid_form kind (next.Mesh mesh line) = Some (mesh_form mesh line)
grid_form kind next.Column = Some (row_form (codes "column") 2)
grid_form kind (next.Count list before) = Some (row_form (count_word list) 1)
grid_form kind (next.Item list total more) = Some (row_form (item_word list) 7)
grid_form kind next.End = Some (row_form (codes "end") 0)
grid_form kind next.Nothing = None

abbrev pub column_keeps_limits : Column → Bool
column_keeps_limits column =
    nat_le 1 column.layers && nat_le column.layers MOST_LAYERS && nat_le 1 column.categories && nat_le column.categories MOST_CATEGORIES

abbrev pub cell_keeps_limits : CellId → Bool
cell_keeps_limits cell = nat_le cell.tile MOST_IN_ROW && nat_le cell.i MOST_IN_ROW && nat_le cell.j MOST_IN_ROW

abbrev pub most_items : GridList → ℕ
most_items list.Land = MOST_EXCHANGE_CELLS
most_items list.Ocean = MOST_EXCHANGE_CELLS
most_items list.Outlets = MOST_OUTLETS

abbrev pub most_amount : GridList → ℕ
most_amount list.Land = MOST_AREA
most_amount list.Ocean = MOST_AREA
most_amount list.Outlets = MOST_WEIGHT

-- Whether the line's numbers keep the limits: 1 to 8 layers, 1 to 5 categories, at most 2^20 exchange cells in both lists
-- together and 2^18 outlets, numbers of cells of at most 65,535, exchange areas of at most 2^40 and weights of at most 2^20.
abbrev pub grid_keeps : NextLine → Line → Bool
grid_keeps next.Head said = true
grid_keeps (next.Mesh mesh line) said = mesh_keeps line said
grid_keeps next.Column said = column_keeps_limits (column_of (at said 0) (at said 1))
grid_keeps (next.Count list before) said = nat_le (before + at said 0) (most_items list)
grid_keeps (next.Item list total more) said =
    cell_keeps_limits (cell_of said 0) && cell_keeps_limits (cell_of said 3) && nat_le (at said 6) (most_amount list)
grid_keeps next.End said = true
grid_keeps next.Nothing said = true

abbrev pub grid_add : NextLine → Line → Parts → Parts
grid_add (next.Mesh mesh line) said parts = with_mesh mesh (mesh_add line said (mesh_in mesh parts)) parts
grid_add next.Column said parts = record parts { column = column_of (at said 0) (at said 1) }
grid_add (next.Item list total more) said parts = with_item list said parts
grid_add next.Head said parts = parts
grid_add (next.Count list before) said parts = parts
grid_add next.End said parts = parts
grid_add next.Nothing said parts = parts

-- the lines of a grid of this kind, in order
abbrev pub grid_format : GridKind → Format NextLine Parts
grid_format kind = record { form = grid_form kind; keeps = grid_keeps; after = grid_after kind; add = grid_add }
