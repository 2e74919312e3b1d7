-- How many lines are still to come at most, so that the number of a line fits.
use Rattle.std.proofs.Common.{◌≡◌, ap, ℕ, zero, suc, ◌+◌, ◌-◌, ◌*◌, ◌^◌, ◌≤◌, List, true, Option, Some, None, Ok, arith, leb}
use Rattle.std.proofs.Math.Nat.{suc-mul}
use Rattle.std.proofs.lemmas.Bool.{leb-true, and_parts}
use Rattle.cpl_fixed.specs.declared.limits.TheConstants.{MOST_TILES, MOST_CELLS, MOST_CONTACTS, MOST_EXCHANGE_CELLS, MOST_OUTLETS}
use Rattle.cpl_lines.specs.Lines.{Line, IsOfForm, at}
use Rattle.cpl_lines.specs.Steps.{step_of}
use Rattle.cpl_lines.proofs.Progress.{step_taken}
use Rattle.cpl_gridfile.specs.declared.next_line.GridKind.{GridKind}
use Rattle.cpl_gridfile.specs.declared.next_line.GridKind.TheVariants as kind
use Rattle.cpl_gridfile.specs.declared.next_line.GridMesh.{GridMesh}
use Rattle.cpl_gridfile.specs.declared.next_line.GridMesh.TheVariants as mesh
use Rattle.cpl_gridfile.specs.declared.next_line.GridList.{GridList}
use Rattle.cpl_gridfile.specs.declared.next_line.GridList.TheVariants as list
use Rattle.cpl_gridfile.specs.declared.next_line.MeshLine.{MeshLine}
use Rattle.cpl_gridfile.specs.declared.next_line.MeshLine.TheVariants as line
use Rattle.cpl_gridfile.specs.declared.next_line.NextLine.{NextLine}
use Rattle.cpl_gridfile.specs.declared.next_line.NextLine.TheVariants as next
use Rattle.cpl_gridfile.specs.MeshFormat.{next_tile, next_row, next_contact, mesh_after, mesh_keeps}
use Rattle.cpl_gridfile.specs.GridFormat.{Parts, grid_format, grid_form, grid_keeps, grid_after, of_mesh, after_mesh, next_item, after_list, most_items}
use Rattle.cpl_gridfile.proofs.Bounds.{tile_within}

-- ---- a mesh

-- lines of contacts, and those of a mesh
abbrev pub most_contact_lines : ℕ
most_contact_lines = MOST_CONTACTS + 1

abbrev pub most_mesh_lines : ℕ
most_mesh_lines = 1 + MOST_TILES + MOST_CELLS + most_contact_lines

abbrev pub mesh_left : Option MeshLine → ℕ
mesh_left None = 0
mesh_left (Some line.Mosaic) = most_mesh_lines
mesh_left (Some (line.Tile more cells)) = more + 1 + (MOST_CELLS - cells) + most_contact_lines
mesh_left (Some (line.Area nx rows more cells)) = rows + 1 + more + (MOST_CELLS - cells) + most_contact_lines
mesh_left (Some line.Contacts) = most_contact_lines
mesh_left (Some (line.Contact more)) = more + 1

tile_left : (tiles cells : ℕ) → mesh_left (next_tile tiles cells) ≤ tiles + (MOST_CELLS - cells) + most_contact_lines
tile_left zero cells = omega arith
tile_left (suc more) cells = omega arith

row_left : (nx rows more cells : ℕ) → mesh_left (next_row nx rows more cells) ≤ rows + more + (MOST_CELLS - cells) + most_contact_lines
row_left nx zero more cells = omega (arith, tile_left more cells)
row_left nx (suc rows) more cells = omega arith

contact_left : (contacts : ℕ) → mesh_left (next_contact contacts) ≤ contacts
contact_left zero = omega arith
contact_left (suc more) = omega arith

rows_are_cells : (nx ny : ℕ) → 1 ≤ nx → ny ≤ nx * ny
rows_are_cells zero ny least = absurd (omega arith)
rows_are_cells (suc nx) ny least = omega (arith, suc-mul nx ny)

mesh_less : (line : MeshLine) (said : Line) → mesh_keeps line said ≡ true → mesh_left (mesh_after line said) + 1 ≤ mesh_left (Some line)
mesh_less line.Mosaic said keeps =
    let p = and_parts (leb 1 (at said 0)) (leb (at said 0) MOST_TILES) keeps in
    omega (arith, tile_left (at said 0) 0, leb-true (at said 0) MOST_TILES p.1)
mesh_less (line.Tile more cells) said keeps =
    let within = tile_within cells (at said 0) (at said 1) keeps in
    let few = rows_are_cells (at said 0) (at said 1) within.0.nx_least in
    omega (arith, row_left (at said 0) (at said 1) more (cells + at said 0 * at said 1), few, within.1)
mesh_less (line.Area nx rows more cells) said keeps = omega (arith, row_left nx rows more cells)
mesh_less line.Contacts said keeps = omega (arith, contact_left (at said 0), leb-true (at said 0) MOST_CONTACTS keeps)
mesh_less (line.Contact more) said keeps = omega (arith, contact_left more)

-- ---- a grid

-- lines after a list
abbrev pub list_rest : GridList → ℕ
list_rest list.Land = MOST_EXCHANGE_CELLS + MOST_OUTLETS + 3
list_rest list.Ocean = MOST_OUTLETS + 2
list_rest list.Outlets = 1

-- lines after a mesh
abbrev pub mesh_rest : GridKind → GridMesh → ℕ
mesh_rest kind.Air mesh = 1
mesh_rest kind.Coupled mesh.Atmos = 2 * most_mesh_lines + 2 + MOST_EXCHANGE_CELLS + list_rest list.Land
mesh_rest kind.Coupled mesh.Land = most_mesh_lines + 2 + MOST_EXCHANGE_CELLS + list_rest list.Land
mesh_rest kind.Coupled mesh.Ocean = 2 + MOST_EXCHANGE_CELLS + list_rest list.Land

abbrev pub grid_left : GridKind → NextLine → ℕ
grid_left kind next.Head = 1 + most_mesh_lines + mesh_rest kind mesh.Atmos
grid_left kind (next.Mesh mesh line) = mesh_left (Some line) + mesh_rest kind mesh
grid_left kind next.Column = 2 + MOST_EXCHANGE_CELLS + list_rest list.Land
grid_left kind (next.Count list before) = 1 + most_items list + list_rest list
grid_left kind (next.Item list total more) = more + 1 + list_rest list
grid_left kind next.End = 1
grid_left kind next.Nothing = 0

after_mesh_left : (kind : GridKind) (mesh : GridMesh) → grid_left kind (after_mesh kind mesh) ≤ mesh_rest kind mesh
after_mesh_left kind.Air mesh = omega arith
after_mesh_left kind.Coupled mesh.Atmos = omega arith
after_mesh_left kind.Coupled mesh.Land = omega arith
after_mesh_left kind.Coupled mesh.Ocean = omega arith

of_mesh_left : (kind : GridKind) (mesh : GridMesh) (line : Option MeshLine) → grid_left kind (of_mesh kind mesh line) ≤ mesh_left line + mesh_rest kind mesh
of_mesh_left kind mesh None = omega (arith, after_mesh_left kind mesh)
of_mesh_left kind mesh (Some line) = omega arith

after_list_left : (kind : GridKind) (list : GridList) (total : ℕ) → grid_left kind (after_list list total) ≤ list_rest list
after_list_left kind list.Land total = omega arith
after_list_left kind list.Ocean total = omega arith
after_list_left kind list.Outlets total = omega arith

item_left : (kind : GridKind) (list : GridList) (total items : ℕ) → grid_left kind (next_item list total items) ≤ items + list_rest list
item_left kind list total zero = omega (arith, after_list_left kind list total)
item_left kind list total (suc more) = omega arith

-- each line of its form that keeps the limits leaves fewer
grid_less : (kind : GridKind) (from : NextLine) (said : Line) → IsOfForm (grid_form kind from) said → grid_keeps from said ≡ true
    → grid_left kind (grid_after kind from said) + 1 ≤ grid_left kind from
grid_less kind next.Head said is keeps = omega arith
grid_less kind (next.Mesh mesh line) said is keeps = omega (arith, of_mesh_left kind mesh (mesh_after line said), mesh_less line said keeps)
grid_less kind next.Column said is keeps = omega arith
grid_less kind (next.Count list before) said is keeps =
    omega (arith, item_left kind list (before + at said 0) (at said 0), leb-true (before + at said 0) (most_items list) keeps)
grid_less kind (next.Item list total more) said is keeps = omega (arith, item_left kind list total more)
grid_less kind next.End said is keeps = omega arith
grid_less kind next.Nothing said is keeps = absurd is

pub fewer : (kind : GridKind) (from : NextLine) (parts : Parts) (bytes : List ℕ) (step : NextLine × Parts × List ℕ) → step_of (grid_format kind) from parts bytes ≡ Ok step
    → grid_left kind step.0 + 1 ≤ grid_left kind from
fewer kind from parts bytes step e =
    let taken = step_taken (grid_format kind) from parts bytes step e in
    let next_is : grid_after kind from taken.line ≡ step.0 = ap (λ (s : NextLine × Parts × List ℕ). s.0) taken.is in
    rw (← next_is) (grid_less kind from taken.line taken.has.form taken.keeps)

pub lines_fit : (kind : GridKind) → 1 + grid_left kind next.Head ≤ 2 ^ 22
lines_fit kind.Air = omega arith
lines_fit kind.Coupled = omega arith
