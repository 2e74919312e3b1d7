-- The lines of a mesh among those of a grid.
use Rattle.std.proofs.Common.{◌≡◌, ◌∙◌, refl, ap, List, [], ◌∷◌, ◌++◌, Option, Some, None}
use Rattle.cpl_mosaic.specs.declared.mosaic.Mesh.{Mesh}
use Rattle.cpl_lines.specs.Lines.{Line}
use Rattle.cpl_lines.proofs.Turns.{InOrder}
use Rattle.cpl_lines.proofs.Paths.{Leads}
use Rattle.cpl_gridfile.specs.declared.next_line.GridKind.{GridKind}
use Rattle.cpl_gridfile.specs.declared.next_line.GridMesh.{GridMesh}
use Rattle.cpl_gridfile.specs.declared.next_line.GridMesh.TheVariants as mesh
use Rattle.cpl_gridfile.specs.declared.next_line.MeshLine.{MeshLine}
use Rattle.cpl_gridfile.specs.MeshFormat.{mesh_format, mesh_after, mesh_add}
use Rattle.cpl_gridfile.specs.GridFormat.{Parts, grid_format, mesh_in, with_mesh, of_mesh, after_mesh}

mesh_in_with : (name : GridMesh) (of : Mesh) (parts : Parts) → mesh_in name (with_mesh name of parts) ≡ of
mesh_in_with mesh.Atmos of parts = refl
mesh_in_with mesh.Land of parts = refl
mesh_in_with mesh.Ocean of parts = refl

with_mesh_twice : (name : GridMesh) (first second : Mesh) (parts : Parts) → with_mesh name second (with_mesh name first parts) ≡ with_mesh name second parts
with_mesh_twice mesh.Atmos first second parts = refl
with_mesh_twice mesh.Land first second parts = refl
with_mesh_twice mesh.Ocean first second parts = refl

-- what a line of a mesh adds to the parts
adds : (name : GridMesh) (line : MeshLine) (said : Line) (of : Mesh) (parts : Parts)
    → with_mesh name (mesh_add line said (mesh_in name (with_mesh name of parts))) (with_mesh name of parts) ≡ with_mesh name (mesh_add line said of) parts
adds name line said of parts =
    ap (λ (m : Mesh). with_mesh name (mesh_add line said m) (with_mesh name of parts)) (mesh_in_with name of parts)
    ∙ with_mesh_twice name of (mesh_add line said of) parts

-- lines that lead through a mesh lead through it in the grid
pub leads_in_grid : (kind : GridKind) (name : GridMesh) (parts : Parts) (line : Option MeshLine) (of : Mesh) (lines : List Line) (all : Mesh)
    → Leads (mesh_format name) line of lines None all
    → Leads (grid_format kind) (of_mesh kind name line) (with_mesh name of parts) lines (after_mesh kind name) (with_mesh name all parts)
leads_in_grid kind name parts line of [] all here = (ap (of_mesh kind name) here.0, ap (λ (m : Mesh). with_mesh name m parts) here.1)
leads_in_grid kind name parts None of (said ∷ lines) all here = absurd here.0
leads_in_grid kind name parts (Some line) of (said ∷ lines) all here =
    let others = leads_in_grid kind name parts (mesh_after line said) (mesh_add line said of) lines all here.2 in
    (here.0, here.1, rw (adds name line said of parts) others)

-- lines of a grid from a mesh on: those of the mesh, and the rest
pub record MeshFront (kind : GridKind) (name : GridMesh) (line : Option MeshLine) (lines : List Line) : Type 0 where
  pub front : List Line
  pub rest : List Line
  pub order : InOrder (mesh_format name) line front
  pub rest_order : InOrder (grid_format kind) (after_mesh kind name) rest
  pub text : lines ≡ front ++ rest

pub mesh_front : (kind : GridKind) (name : GridMesh) (line : Option MeshLine) (lines : List Line) → InOrder (grid_format kind) (of_mesh kind name line) lines
    → MeshFront kind name line lines
mesh_front kind name None lines order = record { front = []; rest = lines; order = refl; rest_order = order; text = refl }
mesh_front kind name (Some line) [] order = absurd cc
mesh_front kind name (Some line) (said ∷ lines) order =
    let others = mesh_front kind name (mesh_after line said) lines order.2 in
    record {
      front = said ∷ others.front;
      rest = others.rest;
      order = (order.0, order.1, others.order);
      rest_order = others.rest_order;
      text = ap (λ (l : List Line). said ∷ l) others.text;
    }
