-- A step in a mesh is a step in the grid.
use Rattle.std.proofs.Common.{◌≡◌, refl, ℕ, List, Option, Some, None, Result, Ok, Err, inl, inr}
use Rattle.std.proofs.lemmas.Bool.{cases_Bool}
use Rattle.cpl_lines.specs.declared.fault.LineFault.{LineFault}
use Rattle.cpl_lines.specs.Lines.{Line}
use Rattle.cpl_lines.specs.Reading.{row_at}
use Rattle.cpl_lines.specs.Steps.{judged_line, step_of}
use Rattle.cpl_gridfile.specs.declared.next_line.GridKind.{GridKind}
use Rattle.cpl_gridfile.specs.declared.next_line.GridMesh.{GridMesh}
use Rattle.cpl_gridfile.specs.declared.next_line.MeshLine.{MeshLine}
use Rattle.cpl_gridfile.specs.declared.next_line.NextLine.{NextLine}
use Rattle.cpl_gridfile.specs.declared.next_line.NextLine.TheVariants as next
use Rattle.cpl_gridfile.specs.MeshFormat.{mesh_format, mesh_form, mesh_keeps}
use Rattle.cpl_gridfile.specs.GridFormat.{Parts, grid_format, mesh_in, of_mesh}
use Rattle.cpl_gridfile.specs.Readers.{in_parts, mesh_step}

-- the line of the grid that comes after a step in a mesh
abbrev pub in_grid : GridKind → GridMesh → Result (Option MeshLine × Parts × List ℕ) LineFault → Result (NextLine × Parts × List ℕ) LineFault
in_grid kind mesh (Ok step) = Ok (of_mesh kind mesh step.0, step.1, step.2)
in_grid kind mesh (Err fault) = Err fault

judged_in_grid : (kind : GridKind) (mesh : GridMesh) (line : MeshLine) (parts : Parts) (found : Option (Line × List ℕ))
    → judged_line (grid_format kind) (next.Mesh mesh line) parts found
    ≡ in_grid kind mesh (in_parts mesh parts (judged_line (mesh_format mesh) (Some line) (mesh_in mesh parts) found))
judged_in_grid kind mesh line parts None = refl
judged_in_grid kind mesh line parts (Some found) = elim (cases_Bool (mesh_keeps line found.0)) [
  | inl keeps ↦ rw keeps refl
  | inr breaks ↦ rw breaks refl
]

pub step_in_grid : (kind : GridKind) (mesh : GridMesh) (line : MeshLine) (parts : Parts) (bytes : List ℕ)
    → step_of (grid_format kind) (next.Mesh mesh line) parts bytes ≡ in_grid kind mesh (mesh_step mesh line parts bytes)
step_in_grid kind mesh line parts bytes = judged_in_grid kind mesh line parts (row_at (mesh_form mesh line) bytes)
