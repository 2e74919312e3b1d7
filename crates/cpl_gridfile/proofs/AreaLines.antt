-- A row of areas, read number by number.
use Rattle.std.proofs.Common.{◌≡◌, ◌∙◌, refl, sym, ap, ℕ, ◌++◌, List, map, replicate, Bool, true, ℤ, pos, Some, Ok, codes}
use Rattle.std.specs.List.{list_all}
use Rattle.cpl_fixed.specs.declared.limits.TheConstants.{MOST_AREA}
use Rattle.cpl_mosaic.specs.declared.mosaic.Mesh.{Mesh}
use Rattle.cpl_lines.specs.Fields.{AnyNumber, value}
use Rattle.cpl_lines.specs.Lines.{line_feed}
use Rattle.cpl_lines.specs.Reading.{word_at, fields_at, row_at}
use Rattle.cpl_lines.specs.Steps.{step_of, is_at_most, capped, numbers_added}
use Rattle.cpl_lines.proofs.Pushed.{added_some, stored}
use Rattle.cpl_gridfile.specs.declared.next_line.GridMesh.{GridMesh}
use Rattle.cpl_gridfile.specs.declared.next_line.MeshLine.TheVariants as line
use Rattle.cpl_gridfile.specs.MeshFormat.{mesh_format, next_row}

-- a line of areas within the limit is read, and its areas are added
pub row_is_read : (name : GridMesh) (nx rows more cells : ℕ) (mesh : Mesh) (bytes fields rest more_bytes : List ℕ) (area : List ℤ) → word_at (codes "area") bytes ≡ Some fields
    → numbers_added MOST_AREA true mesh.area (fields_at (replicate nx AnyNumber) fields) ≡ Ok (true, rest, area) → word_at line_feed rest ≡ Some more_bytes
    → step_of (mesh_format name) (Some (line.Area nx rows more cells)) mesh bytes ≡ Ok (next_row nx rows more cells, record { mosaic = mesh.mosaic; area = area }, more_bytes)
unfolding row_at
row_is_read name nx rows more cells mesh bytes fields rest more_bytes area word found end =
    let f = added_some MOST_AREA true mesh.area (fields_at (replicate nx AnyNumber) fields) (true, rest, area) found in
    let keep : list_all (is_at_most MOST_AREA) (map value f.0.0) ≡ true = ap (λ (y : Bool × List ℕ × List ℤ). y.0) f.2 in
    let rest_is : f.0.1 ≡ rest = ap (λ (y : Bool × List ℕ × List ℤ). y.1) f.2 in
    let added : mesh.area ++ map (capped MOST_AREA) (map value f.0.0) ≡ area = ap (λ (y : Bool × List ℕ × List ℤ). y.2) f.2 in
    let same : mesh.area ++ map pos (map value f.0.0) ≡ area = ap (λ (l : List ℤ). mesh.area ++ l) (sym (stored MOST_AREA (map value f.0.0) keep)) ∙ added in
    rw (word, f.1, rest_is, end, keep, same) refl
