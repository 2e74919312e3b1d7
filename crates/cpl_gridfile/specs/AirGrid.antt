-- Air grids: the mesh of the air alone.
use Rattle.std.specs.Prelude.{ℕ, List, [], ◌∷◌, ◌++◌, codes, Option}
use Rattle.std.specs.List.{flat_map}
use Rattle.cpl_fixed.specs.declared.words.Component.TheVariants.{Atmos}
use Rattle.cpl_mosaic.specs.declared.mosaic.Mesh.{Mesh}
use Rattle.cpl_lines.specs.Lines.{Line, row, line_text}
use Rattle.cpl_gridfile.specs.declared.fault.GridError.{GridError}
use Rattle.cpl_gridfile.specs.declared.next_line.GridKind.TheVariants as kind
use Rattle.cpl_gridfile.specs.declared.next_line.GridMesh.TheVariants as mesh
use Rattle.cpl_gridfile.specs.MeshFormat.{mesh_lines}
use Rattle.cpl_gridfile.specs.GridFormat.{Parts, head_word}
use Rattle.cpl_gridfile.specs.Within.{IsWithinLimits}
use Rattle.cpl_gridfile.specs.Rules.{◌then◌, area_fault, mosaic_fault}
use Rattle.cpl_gridfile.specs.Grids.{Kind, IsGrid}

-- the lines of an air grid
abbrev pub air_lines : Mesh → List Line
air_lines air = row (head_word kind.Air) [] ∷ (mesh_lines mesh.Atmos air ++ row (codes "end") [] ∷ [])

-- the one spelling of an air grid
abbrev pub air_text : Mesh → List ℕ
air_text air = flat_map line_text (air_lines air)

-- the first broken rule of an air grid: the least cell without area, else the first broken rule of contacts
abbrev pub air_fault : Mesh → Option GridError
air_fault air = area_fault air then mosaic_fault Atmos air

abbrev pub air_of : Parts → Mesh
air_of parts = parts.air

abbrev pub air_grids : Kind Mesh
air_grids = record { kind = kind.Air; of_parts = air_of; IsWithin = IsWithinLimits; text = air_text; broken_rule = air_fault }

-- an air grid: within the limits, and no rule is broken
abbrev pub IsAirGrid : Mesh → Type 0
IsAirGrid air = IsGrid air_grids air
