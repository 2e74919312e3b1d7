-- What the reader's values are in the terms of the format.
use Rattle.std.specs.Prelude.{ℕ, ◌+◌, ◌<◌, ◌^◌, List, [], ◌∷◌, ◌++◌, map, Bool, Option, Some, None, Result, Ok, Err, ℤ, pos, if◌then◌else◌}
use Rattle.cpl_lines.specs.declared.fault.LineFault.{LineFault}
use Rattle.cpl_lines.specs.declared.fault.LineFault.TheVariants as fault
use Rattle.cpl_lines.specs.Fields.{Field, Number, Letter, value}
use Rattle.cpl_lines.specs.Lines.{Line, values}
use Rattle.cpl_mkx.specs.declared.boxes.BoxMesh.{BoxMesh}
use Rattle.cpl_mkx.specs.declared.boxes.BoxPair.{BoxPair}
use Rattle.cpl_mkx.specs.declared.next_line.NextLine.{NextLine}
use Rattle.cpl_mkx.specs.declared.next_line.NextLine.TheVariants as next
use Rattle.cpl_mkx.specs.declared.size.SizeNumbers.{SizeNumbers}
use Rattle.cpl_mkx.specs.declared.reader.MeshParts.{MeshParts}
use Rattle.cpl_mkx.specs.declared.reader.Reader.{Reader}
use Rattle.cpl_mkx.specs.BoxFormat.{edges_keep_limits, is_one}

-- a size as it is spelled
abbrev pub size_line_of : List ℕ → SizeNumbers → Line
size_line_of word numbers =
    record { word = word; fields = Number numbers.nx ∷ Number numbers.ny ∷ Letter numbers.cyclic ∷ Letter numbers.fold ∷ [] }

-- the edges of a line that was found, and the rest after it; or its fault
abbrev pub edges_judged : Option (Line × List ℕ) → Result (List ℤ × List ℕ) LineFault
edges_judged None = Err fault.Form
edges_judged (Some found) =
    if edges_keep_limits (values found.0) then Ok (map pos (values found.0), found.1) else Err fault.Limit

-- the rest after digits, and the list with what they tell at its end
abbrev pub digits_added : List Bool → Option (List Field × List ℕ) → Result (List ℕ × List Bool) LineFault
digits_added list None = Err fault.Form
digits_added list (Some found) = Ok (found.1, list ++ map is_one (map value found.0))

-- what is read of the two grids
abbrev pub mesh_of : MeshParts → BoxMesh
mesh_of parts = record { x = parts.x.items; y = parts.y.items; cyclic = parts.cyclic; fold = parts.fold }

abbrev pub pair_of : Reader → BoxPair
pair_of reader = record { air = mesh_of reader.air; ocean = mesh_of reader.ocean; wet = reader.wet.items; column = reader.column }

-- what a reader tells when it has read a line, with the rest after it
abbrev pub stepped : Reader → List ℕ → NextLine × BoxPair × List ℕ
stepped reader rest = (reader.next, pair_of reader, rest)

-- the sizes fit their types with one more
abbrev pub IsSmall : NextLine → Type 0
IsSmall (next.Columns of nx ny) = (nx + 1 < 2 ^ 32) × (ny + 1 < 2 ^ 32)
IsSmall (next.Rows of nx ny) = (nx + 1 < 2 ^ 32) × (ny + 1 < 2 ^ 32)
IsSmall line = Unit {0}
