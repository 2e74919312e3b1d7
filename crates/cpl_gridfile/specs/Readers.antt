-- What the reader's values are in the terms of the format.
use Rattle.std.specs.Prelude.{◌≡◌, ℕ, ◌==◌, ◌&&◌, nat_le, pos, Bool, true, false, List, [], ◌∷◌, ◌++◌, codes, Option, Some, None, Result, Ok, Err}
use Rattle.cpl_mosaic.specs.declared.parts.CellId.{CellId}
use Rattle.cpl_mosaic.specs.declared.parts.Span.{Span}
use Rattle.cpl_mosaic.specs.declared.parts.Contact.{Contact}
use Rattle.cpl_mosaic.specs.declared.mosaic.Mesh.{Mesh}
use Rattle.cpl_lines.specs.Fields.{Field, Number, Letter, Kind, AnyNumber}
use Rattle.cpl_lines.specs.Lines.{Line}
use Rattle.cpl_gridfile.specs.declared.contact.SpanNumbers.{SpanNumbers}
use Rattle.cpl_gridfile.specs.declared.contact.ContactNumbers.{ContactNumbers}
use Rattle.cpl_gridfile.specs.declared.mesh.MeshParts.{MeshParts}
use Rattle.cpl_gridfile.specs.declared.item.CellNumbers.{CellNumbers}
use Rattle.cpl_gridfile.specs.declared.item.ItemNumbers.{ItemNumbers}
use Rattle.cpl_gridfile.specs.declared.item.Item.{Item}
use Rattle.cpl_gridfile.specs.declared.next_line.GridList.{GridList}
use Rattle.cpl_gridfile.specs.declared.next_line.NextLine.{NextLine}
use Rattle.cpl_gridfile.specs.declared.reader.Reader.{Reader}
use Rattle.cpl_gridfile.specs.declared.next_line.GridMesh.{GridMesh}
use Rattle.cpl_gridfile.specs.declared.next_line.MeshLine.{MeshLine}
use Rattle.cpl_lines.specs.declared.fault.LineFault.{LineFault}
use Rattle.cpl_lines.specs.Steps.{step_of}
use Rattle.cpl_gridfile.specs.MeshFormat.{side_of, mesh_format}
use Rattle.cpl_gridfile.specs.GridFormat.{Parts, mesh_in, with_mesh, cell_keeps_limits, most_amount}

-- What was made of numbers, seen by view, is this value where the numbers keep the limits, and nothing else is made.
abbrev pub Keeps : {X Y : Type 0} → (X → Y) → Bool → Y → Option X → Type 0
Keeps view keeps value (Some x) = (keeps ≡ true) × (value ≡ view x)
Keeps view keeps value None = keeps ≡ false

-- a range and a contact as they are spelled
abbrev pub span_fields_of : SpanNumbers → List Field
span_fields_of numbers = Number numbers.tile ∷ Letter numbers.side ∷ Number numbers.lo ∷ Number numbers.hi ∷ []

abbrev pub contact_line_of : ContactNumbers → Line
contact_line_of numbers = record {
  word = codes "contact";
  fields = span_fields_of numbers.first ++ (span_fields_of numbers.second ++ Letter numbers.flip ∷ []);
}

abbrev pub span_of_numbers : SpanNumbers → Span
span_of_numbers numbers = record { tile = numbers.tile; side = side_of numbers.side; lo = numbers.lo; hi = numbers.hi }

abbrev pub contact_of_numbers : ContactNumbers → Contact
contact_of_numbers numbers = record { first = span_of_numbers numbers.first; second = span_of_numbers numbers.second; flip = numbers.flip == 49 }

-- what is read of a mesh
abbrev pub mesh_of : MeshParts → Mesh
mesh_of parts = record { mosaic = record { tiles = parts.tiles.items; contacts = parts.contacts.items }; area = parts.area.items }

-- a cell and an item as they are spelled
abbrev pub cell_kinds : List Kind
cell_kinds = AnyNumber ∷ AnyNumber ∷ AnyNumber ∷ []

abbrev pub cell_fields_of : CellNumbers → List Field
cell_fields_of numbers = Number numbers.tile ∷ Number numbers.i ∷ Number numbers.j ∷ []

abbrev pub item_line_of : List ℕ → ItemNumbers → Line
item_line_of word numbers = record {
  word = word;
  fields = cell_fields_of numbers.from ++ (cell_fields_of numbers.to ++ Number numbers.amount ∷ []);
}

abbrev pub cell_of_numbers : CellNumbers → CellId
cell_of_numbers numbers = record { tile = numbers.tile; i = numbers.i; j = numbers.j }

abbrev pub item_of_numbers : ItemNumbers → Item
item_of_numbers numbers = record { from = cell_of_numbers numbers.from; to = cell_of_numbers numbers.to; amount = pos numbers.amount }

abbrev pub item_keeps_limits : GridList → ItemNumbers → Bool
item_keeps_limits list numbers =
    cell_keeps_limits (cell_of_numbers numbers.from) && cell_keeps_limits (cell_of_numbers numbers.to) && nat_le numbers.amount (most_amount list)

-- what is read of a grid
abbrev pub parts_of : Reader → Parts
parts_of reader = record {
  air = mesh_of reader.air;
  land = mesh_of reader.land;
  ocean = mesh_of reader.ocean;
  column = reader.column;
  land_rows = reader.land_rows.items;
  ocean_rows = reader.ocean_rows.items;
  outlets = reader.outlets.items;
}

-- what a reader tells when it has read a line, with the rest after it
abbrev pub stepped : Reader → List ℕ → NextLine × Parts × List ℕ
stepped reader rest = (reader.next, parts_of reader, rest)

-- a step in a mesh, with the mesh among the parts of the grid
abbrev pub in_parts : GridMesh → Parts → Result (Option MeshLine × Mesh × List ℕ) LineFault → Result (Option MeshLine × Parts × List ℕ) LineFault
in_parts mesh parts (Ok step) = Ok (step.0, with_mesh mesh step.1 parts, step.2)
in_parts mesh parts (Err fault) = Err fault

abbrev pub mesh_step : GridMesh → MeshLine → Parts → List ℕ → Result (Option MeshLine × Parts × List ℕ) LineFault
mesh_step mesh line parts bytes = in_parts mesh parts (step_of (mesh_format mesh) (Some line) (mesh_in mesh parts) bytes)
