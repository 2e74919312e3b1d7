-- Pieces of the text of a grid.
use Rattle.std.specs.Prelude.{ℕ, List}
use Rattle.std.specs.List.{flat_map}
use Rattle.cpl_mosaic.specs.declared.parts.Span.{Span}
use Rattle.cpl_lines.specs.Fields.{field_text}
use Rattle.cpl_gridfile.specs.MeshFormat.{span_fields}

-- the fields of a range
abbrev pub span_text : Span → List ℕ
span_text span = flat_map field_text (span_fields span)
