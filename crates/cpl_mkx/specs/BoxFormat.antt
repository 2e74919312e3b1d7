-- The lines of a text of boxes.
use Rattle.std.specs.Prelude.{ℕ, zero, suc, ◌+◌, ◌*◌, ◌==◌, ◌&&◌, nat_le, List, [], ◌∷◌, ◌++◌, map, replicate, codes, Bool, true, false, Option, Some, None, ℤ, pos}
use Rattle.std.specs.List.{list_all}
use Rattle.cpl_fixed.specs.declared.limits.TheConstants.{LONGEST_SIDE, MOST_CELLS}
use Rattle.cpl_xgrid.specs.declared.parts.Column.{Column}
use Rattle.cpl_lines.specs.Fields.{Kind, AnyNumber, OneOf}
use Rattle.cpl_lines.specs.Lines.{Line, Form, row_form, at, values}
use Rattle.cpl_lines.specs.Formats.{Format}
use Rattle.cpl_gridfile.specs.GridFormat.{column_of, column_keeps_limits}
use Rattle.cpl_mkx.specs.declared.boxes.BoxMesh.{BoxMesh}
use Rattle.cpl_mkx.specs.declared.boxes.BoxPair.{BoxPair}
use Rattle.cpl_mkx.specs.declared.boxes.TheConstants.{MOST_EDGE}
use Rattle.cpl_mkx.specs.declared.next_line.Parent.{Parent}
use Rattle.cpl_mkx.specs.declared.next_line.Parent.TheVariants as parent
use Rattle.cpl_mkx.specs.declared.next_line.NextLine.{NextLine}
use Rattle.cpl_mkx.specs.declared.next_line.NextLine.TheVariants as next

-- FORMS

abbrev pub parent_word : Parent → List ℕ
parent_word parent.Air = codes "air"
parent_word parent.Ocean = codes "ocean"

-- yes or no is told by 1 or 0
abbrev pub flag : Kind
flag = OneOf (codes "01")

-- the size of a grid, and whether it is cyclic and folded
abbrev pub size_form : List ℕ → Form
size_form word = record { word = word; kinds = AnyNumber ∷ AnyNumber ∷ flag ∷ flag ∷ [] }

abbrev pub wet_form : ℕ → Form
wet_form nx = record { word = codes "wet"; kinds = replicate nx flag }

-- one edge more than boxes
abbrev pub box_form : NextLine → Option Form
box_form next.Head = Some (row_form (codes "boxes 1") 0)
box_form (next.Size of) = Some (size_form (parent_word of))
box_form (next.Columns of nx ny) = Some (row_form (codes "x") (nx + 1))
box_form (next.Rows of nx ny) = Some (row_form (codes "y") (ny + 1))
box_form (next.Wet nx more) = Some (wet_form nx)
box_form next.Column = Some (row_form (codes "column") 2)
box_form next.End = Some (row_form (codes "end") 0)
box_form next.Nothing = None

-- LIMITS

-- 1 to 1,024 columns and rows, of at most 2^18 boxes
abbrev pub size_keeps_limits : ℕ → ℕ → Bool
size_keeps_limits nx ny = nat_le 1 nx && nat_le nx LONGEST_SIDE && nat_le 1 ny && nat_le ny LONGEST_SIDE && nat_le (nx * ny) MOST_CELLS

-- edges of at most 2^20
abbrev pub edges_keep_limits : List ℕ → Bool
edges_keep_limits edges = list_all (λ edge. nat_le edge MOST_EDGE) edges

abbrev pub box_keeps : NextLine → Line → Bool
box_keeps next.Head said = true
box_keeps (next.Size of) said = size_keeps_limits (at said 0) (at said 1)
box_keeps (next.Columns of nx ny) said = edges_keep_limits (values said)
box_keeps (next.Rows of nx ny) said = edges_keep_limits (values said)
box_keeps (next.Wet nx more) said = true
box_keeps next.Column said = column_keeps_limits (column_of (at said 0) (at said 1))
box_keeps next.End said = true
box_keeps next.Nothing said = false

-- WHICH LINE COMES NEXT

abbrev pub next_wet : ℕ → ℕ → NextLine
next_wet nx zero = next.Column
next_wet nx (suc more) = next.Wet nx more

abbrev pub after_rows : Parent → ℕ → ℕ → NextLine
after_rows parent.Air nx ny = next.Size parent.Ocean
after_rows parent.Ocean nx ny = next_wet nx ny

abbrev pub box_after : NextLine → Line → NextLine
box_after next.Head said = next.Size parent.Air
box_after (next.Size of) said = next.Columns of (at said 0) (at said 1)
box_after (next.Columns of nx ny) said = next.Rows of nx ny
box_after (next.Rows of nx ny) said = after_rows of nx ny
box_after (next.Wet nx more) said = next_wet nx more
box_after next.Column said = next.End
box_after next.End said = next.Nothing
box_after next.Nothing said = next.Nothing

-- WHAT LINES ADD

abbrev pub no_mesh : BoxMesh
no_mesh = record { x = []; y = []; cyclic = false; fold = false }

abbrev pub no_boxes : BoxPair
no_boxes = record { air = no_mesh; ocean = no_mesh; wet = []; column = column_of 0 0 }

-- one of the two grids changed
abbrev pub with_mesh : Parent → (BoxMesh → BoxMesh) → BoxPair → BoxPair
with_mesh parent.Air change pair = record { air = change pair.air; ocean = pair.ocean; wet = pair.wet; column = pair.column }
with_mesh parent.Ocean change pair = record { air = pair.air; ocean = change pair.ocean; wet = pair.wet; column = pair.column }

abbrev pub with_flags : Bool → Bool → BoxMesh → BoxMesh
with_flags cyclic fold mesh = record { x = mesh.x; y = mesh.y; cyclic = cyclic; fold = fold }

abbrev pub with_x : List ℤ → BoxMesh → BoxMesh
with_x x mesh = record { x = x; y = mesh.y; cyclic = mesh.cyclic; fold = mesh.fold }

abbrev pub with_y : List ℤ → BoxMesh → BoxMesh
with_y y mesh = record { x = mesh.x; y = y; cyclic = mesh.cyclic; fold = mesh.fold }

abbrev pub with_wet : List Bool → BoxPair → BoxPair
with_wet wet pair = record { air = pair.air; ocean = pair.ocean; wet = pair.wet ++ wet; column = pair.column }

abbrev pub with_column : Column → BoxPair → BoxPair
with_column column pair = record { air = pair.air; ocean = pair.ocean; wet = pair.wet; column = column }

-- what a digit tells
abbrev pub is_one : ℕ → Bool
is_one digit = digit == 49

abbrev pub box_add : NextLine → Line → BoxPair → BoxPair
box_add next.Head said pair = pair
box_add (next.Size of) said pair = with_mesh of (with_flags (is_one (at said 2)) (is_one (at said 3))) pair
box_add (next.Columns of nx ny) said pair = with_mesh of (with_x (map pos (values said))) pair
box_add (next.Rows of nx ny) said pair = with_mesh of (with_y (map pos (values said))) pair
box_add (next.Wet nx more) said pair = with_wet (map is_one (values said)) pair
box_add next.Column said pair = with_column (column_of (at said 0) (at said 1)) pair
box_add next.End said pair = pair
box_add next.Nothing said pair = pair

-- the lines of a text of boxes, in order: the two grids, the rows of digits, and the column
abbrev pub box_format : Format NextLine BoxPair
box_format = record { form = box_form; keeps = box_keeps; after = box_after; add = box_add }
