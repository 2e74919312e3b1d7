-- Boxes: their limits, their text, and the first fault of bytes.
use Rattle.std.specs.Prelude.{◌≡◌, ℕ, zero, suc, ◌*◌, ◌≤◌, List, [], ◌∷◌, ◌++◌, length, map, take, drop, codes, Bool, All, Some, None, ℤ}
use Rattle.std.specs.List.{flat_map}
use Rattle.cpl_fixed.specs.declared.limits.TheConstants.{LONGEST_SIDE, MOST_CELLS}
use Rattle.cpl_fixed.specs.Ranges.{IsFromℤ}
use Rattle.cpl_xgrid.specs.Lists.{IsColumn}
use Rattle.cpl_lines.specs.Fields.{Field, Number, Letter}
use Rattle.cpl_lines.specs.Lines.{Line, row, line_text}
use Rattle.cpl_lines.specs.Formats.{IsSyntaxFault, IsLimitFault}
use Rattle.cpl_gridfile.specs.MeshFormat.{magnitude, flip_letter}
use Rattle.cpl_mkx.specs.declared.boxes.BoxMesh.{BoxMesh}
use Rattle.cpl_mkx.specs.declared.boxes.BoxPair.{BoxPair}
use Rattle.cpl_mkx.specs.declared.boxes.TheConstants.{MOST_EDGE}
use Rattle.cpl_mkx.specs.declared.fault.BoxesError.{BoxesError}
use Rattle.cpl_mkx.specs.declared.fault.BoxesError.TheVariants.{Syntax, Limit, Memory}
use Rattle.cpl_mkx.specs.declared.next_line.Parent.{Parent}
use Rattle.cpl_mkx.specs.declared.next_line.Parent.TheVariants as parent
use Rattle.cpl_mkx.specs.declared.next_line.NextLine.TheVariants as next
use Rattle.cpl_mkx.specs.BoxFormat.{box_format, parent_word}
use Rattle.cpl_mkx.specs.Rules.{columns_of, rows_of, boxes_fault}

-- LIMITS

-- an edge is 0 to 2^20
abbrev pub IsEdge : ℤ → Type 0
IsEdge edge = IsFromℤ 0 MOST_EDGE edge

-- 1 to 1,024 columns and rows, of at most 2^18 boxes
pub record IsBoxMesh (mesh : BoxMesh) : Type 0 where
  pub columns_least : 1 ≤ columns_of mesh
  pub columns_most : columns_of mesh ≤ LONGEST_SIDE
  pub rows_least : 1 ≤ rows_of mesh
  pub rows_most : rows_of mesh ≤ LONGEST_SIDE
  pub few : columns_of mesh * rows_of mesh ≤ MOST_CELLS
  pub x : All IsEdge mesh.x
  pub y : All IsEdge mesh.y

-- all numbers are within the limits, with a digit for each box of the ocean
pub record IsWithinLimits (pair : BoxPair) : Type 0 where
  pub air : IsBoxMesh pair.air
  pub ocean : IsBoxMesh pair.ocean
  pub wet : length pair.wet ≡ columns_of pair.ocean * rows_of pair.ocean
  pub column : IsColumn pair.column

-- boxes that are read: within the limits, and no rule is broken
pub record IsBoxPair (pair : BoxPair) : Type 0 where
  pub limits : IsWithinLimits pair
  pub rules : boxes_fault pair ≡ None

-- THE TEXT

abbrev pub edges_line : List ℕ → List ℤ → Line
edges_line word edges = row word (map magnitude edges)

-- a grid: its size, and its edges
abbrev pub mesh_lines : Parent → BoxMesh → List Line
mesh_lines of mesh =
    record { word = parent_word of; fields = Number (columns_of mesh) ∷ Number (rows_of mesh) ∷ Letter (flip_letter mesh.cyclic) ∷ Letter (flip_letter mesh.fold) ∷ [] }
    ∷ edges_line (codes "x") mesh.x ∷ edges_line (codes "y") mesh.y ∷ []

abbrev pub digit : Bool → Field
digit wet = Letter (flip_letter wet)

-- this many rows of nx digits each
abbrev pub wet_lines : ℕ → ℕ → List Bool → List Line
wet_lines zero nx wet = []
wet_lines (suc rows) nx wet = record { word = codes "wet"; fields = map digit (take nx wet) } ∷ wet_lines rows nx (drop nx wet)

-- the lines of boxes
abbrev pub box_lines : BoxPair → List Line
box_lines pair =
    row (codes "boxes 1") []
    ∷ (mesh_lines parent.Air pair.air
    ++ (mesh_lines parent.Ocean pair.ocean
    ++ (wet_lines (rows_of pair.ocean) (columns_of pair.ocean) pair.wet
    ++ row (codes "column") (pair.column.layers ∷ pair.column.categories ∷ []) ∷ row (codes "end") [] ∷ [])))

-- the one spelling of boxes
abbrev pub boxes_text : BoxPair → List ℕ
boxes_text pair = flat_map line_text (box_lines pair)

-- FAULTS

-- bytes that spell boxes within the limits which break a rule first so
pub record IsRuleFault (bytes : List ℕ) (fault : BoxesError) : Type 0 where
  pub pair : BoxPair
  pub limits : IsWithinLimits pair
  pub text : bytes ≡ boxes_text pair
  pub broken : boxes_fault pair ≡ Some fault

-- The first fault of bytes that are no text of boxes. The earlier line decides between a line's form and its limits; the rules come
-- after all lines. Out of memory is free.
abbrev pub IsReadingFault : List ℕ → BoxesError → Type 0
IsReadingFault bytes (Syntax number) = IsSyntaxFault box_format next.Head bytes number
IsReadingFault bytes (Limit number) = IsLimitFault box_format next.Head bytes number
IsReadingFault bytes Memory = Unit {0}
IsReadingFault bytes fault = IsRuleFault bytes fault
