-- Grids of either kind: their text, and the first fault of bytes.
use Rattle.std.specs.Prelude.{◌≡◌, ℕ, List, Option, Some, None, Result, Ok, Err}
use Rattle.cpl_lines.specs.declared.fault.LinesError.{LinesError}
use Rattle.cpl_lines.specs.Formats.{IsSyntaxFault, IsLimitFault}
use Rattle.cpl_lines.specs.Reading.{made_from}
use Rattle.cpl_gridfile.specs.declared.fault.GridError.{GridError}
use Rattle.cpl_gridfile.specs.declared.fault.GridError.TheVariants.{Syntax, Limit, Memory}
use Rattle.cpl_gridfile.specs.declared.next_line.GridKind.{GridKind}
use Rattle.cpl_gridfile.specs.declared.next_line.NextLine.TheVariants as next
use Rattle.cpl_gridfile.specs.GridFormat.{Parts, grid_format, no_parts}
use Rattle.cpl_gridfile.specs.Faults.{of_lines}

-- A kind of grid: which lines its text has, the grid that their parts make, whether a grid's numbers are within the limits,
-- its one spelling, and the first rule that it breaks.
pub record Kind (Grid : Type 0) : Type 1 where
  pub kind : GridKind
  pub of_parts : Parts → Grid
  pub IsWithin : Grid → Type 0
  pub text : Grid → List ℕ
  pub broken_rule : Grid → Option GridError

-- within the limits, and no rule is broken
pub record IsGrid {Grid : Type 0} (kind : Kind Grid) (grid : Grid) : Type 0 where
  pub limits : kind.IsWithin grid
  pub rules : kind.broken_rule grid ≡ None

-- bytes that spell a grid within the limits which breaks a rule first so
pub record IsRuleFault {Grid : Type 0} (kind : Kind Grid) (bytes : List ℕ) (fault : GridError) : Type 0 where
  pub grid : Grid
  pub limits : kind.IsWithin grid
  pub text : bytes ≡ kind.text grid
  pub broken : kind.broken_rule grid ≡ Some fault

-- The first fault of bytes that are no text of a grid of this kind. The earlier line decides between a line's form and its
-- limits; the rules come after all lines. Out of memory is free.
abbrev pub IsFirstFault : {Grid : Type 0} → Kind Grid → List ℕ → GridError → Type 0
IsFirstFault kind bytes (Syntax number) = IsSyntaxFault (grid_format kind.kind) next.Head bytes number
IsFirstFault kind bytes (Limit number) = IsLimitFault (grid_format kind.kind) next.Head bytes number
IsFirstFault kind bytes Memory = Unit {0}
IsFirstFault kind bytes fault = IsRuleFault kind bytes fault

-- ---- reading

abbrev pub judged : {Grid : Type 0} → Option GridError → Grid → Result Grid GridError
judged (Some fault) grid = Err fault
judged None grid = Ok grid

abbrev pub judged_parts : {Grid : Type 0} → Kind Grid → Result Parts LinesError → Result Grid GridError
judged_parts kind (Ok parts) = judged (kind.broken_rule (kind.of_parts parts)) (kind.of_parts parts)
judged_parts kind (Err fault) = Err (of_lines fault)

-- the parts that the lines of bytes tell, or the first line at fault
abbrev pub parts_in : GridKind → List ℕ → Result Parts LinesError
parts_in kind bytes = made_from (grid_format kind) next.Head no_parts bytes

-- the grid that bytes spell, or their first fault
abbrev pub grid_in : {Grid : Type 0} → Kind Grid → List ℕ → Result Grid GridError
grid_in kind bytes = judged_parts kind (parts_in kind.kind bytes)
