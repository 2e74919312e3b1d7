-- The laws of reading grids of a kind: what is read is the one spelling of a grid, that spelling is read, and the fault that
-- is told is the first.
use Rattle.std.proofs.Common.{◌≡◌, ◌≢◌, ◌∙◌, refl, ap, subst, ℕ, List, Option, Some, None, Result, Ok, Err}
use Rattle.std.specs.Prelude.{IfOk, IfErr}
use Rattle.cpl_fixed.specs.Results.{Returns}
use Rattle.cpl_lines.specs.declared.fault.LinesError.{LinesError}
use Rattle.cpl_lines.specs.declared.fault.LinesError.TheVariants as lines
use Rattle.cpl_lines.specs.Lines.{Line}
use Rattle.cpl_lines.specs.Reading.{lines_of, made_with}
use Rattle.cpl_lines.proofs.Turns.{IsFirst, fault_is_first, syntax_is_first, limit_is_first}
use Rattle.cpl_gridfile.specs.declared.fault.GridError.{GridError}
use Rattle.cpl_gridfile.specs.declared.fault.GridError.TheVariants.{Syntax, Limit, Memory}
use Rattle.cpl_gridfile.specs.declared.next_line.NextLine.TheVariants as next
use Rattle.cpl_gridfile.specs.GridFormat.{Parts, grid_format, no_parts}
use Rattle.cpl_gridfile.specs.Faults.{of_lines, is_memory}
use Rattle.cpl_gridfile.specs.Grids.{Kind, IsGrid, IsRuleFault, IsFirstFault, judged, judged_parts, parts_in, grid_in}

-- a rule never tells a fault of lines
abbrev pub IsRule : GridError → Type 0
IsRule (Syntax number) = ⊥
IsRule (Limit number) = ⊥
IsRule fault = Unit {0}

-- what the laws of a kind rest on: the spelling of a grid within the limits tells its parts, and parts that are told are of
-- a grid within the limits that is spelled so. Rules tell no fault of lines.
pub record Agrees {Grid : Type 0} (kind : Kind Grid) : Type 0 where
  pub spelled : (grid : Grid) → kind.IsWithin grid → (parts : Parts) × (parts_in kind.kind (kind.text grid) ≡ Ok parts) × (kind.of_parts parts ≡ grid)
  pub within : (bytes : List ℕ) (parts : Parts) → parts_in kind.kind bytes ≡ Ok parts → kind.IsWithin (kind.of_parts parts)
  pub text : (bytes : List ℕ) (parts : Parts) → parts_in kind.kind bytes ≡ Ok parts → bytes ≡ kind.text (kind.of_parts parts)
  pub rules : (grid : Grid) (fault : GridError) → kind.broken_rule grid ≡ Some fault → IsRule fault

module _ {Grid : Type 0} (kind : Kind Grid) (agrees : Agrees kind) where
  -- what reading says of the bytes that spell a grid within the limits
  spelling_is_judged : (grid : Grid) → kind.IsWithin grid → grid_in kind (kind.text grid) ≡ judged (kind.broken_rule grid) grid
  spelling_is_judged grid within =
      let parts = agrees.spelled grid within in
      ap (judged_parts kind) parts.1 ∙ ap (λ (g : Grid). judged (kind.broken_rule g) g) parts.2

  -- the spelling of a grid is read as that grid
  pub grid_reads : (grid : Grid) → IsGrid kind grid → grid_in kind (kind.text grid) ≡ Ok grid
  grid_reads grid is = spelling_is_judged grid is.limits ∙ ap (λ (fault : Option GridError). judged fault grid) is.rules

  -- what the rules let through, and what they refuse
  judged_ok : (fault : Option GridError) (grid found : Grid) → judged fault grid ≡ Ok found → (fault ≡ None) × (grid ≡ found)
  judged_ok (Some fault) grid found e = absurd cc
  judged_ok None grid found e = (refl, cc)

  judged_err : (broken : Option GridError) (grid : Grid) (fault : GridError) → judged broken grid ≡ Err fault → broken ≡ Some fault
  judged_err (Some broken) grid fault e = cc
  judged_err None grid fault e = absurd cc

  -- what is read is spelled so, and is a grid
  found_is_grid : (bytes : List ℕ) (read : Result Parts LinesError) → parts_in kind.kind bytes ≡ read → (grid : Grid) → judged_parts kind read ≡ Ok grid
      → IsGrid kind grid × (bytes ≡ kind.text grid)
  found_is_grid bytes (Err fault) is grid e = absurd cc
  found_is_grid bytes (Ok parts) is grid e =
      let within = agrees.within bytes parts is in
      let text = agrees.text bytes parts is in
      let kept = judged_ok (kind.broken_rule (kind.of_parts parts)) (kind.of_parts parts) grid e in
      subst (λ (g : Grid). IsGrid kind g × (bytes ≡ kind.text g)) kept.1 (record { limits = within; rules = kept.0 }, text)

  pub reads_grid : (bytes : List ℕ) (grid : Grid) → grid_in kind bytes ≡ Ok grid → IsGrid kind grid × (bytes ≡ kind.text grid)
  reads_grid bytes grid e = found_is_grid bytes (parts_in kind.kind bytes) refl grid e

  -- ---- a fault is the first

  rule_is_first : (bytes : List ℕ) (fault : GridError) → IsRule fault → IsRuleFault kind bytes fault → IsFirstFault kind bytes fault
  rule_is_first bytes (Syntax number) rule is = absurd rule
  rule_is_first bytes (Limit number) rule is = absurd rule
  rule_is_first bytes Memory rule is = tt
  rule_is_first bytes fault rule is = is

  -- a fault of lines
  lines_fault : (read : Result (List Line) LinesError) (fault : LinesError) → made_with (grid_format kind.kind) next.Head no_parts read ≡ Err fault → read ≡ Err fault
  lines_fault (Ok lines) fault e = absurd cc
  lines_fault (Err other) fault e = cc

  line_is_first : (bytes : List ℕ) (fault : LinesError) → IsFirst (grid_format kind.kind) next.Head bytes fault → IsFirstFault kind bytes (of_lines fault)
  line_is_first bytes (lines.Syntax number) is = is
  line_is_first bytes (lines.Limit number) is = is
  line_is_first bytes lines.Memory is = tt

  fault_from : (bytes : List ℕ) (read : Result Parts LinesError) → parts_in kind.kind bytes ≡ read → (fault : GridError) → judged_parts kind read ≡ Err fault
      → IsFirstFault kind bytes fault
  fault_from bytes (Ok parts) is fault e =
      let grid : Grid = kind.of_parts parts in
      let broken = judged_err (kind.broken_rule grid) grid fault e in
      rule_is_first bytes fault (agrees.rules grid fault broken)
      (record { grid = grid; limits = agrees.within bytes parts is; text = agrees.text bytes parts is; broken = broken })
  fault_from bytes (Err lines) is fault e =
      let same : of_lines lines ≡ fault = cc in
      let first = fault_is_first (grid_format kind.kind) next.Head bytes lines (lines_fault (lines_of (grid_format kind.kind) next.Head bytes) lines is) in
      subst (IsFirstFault kind bytes) same (line_is_first bytes lines first)

  -- the fault that reading tells is the first
  pub fault_is_told : (bytes : List ℕ) (fault : GridError) → grid_in kind bytes ≡ Err fault → IsFirstFault kind bytes fault
  fault_is_told bytes fault e = fault_from bytes (parts_in kind.kind bytes) refl fault e

  -- a first fault is told, so there is one at most
  broken_lines : (bytes : List ℕ) (fault : LinesError) → lines_of (grid_format kind.kind) next.Head bytes ≡ Err fault → grid_in kind bytes ≡ Err (of_lines fault)
  broken_lines bytes fault e = ap (λ (read : Result (List Line) LinesError). judged_parts kind (made_with (grid_format kind.kind) next.Head no_parts read)) e

  broken_rule_is_told : (bytes : List ℕ) (fault : GridError) → IsRuleFault kind bytes fault → grid_in kind bytes ≡ Err fault
  broken_rule_is_told bytes fault is =
      ap (grid_in kind) is.text ∙ spelling_is_judged is.grid is.limits ∙ ap (λ (broken : Option GridError). judged broken is.grid) is.broken

  pub first_is_told : (bytes : List ℕ) (fault : GridError) → fault ≢ Memory → IsFirstFault kind bytes fault → grid_in kind bytes ≡ Err fault
  first_is_told bytes Memory other is = absurd (other refl)
  first_is_told bytes (Syntax number) other is = broken_lines bytes (lines.Syntax number) (syntax_is_first (grid_format kind.kind) next.Head bytes number is)
  first_is_told bytes (Limit number) other is = broken_lines bytes (lines.Limit number) (limit_is_first (grid_format kind.kind) next.Head bytes number is)
  first_is_told bytes fault other is = broken_rule_is_told bytes fault is

  -- ---- what a reader returned

  -- what a reader returned of these bytes
  abbrev pub Reads : List ℕ → Result Grid GridError → Type 0
  Reads bytes returned = Returns is_memory returned (grid_in kind bytes)

  pub returned_is_grid : (bytes : List ℕ) (returned : Result Grid GridError) → Reads bytes returned → IfOk returned (IsGrid kind)
  returned_is_grid bytes (Ok grid) reads = (reads_grid bytes grid reads).0
  returned_is_grid bytes (Err fault) reads = tt

  pub returned_is_spelled : (bytes : List ℕ) (returned : Result Grid GridError) → Reads bytes returned → IfOk returned (λ grid. bytes ≡ kind.text grid)
  returned_is_spelled bytes (Ok grid) reads = (reads_grid bytes grid reads).1
  returned_is_spelled bytes (Err fault) reads = tt

  pub spelled_is_returned : (bytes : List ℕ) (returned : Result Grid GridError) → Reads bytes returned → (grid : Grid) → IsGrid kind grid → bytes ≡ kind.text grid
      → Returns is_memory returned (Ok grid)
  spelled_is_returned bytes returned reads grid is text =
      subst (Returns is_memory returned) (ap (grid_in kind) text ∙ grid_reads grid is) reads

  pub fault_is_first_of : (bytes : List ℕ) (returned : Result Grid GridError) → Reads bytes returned → IfErr returned (IsFirstFault kind bytes)
  fault_is_first_of bytes (Ok grid) reads = tt
  fault_is_first_of bytes (Err Memory) reads = tt
  fault_is_first_of bytes (Err fault) reads = fault_is_told bytes fault reads

  pub first_is_returned : (bytes : List ℕ) (returned : Result Grid GridError) → Reads bytes returned → (fault : GridError) → fault ≢ Memory
      → IsFirstFault kind bytes fault → Returns is_memory returned (Err fault)
  first_is_returned bytes returned reads fault other is = subst (Returns is_memory returned) (first_is_told bytes fault other is) reads
