-- Reading one line: what it leads to and adds, or its fault.
use Rattle.std.specs.Prelude.{ℕ, ◌++◌, ◌&&◌, nat_le, min, ℤ, pos, Bool, true, false, List, map, Option, Some, None, Result, Ok, Err, if◌then◌else◌}
use Rattle.std.specs.List.{list_all}
use Rattle.cpl_lines.specs.declared.fault.LineFault.{LineFault}
use Rattle.cpl_lines.specs.declared.fault.LineFault.TheVariants as line
use Rattle.cpl_lines.specs.declared.fault.LinesError.{LinesError}
use Rattle.cpl_lines.specs.declared.fault.LinesError.TheVariants.{Syntax, Limit, Memory}
use Rattle.cpl_lines.specs.Fields.{Field, value}
use Rattle.cpl_lines.specs.Lines.{Line}
use Rattle.cpl_lines.specs.Formats.{Format}
use Rattle.cpl_lines.specs.Reading.{line_at}

-- out of memory may come in place of any answer
abbrev pub is_memory : LineFault → Bool
is_memory line.Memory = true
is_memory fault = false

abbrev pub is_out_of_memory : LinesError → Bool
is_out_of_memory Memory = true
is_out_of_memory fault = false

-- the fault of a text whose line of this number has this fault
abbrev pub fault_at : LineFault → ℕ → LinesError
fault_at line.Form number = Syntax number
fault_at line.Limit number = Limit number
fault_at line.Memory number = Memory

abbrev pub judged_line : {State Made : Type 0} → Format State Made → State → Made → Option (Line × List ℕ) → Result (State × Made × List ℕ) LineFault
judged_line format state made None = Err line.Form
judged_line format state made (Some found) =
    if format.keeps state found.0 then Ok (format.after state found.0, format.add state found.0 made, found.1) else Err line.Limit

-- the state after the line that comes next, what is made with it, and the rest after it; or its fault
abbrev pub step_of : {State Made : Type 0} → Format State Made → State → Made → List ℕ → Result (State × Made × List ℕ) LineFault
step_of format state made bytes = judged_line format state made (line_at (format.form state) bytes)

abbrev pub is_at_most : ℕ → ℕ → Bool
is_at_most most n = nat_le n most

-- a number as it is stored until the limits of its line are judged
abbrev pub capped : ℕ → ℕ → ℤ
capped most n = pos (min n most)

-- whether these numbers and all before are at most `most`, the rest after them, and the list with them at its end
abbrev pub numbers_added : ℕ → Bool → List ℤ → Option (List Field × List ℕ) → Result (Bool × List ℕ × List ℤ) LineFault
numbers_added most keeps list None = Err line.Form
numbers_added most keeps list (Some found) =
    Ok (keeps && list_all (is_at_most most) (map value found.0), found.1, list ++ map (capped most) (map value found.0))
