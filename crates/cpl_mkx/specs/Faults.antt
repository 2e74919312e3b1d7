-- Faults of boxes.
use Rattle.std.specs.Prelude.{Bool, true, false}
use Rattle.cpl_lines.specs.declared.fault.LinesError.{LinesError}
use Rattle.cpl_lines.specs.declared.fault.LinesError.TheVariants as lines
use Rattle.cpl_mkx.specs.declared.fault.BoxesError.{BoxesError}
use Rattle.cpl_mkx.specs.declared.fault.BoxesError.TheVariants.{Syntax, Limit, Memory}

-- the fault of boxes whose lines have this fault
abbrev pub of_lines : LinesError → BoxesError
of_lines (lines.Syntax number) = Syntax number
of_lines (lines.Limit number) = Limit number
of_lines lines.Memory = Memory

-- out of memory may come in place of any answer
abbrev pub is_memory : BoxesError → Bool
is_memory Memory = true
is_memory fault = false
