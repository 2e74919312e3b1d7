-- Reading boxes: what bytes spell, or their first fault.
use Rattle.std.specs.Prelude.{ℕ, List, Option, Some, None, Result, Ok, Err}
use Rattle.cpl_lines.specs.declared.fault.LinesError.{LinesError}
use Rattle.cpl_lines.specs.Reading.{made_from}
use Rattle.cpl_mkx.specs.declared.boxes.BoxPair.{BoxPair}
use Rattle.cpl_mkx.specs.declared.fault.BoxesError.{BoxesError}
use Rattle.cpl_mkx.specs.declared.next_line.NextLine.TheVariants as next
use Rattle.cpl_mkx.specs.Faults.{of_lines}
use Rattle.cpl_mkx.specs.BoxFormat.{box_format, no_boxes}
use Rattle.cpl_mkx.specs.Rules.{boxes_fault}

-- the boxes that the lines of bytes tell, or the first line at fault
abbrev pub lines_in : List ℕ → Result BoxPair LinesError
lines_in bytes = made_from box_format next.Head no_boxes bytes

abbrev pub judged : Option BoxesError → BoxPair → Result BoxPair BoxesError
judged (Some fault) pair = Err fault
judged None pair = Ok pair

abbrev pub judged_lines : Result BoxPair LinesError → Result BoxPair BoxesError
judged_lines (Ok pair) = judged (boxes_fault pair) pair
judged_lines (Err fault) = Err (of_lines fault)

-- the boxes that bytes spell, or their first fault
unfoldable pub boxes_of : List ℕ → Result BoxPair BoxesError
boxes_of bytes = judged_lines (lines_in bytes)
