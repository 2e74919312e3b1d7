use Rattle.std.proofs.Common.{◌++◌, map, take}
use Rattle.std.specs.List.{flat_map}
use Rattle.cpl_stocks.specs.Lines.{line}
use Rattle.cpl_stocks.specs.Writers.{Wrote}
use Rattle.cpl_stocks.proofs.table.table_text.Given as goal

abbrev pub invariant-loop-row : goal.invariant-loop-row
invariant-loop-row g l =
    Wrote l.writer (line (map (λ name. name.now) l.columns) ++ flat_map line (map g.R.TableRow.fields (take l.row-index l.rows)))
