use Rattle.std.proofs.Common.{◌≡◌, ◌++◌, map, take, codes, rules}
use Rattle.cpl_lines.specs.Lines.{line_text, row}
use Rattle.cpl_gridfile.specs.MeshFormat.{magnitude}
use Rattle.cpl_gridfile.proofs.PrintedLines.{rows_begin, one_row, row_room, rows_end, rows_text}
use Rattle.cpl_gridfile.proofs.print.print_rows.Goals as goal

pub loop-row-init : goal.loop-row-init
loop-row-init c = rows_begin c.args.nx c.args.rows c.args.text.now.items c.args.areas.now c.requires

pub split_at-requires : goal.split_at-requires
split_at-requires c =
    row_room c.args.nx c.args.rows c.loop-row._row (c.args.text.now.items ++ rows_text c.args.nx c.args.rows c.args.areas.now) c.loop-row.text.items c.loop-row.rest.now
    c.loop-row-test.true c.loop-row.invariant

pub loop-row-preserved : goal.loop-row-preserved
loop-row-preserved c =
    let grown : c.print_areas.new.text.items ≡ c.loop-row.text.items ++ line_text (row (codes "area") (map magnitude (take c.args.nx c.loop-row.rest.now))) = search rules in
    rw c.split_at.ensures.back
    (one_row c.args.nx c.args.rows c.loop-row._row (c.args.text.now.items ++ rows_text c.args.nx c.args.rows c.args.areas.now) c.loop-row.text.items
    c.print_areas.new.text.items c.loop-row.rest.now c.loop-row-test.true c.loop-row.invariant grown)

pub returns : goal.returns
returns c =
    rows_end c.args.nx c.args.rows c.loop-row._row (c.args.text.now.items ++ rows_text c.args.nx c.args.rows c.args.areas.now) c.loop-row.text.items c.loop-row.rest.now
    c.loop-row-test.false c.loop-row.invariant
