use Rattle.std.proofs.Common.{◌≡◌, true, rules, codes, replicate, Ok, Some}
use Rattle.cpl_fixed.specs.declared.limits.TheConstants.{MOST_AREA}
use Rattle.cpl_lines.specs.Fields.{AnyNumber}
use Rattle.cpl_lines.specs.Lines.{line_feed}
use Rattle.cpl_lines.specs.Reading.{word_at, fields_at}
use Rattle.cpl_lines.specs.Steps.{numbers_added}
use Rattle.cpl_gridfile.specs.Readers.{mesh_of}
use Rattle.cpl_gridfile.proofs.AreaLines.{row_is_read}
use Rattle.cpl_gridfile.proofs.mesh.MeshParts.row.Goals as goal

pub returns : goal.returns
returns c =
    let word : word_at (codes "area") c.args.bytes.now ≡ Some c.in_ok-fields.fields.now = search rules in
    let end : word_at line_feed c.in_ok-keeps.rest.now ≡ Some c.in_ok-rest.rest.now = search rules in
    let added : numbers_added MOST_AREA true c.args.self.now.area.items (fields_at (replicate c.args.nx AnyNumber) c.in_ok-fields.fields.now)
    ≡ Ok (true, c.in_ok-keeps.rest.now, c.push_numbers.new.list.items) = search rules in
    rw (← c.rows.ensures)
    (row_is_read c.args.mesh c.args.nx c.args.rows c.args.more c.args.cells (mesh_of c.args.self.now) c.args.bytes.now c.in_ok-fields.fields.now c.in_ok-keeps.rest.now
    c.in_ok-rest.rest.now c.push_numbers.new.list.items word added end)
