use Rattle.std.proofs.Common.{◌≡◌, ◌+◌, [], true, rules, replicate, Ok, Some}
use Rattle.cpl_lines.specs.Fields.{AnyNumber}
use Rattle.cpl_lines.specs.Lines.{line_feed}
use Rattle.cpl_lines.specs.Reading.{word_at, fields_at}
use Rattle.cpl_lines.specs.Steps.{numbers_added}
use Rattle.cpl_mkx.specs.declared.boxes.TheConstants.{MOST_EDGE}
use Rattle.cpl_mkx.proofs.EdgeLines.{line_is_read}
use Rattle.cpl_mkx.proofs.edges.edges_line.Goals as goal

pub returns : goal.returns
returns c =
    let word : word_at c.args.name.now c.args.bytes.now ≡ Some c.in_ok-fields.fields.now = search rules in
    let end : word_at line_feed c.in_ok-keeps.rest.now ≡ Some c.in_ok-rest.rest.now = search rules in
    let added : numbers_added MOST_EDGE true [] (fields_at (replicate (c.args.boxes + 1) AnyNumber) c.in_ok-fields.fields.now) ≡ Ok (true, c.in_ok-keeps.rest.now, c.push_numbers.new.list.items) = search rules in
    line_is_read c.args.name.now (c.args.boxes + 1) c.args.bytes.now c.in_ok-fields.fields.now c.in_ok-keeps.rest.now c.in_ok-rest.rest.now c.push_numbers.new.list.items word added end
