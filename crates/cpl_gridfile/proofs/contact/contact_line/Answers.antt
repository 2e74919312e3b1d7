use Rattle.std.proofs.Common.{◌≡◌, rules, codes, Some}
use Rattle.cpl_lines.specs.Fields.{Letter, OneOf}
use Rattle.cpl_lines.specs.Reading.{word_at, field_at, fields_at}
use Rattle.cpl_gridfile.specs.MeshFormat.{span_kinds}
use Rattle.cpl_gridfile.specs.Readers.{span_fields_of}
use Rattle.cpl_gridfile.proofs.ContactLines.{ends_there, ends_not}
use Rattle.cpl_gridfile.proofs.contact.contact_line.Goals as goal

pub returns-in_err-line_end : goal.returns-in_err-line_end
returns-in_err-line_end c =
    let word : word_at (codes "contact") c.args.bytes.now ≡ Some c.in_ok-word.field-0.now = search rules in
    let first : fields_at span_kinds c.in_ok-word.field-0.now ≡ Some (span_fields_of c.in_ok-first.first, c.in_ok-first.rest.now) = search rules in
    let second : fields_at span_kinds c.in_ok-first.rest.now ≡ Some (span_fields_of c.in_ok-second.second, c.in_ok-second.rest.now) = search rules in
    let flip : field_at (OneOf (codes "01")) c.in_ok-second.rest.now ≡ Some (Letter c.in_ok-flip.flip, c.in_ok-flip.rest.now) = search rules in
    rw c.from_residual-in_err-line_end.ensures (ends_not c.args.bytes.now _ _ _ _ _ _ _ word first second flip c.in_err-line_end.ensures)

pub returns : goal.returns
returns c =
    let word : word_at (codes "contact") c.args.bytes.now ≡ Some c.in_ok-word.field-0.now = search rules in
    let first : fields_at span_kinds c.in_ok-word.field-0.now ≡ Some (span_fields_of c.in_ok-first.first, c.in_ok-first.rest.now) = search rules in
    let second : fields_at span_kinds c.in_ok-first.rest.now ≡ Some (span_fields_of c.in_ok-second.second, c.in_ok-second.rest.now) = search rules in
    let flip : field_at (OneOf (codes "01")) c.in_ok-second.rest.now ≡ Some (Letter c.in_ok-flip.flip, c.in_ok-flip.rest.now) = search rules in
    ends_there c.args.bytes.now _ _ _ _ _ _ _ _ word first second flip c.in_ok-line_end.ensures
