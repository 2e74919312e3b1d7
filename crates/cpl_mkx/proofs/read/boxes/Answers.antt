use Rattle.std.proofs.Common.{◌∙◌, sym}
use Rattle.std.proofs.lemmas.Result.{err_from_is_err_and}
use Rattle.cpl_mkx.specs.Readers.{pair_of}
use Rattle.cpl_mkx.specs.Reading.{judged}
use Rattle.cpl_mkx.proofs.BoxLaws.{lines_fail, pair_judged, broken_fails}
use Rattle.cpl_mkx.proofs.read.boxes.Goals as goal

pub returns-in_err-reader : goal.returns-in_err-reader
returns-in_err-reader c =
    let p = err_from_is_err_and c.from_residual.result c.from_residual.ensures.1 in
    rw (p.1, p.2) (lines_fail c.args.bytes.now c.in_err-reader.field-0.0 c.in_err-reader.ensures)

pub returns-in-Some : goal.returns-in-Some
returns-in-Some c =
    broken_fails c.args.bytes.now (pair_of c.in_ok-reader.reader) c.in-Some.fault c.in_ok-reader.ensures (sym c.boxes_fault.ensures ∙ c.in-Some.is)

pub returns-in-None : goal.returns-in-None
returns-in-None c =
    pair_judged c.args.bytes.now (pair_of c.in_ok-reader.reader) c.in_ok-reader.ensures
    ∙ (λ i. judged ((sym c.boxes_fault.ensures ∙ c.in-None.is) i) (sym c.pair.ensures i))
