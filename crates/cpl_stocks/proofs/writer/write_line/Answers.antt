use Rattle.csv.specs.Records.{fields_of}
use Rattle.cpl_stocks.proofs.Writing.{WroteRow, wrote_line}
use Rattle.cpl_stocks.proofs.writer.write_line.Goals as goal

pub returns : goal.returns
returns c =
    let row : WroteRow c.args.writer.now c.write_byte_record.new.self (fields_of c.args.fields.now) =
    record { text = c.in-Ok.ensures.bytes; ended = c.in-Ok.ensures.ended; clean = c.in-Ok.ensures.clean; setup = c.in-Ok.ensures.setup } in
    λ bytes wrote. wrote_line row c.requires wrote
