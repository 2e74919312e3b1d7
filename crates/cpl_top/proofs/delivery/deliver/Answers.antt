use Rattle.std.proofs.Common.{length}
use Rattle.cpl_top.proofs.Written.{written_wider}
use Rattle.cpl_top.proofs.delivery.deliver.Goals as goal

pub returns-in-Err-Memory-put-clause-files : goal.returns-in-Err-Memory-put-clause-files
returns-in-Err-Memory-put-clause-files g c told =
    (length c.args.outputs.now, written_wider c.args.outputs.now _ _ _ _ (c.in-Ok.ensures.files told))
