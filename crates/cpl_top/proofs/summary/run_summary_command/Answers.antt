use Rattle.std.proofs.lemmas.Result.{err_from_is_err_and}
use Rattle.cpl_top.proofs.summary.run_summary_command.Goals as goal

pub returns-in_err-line-clause-answer : goal.returns-in_err-line-clause-answer
returns-in_err-line-clause-answer c =
    let p = err_from_is_err_and c.from_residual-in_err-line.result c.from_residual-in_err-line.ensures.1 in rw (p.1, p.2) tt
