use Rattle.std.proofs.Common.{List, ℕ}
use Rattle.std.proofs.lemmas.Result.{err_from_is_err_and}
use Rattle.cpl_top.specs.Reads.{End}
use Rattle.cpl_top.specs.Whole.{whole_answer}
use Rattle.cpl_top.proofs.Steps.{walks_inputs, walks_end}
use Rattle.cpl_top.proofs.whole.whole.Goals as goal

pub run_whole_command-requires : goal.run_whole_command-requires
run_whole_command-requires g c = c.in_ok-inputs.ensures.bytes.names_bytes.within

pub returns-in_err-inputs : goal.returns-in_err-inputs
returns-in_err-inputs g c =
    let out = c.in-Some.words.out.now in
    let p = err_from_is_err_and c.from_residual.result c.from_residual.ensures.1 in
    rw (← c.in-Some.ensures, p.1, p.2)
    (c.in_err-inputs.ensures.stop (λ (grid names start : List ℕ). End (whole_answer out grid names start)))

pub returns : goal.returns
returns g c =
    rw (← c.in-Some.ensures)
    (walks_inputs {rest = λ (grid names start : List ℕ). End (whole_answer c.in-Some.words.out.now grid names start)} c.in_ok-inputs.ensures.bytes
    (walks_end c.in_ok-inputs.ensures.only_reads c.in_ok-inputs.ensures.quiet c.run_whole_command.ensures.answer c.run_whole_command.ensures.apart))
