use Rattle.std.proofs.Common.{◌≡◌, ◌-◌, true, arith, eqb}
use Rattle.cpl_wires.specs.Lengths.{step_size, begin_of}
use Rattle.cpl_wires.proofs.Shortened.{actions_are}
use Rattle.cpl_wires.proofs.script.count_actions.Goals as goal

pub returns : goal.returns
returns c =
    let names = c.args.names.now in
    let lengths = c.args.lengths.now in
    let begin : c.begin_of-begin.result ≡ begin_of names lengths (names.steps - 1) = c.begin_of-begin.ensures.begin in
    let size : c.step_size.result ≡ step_size names lengths (eqb names.steps 1) true = c.step_size.ensures.size in
    let all = actions_are names lengths (names.steps - 1) (omega arith) in omega arith
