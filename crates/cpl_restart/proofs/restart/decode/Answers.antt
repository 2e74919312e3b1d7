use Rattle.std.proofs.Common.{arith}
use Rattle.cpl_restart.proofs.LawfulLaws.{Knows}
use Rattle.cpl_restart.proofs.RestartLaws.{is_whole, is_spelled, only_this}
use Rattle.cpl_restart.proofs.restart.decode.Goals as goal

pub returns-clause-found : goal.returns-clause-found
returns-clause-found c = is_whole c.args.grid.now c.args.bytes.now c.read_whole.result (λ i. omega (arith, c.type_inv.bytes i)) c.read_whole.ensures

pub returns-clause-spelled : goal.returns-clause-spelled
returns-clause-spelled c = is_spelled c.args.grid.now c.args.bytes.now c.read_whole.result (λ i. omega (arith, c.type_inv.bytes i)) c.read_whole.ensures

pub returns-clause-only : goal.returns-clause-only
returns-clause-only c = λ whole is spelled.
    let knows : Knows c.args.grid.now = record { numbers = c.known_of.ensures.numbers; mates = c.known_of.ensures.mates; faces = c.known_of.ensures.faces } in
    only_this c.args.grid.now c.args.bytes.now c.read_whole.result whole c.known_of.ensures.small knows is spelled c.read_whole.ensures
