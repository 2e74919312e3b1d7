use Rattle.std.proofs.Common.{◌≡◌, arith}
use Rattle.cpl_whole.proofs.Going.{last_is}
use Rattle.cpl_whole.proofs.journey.Journey.go_on.Goals as goal

pub new-requires : goal.new-requires
new-requires c = c.requires.can.ground

pub go_all-requires-clause-can : goal.go_all-requires-clause-can
go_all-requires-clause-can c = c.requires.can

pub go_all-requires-clause-out : goal.go_all-requires-clause-out
go_all-requires-clause-out c = c.requires.out

pub go_all-requires-clause-room : goal.go_all-requires-clause-room
go_all-requires-clause-room c = c.in_ok-room.ensures

pub returns-then-names-eq0 : goal.returns-then-names-eq0
returns-then-names-eq0 c =
    let none : 0 ≡ c.args.names.now.steps = omega arith in
    last_is c.args.grid.now c.args.names.now c.args.self.now.state 0 c.args.names.now.steps c.args.self.now none c.requires.out

pub returns : goal.returns
returns c = c.go_all.ensures
