use Rattle.std.proofs.Common.{sym, subst, ◌+◌, arith}
use Rattle.cpl_whole.specs.Journeys.{IsJourney}
use Rattle.cpl_whole.proofs.Going.{can_go, gone_is, gone_rows, gone_stocks, gone_tell, last_is}
use Rattle.cpl_whole.proofs.journey.Journey.go_all.Goals as goal

pub go-crossing-requires-clause-room : goal.go-crossing-requires-clause-room
go-crossing-requires-clause-room c = c.loop-n.invariant.room

pub go-crossing-requires-clause-can : goal.go-crossing-requires-clause-can
go-crossing-requires-clause-can c = can_go c.args.grid.now c.args.names.now c.args.self.now.state c.requires.can c.loop-n.n c.loop-n-test.true c.loop-n.self c.loop-n.invariant.gone

pub tell-requires : goal.tell-requires
tell-requires c =
    gone_tell c.args.grid.now c.args.names.now c.args.self.now.state c.requires.can c.loop-n.n c.loop-n-test.true c.loop-n.self c.loop-n.invariant.gone
    c.go-crossing.new.self c.go-crossing.ensures.gone c.push_rows.new.rows

pub loop-n-init : goal.loop-n-init
loop-n-init c = record { gone = c.requires.out; room = c.requires.room }

pub loop-n-preserved : goal.loop-n-preserved
loop-n-preserved c =
    let rows = gone_rows c.args.grid.now c.args.names.now c.args.self.now.state c.requires.can c.loop-n.n c.loop-n-test.true c.loop-n.self c.loop-n.invariant.gone c.go-crossing.new.self c.go-crossing.ensures.gone
    c.go-crossing.result c.go-crossing.ensures.crossed c.push_rows.new.rows.items c.in_ok-push_rows.ensures in
    let told = gone_stocks c.args.grid.now c.args.names.now c.args.self.now.state c.requires.can c.loop-n.n c.loop-n-test.true c.loop-n.self c.loop-n.invariant.gone c.go-crossing.new.self c.go-crossing.ensures.gone
    c.tell.new.self.stocks.items c.in_ok-tell.ensures.rows in
    record {
      gone = subst (IsJourney c.args.grid.now c.args.names.now c.args.self.now.state (c.loop-n.n + 1)) (sym c.tell.ensures.same)
          (gone_is c.args.grid.now c.args.names.now c.args.self.now.state c.requires.can c.loop-n.n c.loop-n-test.true c.loop-n.self c.loop-n.invariant.gone c.go-crossing.new.self c.go-crossing.ensures.gone
          c.tell.new.self.stocks c.push_rows.new.rows told rows);
      room = c.go-crossing.ensures.room;
    }

pub returns : goal.returns
returns c = last_is c.args.grid.now c.args.names.now c.args.self.now.state c.loop-n.n c.args.names.now.steps c.loop-n.self (omega arith) c.loop-n.invariant.gone
