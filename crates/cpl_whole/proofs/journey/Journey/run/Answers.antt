use Rattle.std.proofs.Common.{refl, sym, ap, subst, []}
use Rattle.std.specs.Prelude.{OnOk}
use Rattle.cpl_state.specs.declared.whole.Whole.{Whole}
use Rattle.cpl_whole.specs.declared.journey.Journey.{Journey}
use Rattle.cpl_whole.specs.Journeys.{CanTravel, IsJourney}
use Rattle.cpl_whole.proofs.Going.{first_is, first_tell}
use Rattle.cpl_whole.proofs.journey.Journey.run.Goals as goal

pub tell-requires : goal.tell-requires
tell-requires c = first_tell c.args.grid.now c.args.names.now c.args.self.now.state c.requires.can c.args.self.now [] [] c.requires.out

pub go_on-requires-clause-can : goal.go_on-requires-clause-can
go_on-requires-clause-can c = subst (CanTravel c.args.grid.now c.args.names.now) (sym (ap (λ (j : Journey). j.state) c.tell.ensures.same)) c.requires.can

pub go_on-requires-clause-out : goal.go_on-requires-clause-out
go_on-requires-clause-out c =
    let same = ap (λ (j : Journey). j.state) c.tell.ensures.same in
    let first = subst (IsJourney c.args.grid.now c.args.names.now c.args.self.now.state 0) (sym c.tell.ensures.same)
    (first_is c.args.grid.now c.args.names.now c.args.self.now.state c.requires.can c.args.self.now [] [] c.requires.out refl refl c.tell.new.self.stocks c.in_ok-tell.ensures.rows) in
    subst (λ (w : Whole). IsJourney c.args.grid.now c.args.names.now w 0 c.tell.new.self) (sym same) first

pub returns : goal.returns
returns c =
    subst (λ (w : Whole). OnOk c.go_on.result (IsJourney c.args.grid.now c.args.names.now w c.args.names.now.steps c.go_on.new.self))
    (ap (λ (j : Journey). j.state) c.tell.ensures.same) c.go_on.ensures
