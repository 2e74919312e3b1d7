use Rattle.std.proofs.Common.{◌∙◌, refl, sym, ap, subst}
use Rattle.std.specs.Prelude.{pos, ◌≤ℤ◌}
use Rattle.cpl_fixed.specs.declared.limits.TheConstants.{MOST_TOTAL}
use Rattle.cpl_fast.specs.declared.fast.FastTally.{FastTally}
use Rattle.cpl_state.specs.declared.whole.Whole.{Whole}
use Rattle.cpl_state.specs.States.{IsWhole}
use Rattle.cpl_state.specs.Stocks.{held}
use Rattle.cpl_state.specs.CouplingStep.{step_entered, step_left}
use Rattle.cpl_course.specs.Course.{in_flight}
use Rattle.cpl_whole.proofs.Holds.{entered_is, left_is, fit_rows, flying_is, gave_is, hold, took_is}
use Rattle.cpl_whole.proofs.Words.{more_fits, more_word}
use Rattle.cpl_whole.proofs.journey.Journey.go.Goals as goal

pub couple-moved-requires-clause-can : goal.couple-moved-requires-clause-can
couple-moved-requires-clause-can c = c.requires.can.can

pub couple-moved-requires-clause-room : goal.couple-moved-requires-clause-room
couple-moved-requires-clause-room c = c.requires.room

pub holdings_of-after-requires-clause-grid : goal.holdings_of-after-requires-clause-grid
holdings_of-after-requires-clause-grid c = c.requires.can.can.ground.numbered.rules

pub holdings_of-after-requires-clause-whole : goal.holdings_of-after-requires-clause-whole
holdings_of-after-requires-clause-whole c = subst (IsWhole c.args.grid.now) (sym c.couple-moved.ensures.value) c.couple-moved.ensures.keeps.after

pub between-crossing-requires-clause-before : goal.between-crossing-requires-clause-before
between-crossing-requires-clause-before c = fit_rows c.args.grid.now c.args.self.now.state c.args.self.now.held c.requires.can.holds c.requires.can.totals

pub between-crossing-requires-clause-after : goal.between-crossing-requires-clause-after
between-crossing-requires-clause-after c =
    fit_rows c.args.grid.now c.couple-moved.new.whole c.holdings_of-after.result (hold c.args.grid.now c.couple-moved.new.whole c.holdings_of-after.result c.holdings_of-after.ensures)
    (λ quantity. subst (λ (w : Whole). held c.args.grid.now w quantity ≤ℤ pos MOST_TOTAL) (sym c.couple-moved.ensures.value) (c.requires.can.totals_after quantity))

pub overflow_add-self : goal.overflow_add-self
overflow_add-self c =
    let part = c.step_tally-tally.ensures.entered ∙ entered_is c.args.grid.now c.args.names.now c.args.self.now.state c.couple-moved.result.fast c.couple-moved.ensures.moved in
    more_fits c.args.self.now.entered (step_entered c.args.grid.now c.args.names.now c.args.self.now.state) c.step_tally-tally.result.entered c.requires.can.entered c.couple-moved.ensures.keeps.surface.sun_entered c.requires.can.entered_after part

pub overflow_add-self-2 : goal.overflow_add-self-2
overflow_add-self-2 c =
    let part = c.step_tally-tally.ensures.left ∙ left_is c.args.grid.now c.args.names.now c.args.self.now.state c.couple-moved.result.fast c.couple-moved.ensures.moved in
    more_fits c.args.self.now.left (step_left c.args.grid.now c.args.names.now c.args.self.now.state) c.step_tally-tally.result.left c.requires.can.left c.couple-moved.ensures.keeps.surface.heat_left c.requires.can.left_after part

pub returns-clause-gone : goal.returns-clause-gone
returns-clause-gone c =
    let enters = c.step_tally-tally.ensures.entered ∙ entered_is c.args.grid.now c.args.names.now c.args.self.now.state c.couple-moved.result.fast c.couple-moved.ensures.moved in
    let leaves = c.step_tally-tally.ensures.left ∙ left_is c.args.grid.now c.args.names.now c.args.self.now.state c.couple-moved.result.fast c.couple-moved.ensures.moved in
    record {
      now = c.couple-moved.ensures.value;
      holds = hold c.args.grid.now c.couple-moved.new.whole c.holdings_of-after.result c.holdings_of-after.ensures;
      entered = more_word c.args.self.now.entered (step_entered c.args.grid.now c.args.names.now c.args.self.now.state) c.step_tally-tally.result.entered c.requires.can.entered c.couple-moved.ensures.keeps.surface.sun_entered c.requires.can.entered_after enters;
      left = more_word c.args.self.now.left (step_left c.args.grid.now c.args.names.now c.args.self.now.state) c.step_tally-tally.result.left c.requires.can.left c.couple-moved.ensures.keeps.surface.heat_left c.requires.can.left_after leaves;
      stocks = refl;
      exchanges = refl;
    }

pub returns-clause-crossed : goal.returns-clause-crossed
returns-clause-crossed c =
    let holds = hold c.args.grid.now c.couple-moved.new.whole c.holdings_of-after.result c.holdings_of-after.ensures in
    record {
      before = c.between-crossing.ensures.before ∙ flying_is c.args.grid.now c.args.self.now.state c.args.self.now.held c.requires.can.holds;
      gave = c.between-crossing.ensures.gave ∙ c.step_tally-tally.ensures.gave
          ∙ gave_is c.args.grid.now c.args.names.now c.args.self.now.state c.couple-moved.ensures.keeps c.couple-moved.new.whole c.holdings_of-after.result holds c.couple-moved.ensures.value
          c.couple-moved.result.fast.gave c.couple-moved.result.slow.gave (ap (λ (t : FastTally). t.gave) c.couple-moved.ensures.moved) c.couple-moved.ensures.gave;
      took = c.between-crossing.ensures.took ∙ c.step_tally-tally.ensures.took
          ∙ took_is c.args.grid.now c.args.self.now.state c.args.self.now.held c.requires.can.holds c.args.names.now c.couple-moved.ensures.keeps
          c.couple-moved.result.fast.took c.couple-moved.result.slow.took (ap (λ (t : FastTally). t.took) c.couple-moved.ensures.moved) c.couple-moved.ensures.took;
      after = c.between-crossing.ensures.after ∙ flying_is c.args.grid.now c.couple-moved.new.whole c.holdings_of-after.result holds ∙ ap (in_flight c.args.grid.now) c.couple-moved.ensures.value;
    }

pub returns-clause-room : goal.returns-clause-room
returns-clause-room c = c.couple-moved.ensures.room
