use Rattle.std.proofs.Common.{◌∙◌, sym, ap, subst}
use Rattle.cpl_fast.specs.declared.fast.FastTally.{FastTally}
use Rattle.cpl_state.specs.States.{IsWhole}
use Rattle.cpl_whole.proofs.Holds.{entered_is, left_is, gave_is, hold, took_is}
use Rattle.cpl_whole.proofs.step.step_on.Goals as goal

pub new-requires : goal.new-requires
new-requires c = c.requires.ground

pub holdings_of-before-requires-clause-grid : goal.holdings_of-before-requires-clause-grid
holdings_of-before-requires-clause-grid c = c.requires.ground.numbered.rules

pub holdings_of-before-requires-clause-whole : goal.holdings_of-before-requires-clause-whole
holdings_of-before-requires-clause-whole c = c.requires.run.is_whole

pub couple-moved-requires-clause-can : goal.couple-moved-requires-clause-can
couple-moved-requires-clause-can c = c.requires

pub couple-moved-requires-clause-room : goal.couple-moved-requires-clause-room
couple-moved-requires-clause-room c = c.in_ok-room.ensures

pub holdings_of-after-requires-clause-grid : goal.holdings_of-after-requires-clause-grid
holdings_of-after-requires-clause-grid c = c.requires.ground.numbered.rules

pub holdings_of-after-requires-clause-whole : goal.holdings_of-after-requires-clause-whole
holdings_of-after-requires-clause-whole c = subst (IsWhole c.args.grid.now) (sym c.couple-moved.ensures.value) c.couple-moved.ensures.keeps.after

pub returns-clause-value : goal.returns-clause-value
returns-clause-value c = c.couple-moved.ensures.value

pub returns-clause-entered : goal.returns-clause-entered
returns-clause-entered c = c.step_tally.ensures.entered ∙ entered_is c.args.grid.now c.args.names.now c.args.whole.now c.couple-moved.result.fast c.couple-moved.ensures.moved

pub returns-clause-left : goal.returns-clause-left
returns-clause-left c = c.step_tally.ensures.left ∙ left_is c.args.grid.now c.args.names.now c.args.whole.now c.couple-moved.result.fast c.couple-moved.ensures.moved

pub returns-clause-gave : goal.returns-clause-gave
returns-clause-gave c =
    c.step_tally.ensures.gave
    ∙ gave_is c.args.grid.now c.args.names.now c.args.whole.now c.couple-moved.ensures.keeps c.couple-moved.new.whole c.holdings_of-after.result (hold c.args.grid.now c.couple-moved.new.whole c.holdings_of-after.result c.holdings_of-after.ensures) c.couple-moved.ensures.value
    c.couple-moved.result.fast.gave c.couple-moved.result.slow.gave (ap (λ (t : FastTally). t.gave) c.couple-moved.ensures.moved) c.couple-moved.ensures.gave

pub returns-clause-took : goal.returns-clause-took
returns-clause-took c =
    c.step_tally.ensures.took
    ∙ took_is c.args.grid.now c.args.whole.now c.holdings_of-before.result (hold c.args.grid.now c.args.whole.now c.holdings_of-before.result c.holdings_of-before.ensures) c.args.names.now c.couple-moved.ensures.keeps
    c.couple-moved.result.fast.took c.couple-moved.result.slow.took (ap (λ (t : FastTally). t.took) c.couple-moved.ensures.moved) c.couple-moved.ensures.took
