use Rattle.std.proofs.Common.{◌∙◌, sym, ap, subst}
use Rattle.cpl_state.specs.declared.whole.Whole.{Whole}
use Rattle.cpl_state.specs.States.{land_cells, ocean_cells}
use Rattle.cpl_state.specs.CouplingStep.{step_arrived, step_runoff, surface_after}
use Rattle.cpl_slow.specs.Sums.{gain_sums}
use Rattle.cpl_whole.specs.Rooms.{CanCoupleOn}
use Rattle.cpl_whole.specs.Tallies.{all_fast_sums}
use Rattle.cpl_whole.proofs.Steps.{keeps, turned_is, flight_in_range, flight_count, ice_count, flown_is, seconds_fit, whole_step}
use Rattle.cpl_whole.proofs.coupling.couple.Goals as goal

pub go_surface-tally-requires-clause-can : goal.go_surface-tally-requires-clause-can
go_surface-tally-requires-clause-can c = subst (CanCoupleOn c.args.grid.now c.args.names.now) (sym c.swap.ensures.y_after) c.requires.can

pub go_ocean-requires : goal.go_ocean-requires
go_ocean-requires c =
    let grid = c.args.grid.now in
    let names = c.args.names.now in
    let whole = c.args.whole.now in
    let turned = c.swap-2.new.x in
    let flight = c.go_surface-tally.new.flight.items in
    let turn = c.swap-2.ensures.x_after ∙ c.go_surface-tally.ensures.whole ∙ ap (surface_after grid names) c.swap.ensures.y_after in
    let flown = c.go_surface-tally.ensures.flight ∙ ap (λ (w : Whole). w.to_ocean) c.swap.ensures.y_after in
    record {
      room = c.requires.room.sea;
      rates = c.requires.can.run.are_names.rates;
      sea = turned_is grid names whole c.requires.can turned flight turn flown;
      flight = flight_in_range grid names whole c.requires.can turned flight turn flown;
      count = flight_count grid names whole c.requires.can turned flight turn flown;
      to_ice = ice_count grid names whole c.requires.can turned flight turn flown;
      steps = flown_is grid names whole c.requires.can turned flight turn flown;
    }

pub overflow_add-whole : goal.overflow_add-whole
overflow_add-whole c =
    let turn = c.swap-2.ensures.x_after ∙ c.go_surface-tally.ensures.whole ∙ ap (surface_after c.args.grid.now c.args.names.now) c.swap.ensures.y_after in
    let flown = c.go_surface-tally.ensures.flight ∙ ap (λ (w : Whole). w.to_ocean) c.swap.ensures.y_after in
    seconds_fit c.args.grid.now c.args.names.now c.args.whole.now c.requires.can c.swap-2.new.x c.go_surface-tally.new.flight.items turn flown c.go_ocean.new.whole c.go_ocean.ensures.value

pub returns-clause-value : goal.returns-clause-value
returns-clause-value c =
    let turn = c.swap-2.ensures.x_after ∙ c.go_surface-tally.ensures.whole ∙ ap (surface_after c.args.grid.now c.args.names.now) c.swap.ensures.y_after in
    let flown = c.go_surface-tally.ensures.flight ∙ ap (λ (w : Whole). w.to_ocean) c.swap.ensures.y_after in
    whole_step c.args.grid.now c.args.names.now c.args.whole.now c.requires.can c.swap-2.new.x c.go_surface-tally.new.flight.items turn flown c.go_ocean.new.whole c.go_ocean.ensures.value

pub returns-clause-keeps : goal.returns-clause-keeps
returns-clause-keeps c = keeps c.args.grid.now c.args.names.now c.args.whole.now c.requires.can

pub returns-clause-moved : goal.returns-clause-moved
returns-clause-moved c = c.go_surface-tally.ensures.moved ∙ ap (all_fast_sums c.args.grid.now c.args.names.now) c.swap.ensures.y_after

pub returns-clause-gave : goal.returns-clause-gave
returns-clause-gave c =
    c.go_surface-tally.ensures.gave ∙ ap (λ (w : Whole). gain_sums (land_cells c.args.grid.now) (step_runoff c.args.grid.now c.args.names.now w)) c.swap.ensures.y_after

pub returns-clause-took : goal.returns-clause-took
returns-clause-took c =
    c.go_surface-tally.ensures.took ∙ ap (λ (w : Whole). gain_sums (ocean_cells c.args.grid.now) (step_arrived c.args.grid.now c.args.names.now w)) c.swap.ensures.y_after
