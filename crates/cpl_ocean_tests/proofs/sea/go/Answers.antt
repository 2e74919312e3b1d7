use Rattle.std.proofs.Common.{◌≡◌, ◌*◌, sym, subst, length}
use Rattle.cpl_state.specs.CouplingStep.{sea_of}
use Rattle.cpl_state.specs.States.{layers, ocean_cells}
use Rattle.cpl_state.specs.declared.whole.Whole.{Whole}
use Rattle.cpl_sea.specs.Seas.{IsSea}
use Rattle.cpl_ocean_tests.proofs.sea.go.Goals as goal

pub loop-n-preserved : goal.loop-n-preserved
loop-n-preserved c =
    let grid = c.args.grid.now in
    let before = c.loop-n.invariant in
    record {
      room = c.step.ensures.room;
      sea =
          subst (λ (whole : Whole). IsSea grid.ocean (layers grid) (sea_of whole)) (sym c.step.ensures.whole)
          (c.sea_law.ensures.kept grid.ocean (layers grid) c.example_rates.result (sea_of c.loop-n.whole) before.room.ocean before.sea c.example_rates.ensures.mix.0);
      to_ice = subst (λ (whole : Whole). length whole.to_ice ≡ 5 * ocean_cells grid) (sym c.step.ensures.whole) before.to_ice;
    }
