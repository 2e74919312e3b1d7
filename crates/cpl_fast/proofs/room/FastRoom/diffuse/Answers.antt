use Rattle.std.proofs.Common.{◌∙◌, ap}
use Rattle.cpl_state.specs.Diffusion.{diffused}
use Rattle.cpl_state.specs.FastStep.{air_heat_after, air_vapour_after}
use Rattle.cpl_fast.proofs.room.FastRoom.diffuse.Goals as goal

pub returns-clause-air : goal.returns-clause-air
unfolding air_heat_after air_vapour_after
returns-clause-air c = record {
  heat = c.diffuse.ensures.amounts ∙ ap (diffused c.args.view.now.grid.now.air) c.requires.rained.heat;
  vapour = c.diffuse-2.ensures.amounts ∙ ap (diffused c.args.view.now.grid.now.air) c.requires.rained.vapour;
}
