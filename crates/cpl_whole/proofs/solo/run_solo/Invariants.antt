use Rattle.std.proofs.Common.{◌≡◌}
use Rattle.cpl_state.specs.Diffusion.{AreAmounts, cell_count, diffused_by, total_of}
use Rattle.cpl_diffusion.specs.Steps.{IsRoom}
use Rattle.cpl_whole.proofs.solo.run_solo.Given as goal

abbrev pub invariant-loop-step : goal.invariant-loop-step
invariant-loop-step l = record {
  heat : l.heat.items ≡ diffused_by l._step l.mesh l.fn.air.heat;
  vapour : l.vapour.items ≡ diffused_by l._step l.mesh l.fn.air.vapour;
  heat_range : AreAmounts (cell_count l.mesh) l.heat.items;
  vapour_range : AreAmounts (cell_count l.mesh) l.vapour.items;
  heat_total : total_of l.heat.items ≡ total_of l.fn.air.heat;
  vapour_total : total_of l.vapour.items ≡ total_of l.fn.air.vapour;
  room : IsRoom (cell_count l.mesh) l.room;
}
