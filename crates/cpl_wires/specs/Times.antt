-- The times of a run on one thread: in a coupling step seven groups, in some of them the fast steps or the ocean steps in turn, and in
-- each of these up to four parts. All pieces do what a time has, one after the other.
use Rattle.std.specs.Prelude.{ℕ, ◌+◌, ◌*◌}
use Rattle.cpl_wires.specs.declared.parts.Purpose.TheVariants.{AirHalo, LandToAir, IceToAir, AirToLand, AirToIce, LandToIce, IceToOcean, OceanToIce, OceanHalo, Sums}
use Rattle.cpl_wires.specs.declared.parts.Job.TheVariants.{AirFlux, AirInner, AirRim, LandFast, LandSlow, IceTake, IceFast, IceSlow, OceanAdd, OceanInner, OceanRim, OceanCut, Gather}
use Rattle.cpl_wires.specs.declared.parts.Move.{Move}
use Rattle.cpl_wires.specs.declared.parts.Move.TheVariants.{Posts, Takes, Does}
use Rattle.cpl_wires.specs.declared.parts.Turn.{Turn}
use Rattle.cpl_wires.specs.declared.parts.Stop.{Stop}

-- Group and part of a move.
abbrev pub phase_of : Move → ℕ × ℕ
-- all post their sums, and piece 0 takes them and makes rows
phase_of (Posts Sums) = (0, 0)
phase_of (Takes Sums) = (1, 0)
phase_of (Does Gather) = (1, 0)
-- ice and ocean take what flew to them
phase_of (Takes OceanToIce) = (2, 0)
phase_of (Does IceTake) = (2, 0)
phase_of (Takes IceToOcean) = (2, 0)
phase_of (Does OceanAdd) = (2, 0)
-- in each fast step land and ice post to the air
phase_of (Posts LandToAir) = (3, 0)
phase_of (Posts IceToAir) = (3, 0)
-- the air takes, computes, posts to land and ice and its halos, and computes inside
phase_of (Takes LandToAir) = (3, 1)
phase_of (Takes IceToAir) = (3, 1)
phase_of (Does AirFlux) = (3, 1)
phase_of (Posts AirToLand) = (3, 1)
phase_of (Posts AirToIce) = (3, 1)
phase_of (Posts AirHalo) = (3, 1)
phase_of (Does AirInner) = (3, 1)
-- the air takes its halos, and computes along the edges
phase_of (Takes AirHalo) = (3, 2)
phase_of (Does AirRim) = (3, 2)
-- land and ice take from the air, and compute
phase_of (Takes AirToLand) = (3, 3)
phase_of (Does LandFast) = (3, 3)
phase_of (Takes AirToIce) = (3, 3)
phase_of (Does IceFast) = (3, 3)
-- the land computes runoff, and posts it
phase_of (Does LandSlow) = (4, 0)
phase_of (Posts LandToIce) = (4, 0)
-- the ice takes it, computes its slow step, and posts to the ocean
phase_of (Takes LandToIce) = (4, 1)
phase_of (Does IceSlow) = (4, 1)
phase_of (Posts IceToOcean) = (4, 1)
-- in each ocean step the ocean posts its halos and computes inside, and then takes them and computes along the edges
phase_of (Posts OceanHalo) = (5, 0)
phase_of (Does OceanInner) = (5, 0)
phase_of (Takes OceanHalo) = (5, 1)
phase_of (Does OceanRim) = (5, 1)
-- the ocean cuts, and posts to the ice
phase_of (Does OceanCut) = (6, 0)
phase_of (Posts OceanToIce) = (6, 0)

-- the time of a coupling step, a group, a fast step or an ocean step, and a part; a coupling step has at most 1,000 of either
abbrev pub time_at : (step group sub part : ℕ) → ℕ
time_at step group sub part = ((step * 7 + group) * 1000 + sub) * 4 + part

unfoldable pub time_of_turn : Turn → ℕ
time_of_turn turn = time_at turn.step (phase_of turn.kind).0 turn.sub (phase_of turn.kind).1

abbrev pub time_of : Stop → ℕ
time_of stop = time_of_turn stop.turn
