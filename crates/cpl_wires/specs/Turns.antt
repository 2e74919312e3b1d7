-- The order in which a piece does its work: its moves, one after the other.
use Rattle.std.specs.Prelude.{ℕ, ◌+◌, ◌==◌, Bool, true, false, List, [], ◌∷◌, ◌++◌, map, flat_map, if◌then◌else◌}
use Rattle.std.specs.List.{range_with_len}
use Rattle.cpl_fixed.specs.declared.words.Component.{Component}
use Rattle.cpl_fixed.specs.declared.words.Component.TheVariants.{Atmos, Land, Ice, Ocean}
use Rattle.cpl_namelist.specs.declared.names.Names.{Names}
use Rattle.cpl_wires.specs.declared.parts.Purpose.TheVariants.{AirHalo, LandToAir, IceToAir, AirToLand, AirToIce, LandToIce, IceToOcean, OceanToIce, OceanHalo, Sums}
use Rattle.cpl_wires.specs.declared.parts.Job.TheVariants.{AirFlux, AirInner, AirRim, LandFast, LandSlow, IceTake, IceFast, IceSlow, OceanAdd, OceanInner, OceanRim, OceanCut, Gather}
use Rattle.cpl_wires.specs.declared.parts.Move.{Move}
use Rattle.cpl_wires.specs.declared.parts.Move.TheVariants.{Posts, Takes, Does}
use Rattle.cpl_wires.specs.declared.parts.Turn.{Turn}
use Rattle.cpl_wires.specs.Settings.{Setting, component_of}

-- these moves, or none
abbrev pub unless : Bool → List Move → List Move
unless true moves = []
unless false moves = moves

-- in each fast step
abbrev pub fast_moves : Component → List Move
fast_moves Atmos =
    Takes LandToAir ∷ Takes IceToAir ∷ Does AirFlux ∷ Posts AirToLand ∷ Posts AirToIce ∷ Posts AirHalo
    ∷ Does AirInner ∷ Takes AirHalo ∷ Does AirRim ∷ []
fast_moves Land = Posts LandToAir ∷ Takes AirToLand ∷ Does LandFast ∷ []
fast_moves Ice = Posts IceToAir ∷ Takes AirToIce ∷ Does IceFast ∷ []
fast_moves Ocean = []

-- in each ocean step
abbrev pub ocean_moves : Component → List Move
ocean_moves Atmos = []
ocean_moves Land = []
ocean_moves Ice = []
ocean_moves Ocean = Posts OceanHalo ∷ Does OceanInner ∷ Takes OceanHalo ∷ Does OceanRim ∷ []

-- as a coupling step begins: ice and ocean take what flew to them, which in the first step is what the start has
abbrev pub opening : Component → (is_first_step : Bool) → List Move
opening Atmos first = []
opening Land first = []
opening Ice first = unless first (Takes OceanToIce ∷ []) ++ (Does IceTake ∷ [])
opening Ocean first = unless first (Takes IceToOcean ∷ []) ++ (Does OceanAdd ∷ [])

-- as a coupling step ends: runoff, the ice's slow step and the ocean's cut; what flies on is posted but in the last step
abbrev pub closing : Component → (is_last_step : Bool) → List Move
closing Atmos last = []
closing Land last = Does LandSlow ∷ Posts LandToIce ∷ []
closing Ice last = Takes LandToIce ∷ Does IceSlow ∷ unless last (Posts IceToOcean ∷ [])
closing Ocean last = Does OceanCut ∷ unless last (Posts OceanToIce ∷ [])

-- before the first coupling step and after each: the sums, which piece 0 takes from all and makes rows of
abbrev pub summing : (is_first_piece : Bool) → List Move
summing first = Posts Sums ∷ (if first then Takes Sums ∷ Does Gather ∷ [] else [])

-- moves of a coupling step, and of a fast step or an ocean step there
abbrev pub turned : (step sub : ℕ) → List Move → List Turn
turned step sub moves = map (λ move. record { kind = move; step = step; sub = sub }) moves

-- all moves of a coupling step, in a run of so many of them
abbrev pub step_turns : Names → Component → ℕ → List Turn
step_turns names component n =
    turned n 0 (opening component (n == 0))
    ++ flat_map (λ i. turned n i (fast_moves component)) (range_with_len 0 names.fast)
    ++ flat_map (λ i. turned n i (ocean_moves component)) (range_with_len 0 names.ocean_steps)
    ++ turned n 0 (closing component (n + 1 == names.steps))

-- a coupling step, with the sums after it
abbrev pub step_and_sums : Names → Component → (is_first_piece : Bool) → ℕ → List Turn
step_and_sums names component first n = step_turns names component n ++ turned (n + 1) 0 (summing first)

-- all moves of a run of a piece of this component
unfoldable pub turns_for : Names → Component → (is_first_piece : Bool) → List Turn
turns_for names component first =
    turned 0 0 (summing first) ++ flat_map (step_and_sums names component first) (range_with_len 0 names.steps)

-- all moves of a piece
abbrev pub turns : Setting → ℕ → List Turn
turns setting piece = turns_for setting.names (component_of setting piece) (piece == 0)
