-- The schedule of a run on one thread: its phases in order, and what the pieces of each component do in each.
use Rattle.std.specs.Prelude.{◌≡◌, ℕ, ◌+◌, ◌<◌, ◌==◌, Bool, List, [], ◌∷◌, ◌++◌, length, All, flat_map, slice_index_or, if◌then◌else◌}
use Rattle.std.specs.List.{range_with_len}
use Rattle.cpl_fixed.specs.declared.words.Component.{Component}
use Rattle.cpl_fixed.specs.declared.words.Component.TheVariants.{Atmos, Land, Ice, Ocean}
use Rattle.cpl_namelist.specs.declared.names.Names.{Names}
use Rattle.cpl_namelist.specs.Ranges.{AreNames}
use Rattle.cpl_wires.specs.declared.parts.Purpose.TheVariants.{AirHalo, LandToAir, IceToAir, AirToLand, AirToIce, LandToIce, IceToOcean, OceanToIce, OceanHalo, Sums}
use Rattle.cpl_wires.specs.declared.parts.Job.TheVariants.{AirFlux, AirInner, AirRim, LandFast, LandSlow, IceTake, IceFast, IceSlow, OceanAdd, OceanInner, OceanRim, OceanCut, Gather}
use Rattle.cpl_wires.specs.declared.parts.Move.{Move}
use Rattle.cpl_wires.specs.declared.parts.Move.TheVariants.{Posts, Takes, Does}
use Rattle.cpl_wires.specs.declared.parts.Turn.{Turn}
use Rattle.cpl_wires.specs.Turns.{unless, turned, turns_for}
use Rattle.cpl_wires.specs.Times.{time_at, time_of_turn}

-- what is done side by side
pub data Phase : Type 0 where
  SumsPosted : Phase
  SumsGathered : Phase
  FlightsTaken : Phase
  SurfacePosted : Phase
  AirComputed : Phase
  AirRimComputed : Phase
  SurfaceComputed : Phase
  RunoffPosted : Phase
  IceSlowed : Phase
  OceanPosted : Phase
  OceanRimComputed : Phase
  OceanWasCut : Phase

-- a phase of a coupling step, and of a fast step or an ocean step there
pub record Moment : Type 0 where
  pub phase : Phase
  pub step : ℕ
  pub sub : ℕ

abbrev pub moments : (step sub : ℕ) → List Phase → List Moment
moments step sub [] = []
moments step sub (phase ∷ phases) = record { phase = phase; step = step; sub = sub } ∷ moments step sub phases

abbrev pub sums_moments : ℕ → List Moment
sums_moments n = moments n 0 (SumsPosted ∷ SumsGathered ∷ [])

abbrev pub fast_moments : (n i : ℕ) → List Moment
fast_moments n i = moments n i (SurfacePosted ∷ AirComputed ∷ AirRimComputed ∷ SurfaceComputed ∷ [])

abbrev pub ocean_moments : (n i : ℕ) → List Moment
ocean_moments n i = moments n i (OceanPosted ∷ OceanRimComputed ∷ [])

-- a coupling step: flights, fast steps, runoff and the ice's slow step, ocean steps, the cut
abbrev pub step_moments : Names → ℕ → List Moment
step_moments names n =
    moments n 0 (FlightsTaken ∷ [])
    ++ flat_map (fast_moments n) (range_with_len 0 names.fast)
    ++ moments n 0 (RunoffPosted ∷ IceSlowed ∷ [])
    ++ flat_map (ocean_moments n) (range_with_len 0 names.ocean_steps)
    ++ moments n 0 (OceanWasCut ∷ [])

-- a run: the sums, and then each coupling step with the sums after it
unfoldable pub schedule : Names → List Moment
schedule names = sums_moments 0 ++ flat_map (λ n. step_moments names n ++ sums_moments (n + 1)) (range_with_len 0 names.steps)

-- what a piece of a component does in a phase of a coupling step
abbrev pub moves_in : Phase → Component → (is_first_piece is_first_step is_last_step : Bool) → List Move
-- all pieces post their sums
moves_in SumsPosted _ piece first last = Posts Sums ∷ []
-- piece 0 takes the sums and computes
moves_in SumsGathered _ piece first last = if piece then Takes Sums ∷ Does Gather ∷ [] else []
-- ice and ocean take from each other, except in the first step, and compute
moves_in FlightsTaken Ice piece first last = unless first (Takes OceanToIce ∷ []) ++ (Does IceTake ∷ [])
moves_in FlightsTaken Ocean piece first last = unless first (Takes IceToOcean ∷ []) ++ (Does OceanAdd ∷ [])
-- land and ice post to the air
moves_in SurfacePosted Land piece first last = Posts LandToAir ∷ []
moves_in SurfacePosted Ice piece first last = Posts IceToAir ∷ []
-- the air takes from land and ice, computes, posts to land and ice, posts its halos, and computes
moves_in AirComputed Atmos piece first last =
    Takes LandToAir ∷ Takes IceToAir ∷ Does AirFlux ∷ Posts AirToLand ∷ Posts AirToIce ∷ Posts AirHalo ∷ Does AirInner ∷ []
-- the air takes its halos and computes
moves_in AirRimComputed Atmos piece first last = Takes AirHalo ∷ Does AirRim ∷ []
-- land and ice take from the air and compute
moves_in SurfaceComputed Land piece first last = Takes AirToLand ∷ Does LandFast ∷ []
moves_in SurfaceComputed Ice piece first last = Takes AirToIce ∷ Does IceFast ∷ []
-- the land computes and posts to the ice
moves_in RunoffPosted Land piece first last = Does LandSlow ∷ Posts LandToIce ∷ []
-- the ice takes from the land, computes, and posts to the ocean, except in the last step
moves_in IceSlowed Ice piece first last = Takes LandToIce ∷ Does IceSlow ∷ unless last (Posts IceToOcean ∷ [])
-- the ocean posts its halos and computes
moves_in OceanPosted Ocean piece first last = Posts OceanHalo ∷ Does OceanInner ∷ []
-- the ocean takes its halos and computes
moves_in OceanRimComputed Ocean piece first last = Takes OceanHalo ∷ Does OceanRim ∷ []
-- the ocean computes and posts to the ice, except in the last step
moves_in OceanWasCut Ocean piece first last = Does OceanCut ∷ unless last (Posts OceanToIce ∷ [])
moves_in _ _ piece first last = []

abbrev pub moves_at : Names → Component → (is_first_piece : Bool) → Moment → List Move
moves_at names component piece moment = moves_in moment.phase component piece (moment.step == 0) (moment.step + 1 == names.steps)

-- group and part of a phase
abbrev pub place_of : Phase → ℕ × ℕ
place_of SumsPosted = (0, 0)
place_of SumsGathered = (1, 0)
place_of FlightsTaken = (2, 0)
place_of SurfacePosted = (3, 0)
place_of AirComputed = (3, 1)
place_of AirRimComputed = (3, 2)
place_of SurfaceComputed = (3, 3)
place_of RunoffPosted = (4, 0)
place_of IceSlowed = (4, 1)
place_of OceanPosted = (5, 0)
place_of OceanRimComputed = (5, 1)
place_of OceanWasCut = (6, 0)

abbrev pub time_of_moment : Moment → ℕ
time_of_moment moment = time_at moment.step (place_of moment.phase).0 moment.sub (place_of moment.phase).1

abbrev pub moment_at : Names → ℕ → Moment
moment_at names k = slice_index_or (schedule names) k (record { phase = SumsPosted; step = 0; sub = 0 })

-- Each piece does what the schedule has for it, moment by moment; what it does in a moment has the moment's time, and times rise from
-- moment to moment.
pub record GoesBySchedule (names : Names) : Type 0 where
  pub turns : (component : Component) (piece : Bool) → turns_for names component piece
      ≡ flat_map (λ (moment : Moment). turned moment.step moment.sub (moves_at names component piece moment)) (schedule names)
  pub times : (component : Component) (piece : Bool) (moment : Moment)
      → All (λ (turn : Turn). time_of_turn turn ≡ time_of_moment moment) (turned moment.step moment.sub (moves_at names component piece moment))
  pub rising : AreNames names → (j k : ℕ) → j < k → k < length (schedule names) → time_of_moment (moment_at names j) < time_of_moment (moment_at names k)
