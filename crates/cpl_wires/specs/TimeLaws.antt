-- When the turns of a script are, and what times keep.
use Rattle.std.specs.Prelude.{◌≡◌, ℕ, ◌+◌, ◌<◌, ◌≤◌, length}
use Rattle.cpl_core.specs.declared.wiring.Act.TheVariants.{Post, Take}
use Rattle.cpl_namelist.specs.declared.names.Names.{Names}
use Rattle.cpl_wires.specs.declared.parts.Purpose.{Purpose}
use Rattle.cpl_wires.specs.declared.parts.Purpose.TheVariants.{LandToIce, IceToOcean, OceanToIce, OceanHalo, Sums}
use Rattle.cpl_wires.specs.declared.parts.Job.{Job}
use Rattle.cpl_wires.specs.declared.parts.Job.TheVariants.{AirFlux, AirInner, AirRim, LandFast, IceFast, OceanInner, OceanRim, Gather}
use Rattle.cpl_wires.specs.declared.parts.Move.{Move}
use Rattle.cpl_wires.specs.declared.parts.Move.TheVariants.{Posts, Takes, Does}
use Rattle.cpl_wires.specs.declared.parts.Turn.{Turn}
use Rattle.cpl_wires.specs.Settings.{Setting}
use Rattle.cpl_wires.specs.Stops.{stops, stop_at, use_of}
use Rattle.cpl_wires.specs.Times.{time_of}

-- WHEN A TURN IS

-- in a fast step, in an ocean step, once in a coupling step, or with the sums
abbrev pub InFastStep : Names → (step sub : ℕ) → Type 0
InFastStep names step sub = (step < names.steps) × (sub < names.fast)

abbrev pub InOceanStep : Names → (step sub : ℕ) → Type 0
InOceanStep names step sub = (step < names.steps) × (sub < names.ocean_steps)

abbrev pub OnceInStep : Names → (step sub : ℕ) → Type 0
OnceInStep names step sub = (step < names.steps) × (sub ≡ 0)

abbrev pub WithSums : Names → (step sub : ℕ) → Type 0
WithSums names step sub = (step ≤ names.steps) × (sub ≡ 0)

-- what flies on to the next step is posted in each step but the last, and taken in each but the first
abbrev pub PurposeIsPosted : Names → Purpose → (step sub : ℕ) → Type 0
PurposeIsPosted names LandToIce step sub = OnceInStep names step sub
PurposeIsPosted names IceToOcean step sub = OnceInStep names (step + 1) sub
PurposeIsPosted names OceanToIce step sub = OnceInStep names (step + 1) sub
PurposeIsPosted names OceanHalo step sub = InOceanStep names step sub
PurposeIsPosted names Sums step sub = WithSums names step sub
PurposeIsPosted names _ step sub = InFastStep names step sub

abbrev pub PurposeIsTaken : Names → Purpose → (step sub : ℕ) → Type 0
PurposeIsTaken names LandToIce step sub = OnceInStep names step sub
PurposeIsTaken names IceToOcean step sub = (1 ≤ step) × OnceInStep names step sub
PurposeIsTaken names OceanToIce step sub = (1 ≤ step) × OnceInStep names step sub
PurposeIsTaken names OceanHalo step sub = InOceanStep names step sub
PurposeIsTaken names Sums step sub = WithSums names step sub
PurposeIsTaken names _ step sub = InFastStep names step sub

abbrev pub JobIsDone : Names → Job → (step sub : ℕ) → Type 0
JobIsDone names AirFlux step sub = InFastStep names step sub
JobIsDone names AirInner step sub = InFastStep names step sub
JobIsDone names AirRim step sub = InFastStep names step sub
JobIsDone names LandFast step sub = InFastStep names step sub
JobIsDone names IceFast step sub = InFastStep names step sub
JobIsDone names OceanInner step sub = InOceanStep names step sub
JobIsDone names OceanRim step sub = InOceanStep names step sub
JobIsDone names Gather step sub = WithSums names step sub
JobIsDone names _ step sub = OnceInStep names step sub

abbrev pub MoveIsMade : Names → Move → (step sub : ℕ) → Type 0
MoveIsMade names (Posts purpose) step sub = PurposeIsPosted names purpose step sub
MoveIsMade names (Takes purpose) step sub = PurposeIsTaken names purpose step sub
MoveIsMade names (Does job) step sub = JobIsDone names job step sub

-- a turn's coupling step, and its fast step or ocean step, are of the run
abbrev pub IsTurn : Names → Turn → Type 0
IsTurn names turn = MoveIsMade names turn.kind turn.step turn.sub

-- WHAT TIMES KEEP

-- times rise along the script of a piece
abbrev pub RisesBy : Setting → ℕ → Type 0
RisesBy setting piece = (m n : ℕ) → m ≤ n → n < length (stops setting piece) → time_of (stop_at setting piece m) ≤ time_of (stop_at setting piece n)

-- A use of an edge is posted before it is taken, and taken before the next use is posted, whichever pieces post and take it.
pub record IsInTime (setting : Setting) (edge : ℕ) : Type 0 where
  pub posted : (from m to n : ℕ) → m < length (stops setting from) → n < length (stops setting to)
      → (stop_at setting from m).act ≡ Post edge → (stop_at setting to n).act ≡ Take edge
      → use_of setting (stop_at setting from m).turn ≡ use_of setting (stop_at setting to n).turn
      → time_of (stop_at setting from m) < time_of (stop_at setting to n)
  pub taken : (from m to n : ℕ) → m < length (stops setting from) → n < length (stops setting to)
      → (stop_at setting from m).act ≡ Post edge → (stop_at setting to n).act ≡ Take edge
      → use_of setting (stop_at setting to n).turn + 1 ≡ use_of setting (stop_at setting from m).turn
      → time_of (stop_at setting to n) < time_of (stop_at setting from m)
