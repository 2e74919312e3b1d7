-- Scripts: the actions of a piece, each with its turn.
use Rattle.std.specs.Prelude.{ℕ, ◌+◌, ◌-◌, ◌*◌, List, [], ◌∷◌, map, flat_map, slice_index_or}
use Rattle.cpl_core.specs.declared.wiring.Act.{Act}
use Rattle.cpl_core.specs.declared.wiring.Act.TheVariants.{Post, Take, Compute}
use Rattle.cpl_namelist.specs.declared.names.Names.{Names}
use Rattle.cpl_wires.specs.declared.parts.Purpose.{Purpose}
use Rattle.cpl_wires.specs.declared.parts.Purpose.TheVariants.{AirHalo, LandToAir, IceToAir, AirToLand, AirToIce, LandToIce, IceToOcean, OceanToIce, OceanHalo, Sums}
use Rattle.cpl_wires.specs.declared.parts.Job.TheVariants.{Gather}
use Rattle.cpl_wires.specs.declared.parts.Move.{Move}
use Rattle.cpl_wires.specs.declared.parts.Move.TheVariants.{Posts, Takes, Does}
use Rattle.cpl_wires.specs.declared.parts.Turn.{Turn}
use Rattle.cpl_wires.specs.declared.parts.Stop.{Stop}
use Rattle.cpl_wires.specs.Settings.{Setting}
use Rattle.cpl_wires.specs.Edges.{posted_by, taken_by, post_slot, take_slot}
use Rattle.cpl_wires.specs.Turns.{turns}

abbrev pub post_stop : Setting → Turn → ℕ → Stop
post_stop setting turn edge = record { act = Post edge; slot = post_slot setting edge; turn = turn }

abbrev pub take_stop : Setting → Turn → ℕ → Stop
take_stop setting turn edge = record { act = Take edge; slot = take_slot setting edge; turn = turn }

abbrev pub compute_stop : Turn → Stop
compute_stop turn = record { act = Compute; slot = 0; turn = turn }

-- the actions of a move: a piece posts or takes its edges of a purpose in the order of their numbers
abbrev pub stops_by : Setting → ℕ → Turn → Move → List Stop
stops_by setting piece turn (Posts purpose) = map (post_stop setting turn) (posted_by setting piece purpose)
stops_by setting piece turn (Takes purpose) = map (take_stop setting turn) (taken_by setting piece purpose)
stops_by setting piece turn (Does job) = compute_stop turn ∷ []

abbrev pub stops_of : Setting → ℕ → Turn → List Stop
stops_of setting piece turn = stops_by setting piece turn turn.kind

-- all actions of a piece
unfoldable pub stops : Setting → ℕ → List Stop
stops setting piece = flat_map (stops_of setting piece) (turns setting piece)

-- the action of a number
abbrev pub stop_at : Setting → (piece m : ℕ) → Stop
stop_at setting piece m = slice_index_or (stops setting piece) m (record { act = Compute; slot = 0; turn = record { kind = Does Gather; step = 0; sub = 0 } })

-- the script of a piece
abbrev pub script : Setting → ℕ → List Act
script setting piece = map (λ (stop : Stop). stop.act) (stops setting piece)

-- WHICH USE OF ITS EDGE A POST OR A TAKE IS

-- a Post's
abbrev pub post_use : Names → Purpose → (step sub : ℕ) → ℕ
post_use names AirHalo step sub = step * names.fast + sub
post_use names LandToAir step sub = step * names.fast + sub
post_use names IceToAir step sub = step * names.fast + sub
post_use names AirToLand step sub = step * names.fast + sub
post_use names AirToIce step sub = step * names.fast + sub
post_use names LandToIce step sub = step
post_use names IceToOcean step sub = step
post_use names OceanToIce step sub = step
post_use names OceanHalo step sub = step * names.ocean_steps + sub
post_use names Sums step sub = step

-- a Take's: between ice and ocean what the step before posted is taken
abbrev pub take_use : Names → Purpose → (step sub : ℕ) → ℕ
take_use names IceToOcean step sub = step - 1
take_use names OceanToIce step sub = step - 1
take_use names purpose step sub = post_use names purpose step sub

abbrev pub use_by : Names → Move → (step sub : ℕ) → ℕ
use_by names (Posts purpose) step sub = post_use names purpose step sub
use_by names (Takes purpose) step sub = take_use names purpose step sub
use_by names (Does job) step sub = 0

unfoldable pub use_of : Setting → Turn → ℕ
use_of setting turn = use_by setting.names turn.kind turn.step turn.sub
