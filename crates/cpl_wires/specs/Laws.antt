-- What edges and scripts keep.
use Rattle.std.specs.Prelude.{◌≡◌, ℕ, ◌+◌, ◌<◌, ◌≤◌, ◌==◌, true, Option, Some, None, length, take, count_by, if◌then◌else◌}
use Rattle.cpl_core.specs.declared.wiring.Act.{Act}
use Rattle.cpl_core.specs.declared.wiring.Act.TheVariants.{Post, Take, Compute}
use Rattle.cpl_core.specs.Wires.{is_post, is_take, poster_of, taker_of, len_of, uses_of, value_of, script_of}
use Rattle.cpl_fixed.specs.declared.words.Component.{Component}
use Rattle.cpl_wires.specs.declared.parts.Edge.{Edge}
use Rattle.cpl_wires.specs.declared.parts.Job.{Job}
use Rattle.cpl_wires.specs.declared.parts.Move.TheVariants.{Posts, Takes, Does}
use Rattle.cpl_wires.specs.declared.parts.Stop.{Stop}
use Rattle.cpl_wires.specs.Settings.{Setting, base_of, pieces_in, piece_count}
use Rattle.cpl_wires.specs.Purposes.{giver, receiver, uses_for}
use Rattle.cpl_wires.specs.Pairs.{has_edge}
use Rattle.cpl_wires.specs.Edges.{edges_of, edge_at, length_of, post_slot, take_slot}
use Rattle.cpl_wires.specs.Stops.{stop_at, script, use_of}
use Rattle.cpl_wires.specs.Wirings.{Value, wires_of}

-- a piece is of the component, or else one of the first so many
abbrev pub IsOf : Setting → ℕ → Option Component → ℕ → Type 0
IsOf setting others (Some component) piece = (base_of setting component ≤ piece) × (piece < base_of setting component + pieces_in setting component)
IsOf setting others None piece = piece < others

-- An edge leads from a piece that may post to one that may take, and they share something. The sums are posted by all pieces, and piece
-- 0 takes them.
pub record IsEdge (setting : Setting) (edge : Edge) : Type 0 where
  pub from : IsOf setting (piece_count setting) (giver edge.purpose) edge.from
  pub to : IsOf setting 1 (receiver edge.purpose) edge.to
  pub shares : has_edge setting edge.purpose edge.from edge.to ≡ true

-- the script of the piece that posts an edge posts it once for each use, and that of the piece that takes it takes it once for each use;
-- no other script names it
pub record IsUsed (setting : Setting) (edge : ℕ) : Type 0 where
  pub posts : (piece : ℕ) → count_by (is_post edge) (script setting piece)
      ≡ (if piece == (edge_at setting edge).from then uses_for setting.names (edge_at setting edge).purpose else 0)
  pub takes : (piece : ℕ) → count_by (is_take edge) (script setting piece)
      ≡ (if piece == (edge_at setting edge).to then uses_for setting.names (edge_at setting edge).purpose else 0)

-- the action of a piece is a Post of an edge of its own, with the edge's slot, in a turn that posts the edge's purpose
pub record IsPostOf (setting : Setting) (piece : ℕ) (stop : Stop) (edge : ℕ) : Type 0 where
  pub known : edge < length (edges_of setting)
  pub from : (edge_at setting edge).from ≡ piece
  pub kind : stop.turn.kind ≡ Posts (edge_at setting edge).purpose
  pub slot : stop.slot ≡ post_slot setting edge

-- so is a Take
pub record IsTakeOf (setting : Setting) (piece : ℕ) (stop : Stop) (edge : ℕ) : Type 0 where
  pub known : edge < length (edges_of setting)
  pub to : (edge_at setting edge).to ≡ piece
  pub kind : stop.turn.kind ≡ Takes (edge_at setting edge).purpose
  pub slot : stop.slot ≡ take_slot setting edge

-- a Compute has slot 0, and a job
abbrev pub IsOwnAct : Setting → ℕ → Stop → Act → Type 0
IsOwnAct setting piece stop (Post edge) = IsPostOf setting piece stop edge
IsOwnAct setting piece stop (Take edge) = IsTakeOf setting piece stop edge
IsOwnAct setting piece stop Compute = ((job : Job) × (stop.turn.kind ≡ Does job)) × (stop.slot ≡ 0)

abbrev pub IsOwn : Setting → ℕ → Stop → Type 0
IsOwn setting piece stop = IsOwnAct setting piece stop stop.act

-- before a Post its edge was posted as often as the number of its use says, which is below the edge's uses
pub record PostIsUse (setting : Setting) (piece m edge : ℕ) : Type 0 where
  pub before : count_by (is_post edge) (take m (script setting piece)) ≡ use_of setting (stop_at setting piece m).turn
  pub below : use_of setting (stop_at setting piece m).turn < uses_for setting.names (edge_at setting edge).purpose

-- so it is before a Take
pub record TakeIsUse (setting : Setting) (piece m edge : ℕ) : Type 0 where
  pub before : count_by (is_take edge) (take m (script setting piece)) ≡ use_of setting (stop_at setting piece m).turn
  pub below : use_of setting (stop_at setting piece m).turn < uses_for setting.names (edge_at setting edge).purpose

-- what stands in the wiring: the edges' pieces, lengths, uses and values, and the pieces' scripts
pub record IsSpelledOut (setting : Setting) (value : Value) : Type 0 where
  pub edges : length (wires_of setting value).channels ≡ length (edges_of setting)
  pub pieces : length (wires_of setting value).scripts ≡ piece_count setting
  pub from : (edge : ℕ) → edge < length (edges_of setting) → poster_of (wires_of setting value) edge ≡ (edge_at setting edge).from
  pub to : (edge : ℕ) → edge < length (edges_of setting) → taker_of (wires_of setting value) edge ≡ (edge_at setting edge).to
  pub lengths : (edge : ℕ) → edge < length (edges_of setting) → len_of (wires_of setting value) edge ≡ length_of setting (edge_at setting edge)
  pub uses : (edge : ℕ) → edge < length (edges_of setting) → uses_of (wires_of setting value) edge ≡ uses_for setting.names (edge_at setting edge).purpose
  pub values : (edge k : ℕ) → edge < length (edges_of setting) → k < uses_for setting.names (edge_at setting edge).purpose
      → value_of (wires_of setting value) edge k ≡ value (edge_at setting edge) k
  pub scripts : (piece : ℕ) → piece < piece_count setting → script_of (wires_of setting value) piece ≡ script setting piece
