-- The wiring of a run by pieces, as data, with what each use carries given.
use Rattle.std.specs.Prelude.{◌≡◌, ℕ, ℤ, ◌<◌, List, length, map}
use Rattle.std.specs.List.{range_with_len}
use Rattle.cpl_core.specs.declared.wiring.Channel.{Channel}
use Rattle.cpl_core.specs.declared.wiring.Wires.{Wires}
use Rattle.cpl_wires.specs.declared.parts.Edge.{Edge}
use Rattle.cpl_wires.specs.Settings.{Setting, all_pieces}
use Rattle.cpl_wires.specs.Purposes.{uses_for}
use Rattle.cpl_wires.specs.Edges.{edges_of, edge_at, length_of}
use Rattle.cpl_wires.specs.Stops.{script}

-- what the uses of each edge carry
abbrev pub Value : Type 0
Value = Edge → ℕ → List ℤ

-- each use of an edge carries as many numbers as its length says
abbrev pub HasLengths : Setting → Value → Type 0
HasLengths setting value = (edge k : ℕ) → edge < length (edges_of setting) → length (value (edge_at setting edge) k) ≡ length_of setting (edge_at setting edge)

-- an edge, as the core has it
abbrev pub channel_for : Setting → Value → Edge → Channel
channel_for setting value edge = record {
  from = edge.from;
  to = edge.to;
  len = length_of setting edge;
  values = map (value edge) (range_with_len 0 (uses_for setting.names edge.purpose));
}

-- all edges and all scripts
unfoldable pub wires_of : Setting → Value → Wires
wires_of setting value = record { channels = map (channel_for setting value) (edges_of setting); scripts = map (script setting) (all_pieces setting) }
