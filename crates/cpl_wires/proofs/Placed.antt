-- The pieces of edges are among 256.
use Rattle.std.proofs.Common.{◌≡◌, sym, ap, subst, ℕ, ◌<◌, ◌≤◌, arith, List, length}
use Rattle.std.specs.Prelude.{All, Option, Some, None}
use Rattle.std.proofs.lemmas.List.Elements.{All-from_get_or}
use Rattle.cpl_fixed.specs.declared.words.Component.{Component}
use Rattle.cpl_wires.specs.declared.parts.Edge.{Edge}
use Rattle.cpl_wires.specs.declared.parts.Purpose.TheVariants.{Sums}
use Rattle.cpl_wires.specs.Settings.{Setting, IsSetting, piece_count}
use Rattle.cpl_wires.specs.Purposes.{giver, receiver}
use Rattle.cpl_wires.specs.Edges.{edges_of, edge_at}
use Rattle.cpl_wires.specs.Laws.{IsOf, IsEdge}
use Rattle.cpl_wires.specs.Tables.{HaveEnds}
use Rattle.cpl_wires.proofs.Few.{pieces_few, edges_few}
use Rattle.cpl_wires.proofs.Members.{is_edge, piece_within}

of_few : (setting : Setting) (others : ℕ) (option : Option Component) (piece : ℕ) → IsSetting setting → others ≤ 256 → IsOf setting others option piece → piece < 256
of_few setting others (Some component) piece is l of = let within = piece_within setting component piece of.1 in let few = pieces_few setting is in omega (arith, within, few.1)
of_few setting others None piece is l of = omega arith

pub edges_are : (setting : Setting) → All (IsEdge setting) (edges_of setting)
edges_are setting = All-from_get_or (IsEdge setting) (edges_of setting) (record { purpose = Sums; from = 0; to = 0 }) (is_edge setting)

pub have_ends : (setting : Setting) → IsSetting setting → HaveEnds (edges_of setting)
have_ends setting is = All-from_get_or (λ (edge : Edge). (edge.from < 256) × (edge.to < 256)) (edges_of setting) (record { purpose = Sums; from = 0; to = 0 }) (λ m l.
    let edge = edge_at setting m in
    let of = is_edge setting m l in
    let few = pieces_few setting is in
    (of_few setting (piece_count setting) (giver edge.purpose) edge.from is few.1 of.from, of_few setting 1 (receiver edge.purpose) edge.to is (omega arith) of.to))

-- a list of all edges
module _ (setting : Setting) (list : List Edge) (same : list ≡ edges_of setting) where
  pub list_edges : All (IsEdge setting) list
  list_edges = subst (All (IsEdge setting)) (sym same) (edges_are setting)

  pub list_ends : IsSetting setting → HaveEnds list
  list_ends is = subst HaveEnds (sym same) (have_ends setting is)

  pub list_few : IsSetting setting → length list ≤ 65_536
  list_few is = let few = edges_few setting is in let long = ap length same in omega (arith, few, long)
