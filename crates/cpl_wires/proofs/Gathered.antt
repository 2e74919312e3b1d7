-- All edges of a piece and of a purpose, from those between two pieces.
use Rattle.std.proofs.Common.{◌≡◌, ◌∙◌, sym, ap, ℕ, List, ◌++◌}
use Rattle.std.specs.Prelude.{Option}
use Rattle.std.specs.List.{range_with_len, flat_map}
use Rattle.cpl_fixed.specs.declared.words.Component.{Component}
use Rattle.cpl_wires.specs.declared.parts.Purpose.{Purpose}
use Rattle.cpl_wires.specs.declared.parts.Edge.{Edge}
use Rattle.cpl_wires.specs.Settings.{Setting, piece_count}
use Rattle.cpl_wires.specs.Purposes.{giver, receiver, pieces_or, takers}
use Rattle.cpl_wires.specs.Pairs.{has_edge}
use Rattle.cpl_wires.specs.Edges.{edges_for, edges_from}
use Rattle.cpl_wires.specs.Tables.{edge_if}
use Rattle.cpl_wires.proofs.Appended.{picked_is}

module _ (setting : Setting) (purpose : Purpose) (first count k : ℕ) (component : Option Component) (old all : List Edge) where
  -- of a piece that posts
  pub from_all : (from : ℕ) → component ≡ receiver purpose → range_with_len first count ≡ pieces_or setting (range_with_len 0 1) component → k ≡ count
      → all ≡ old ++ flat_map (edge_if setting purpose from) (range_with_len first k) → all ≡ old ++ edges_from setting purpose from
  from_all from is range ends so_far =
      so_far
      ∙ ap (λ (n : ℕ). old ++ flat_map (edge_if setting purpose from) (range_with_len first n)) ends
      ∙ ap (λ (ks : List ℕ). old ++ flat_map (edge_if setting purpose from) ks) (range ∙ ap (pieces_or setting (range_with_len 0 1)) is)
      ∙ ap (λ (edges : List Edge). old ++ edges) (sym (picked_is (has_edge setting purpose from) (λ (to : ℕ). record { purpose = purpose; from = from; to = to }) (takers setting purpose)))

  -- of a purpose
  pub for_all : (others : ℕ) → others ≡ piece_count setting → component ≡ giver purpose → range_with_len first count ≡ pieces_or setting (range_with_len 0 others) component → k ≡ count
      → all ≡ old ++ flat_map (edges_from setting purpose) (range_with_len first k) → all ≡ old ++ edges_for setting purpose
  for_all others count_is is range ends so_far =
      so_far
      ∙ ap (λ (n : ℕ). old ++ flat_map (edges_from setting purpose) (range_with_len first n)) ends
      ∙ ap (λ (ks : List ℕ). old ++ flat_map (edges_from setting purpose) ks)
      (range ∙ ap (λ (n : ℕ). pieces_or setting (range_with_len 0 n) component) count_is ∙ ap (pieces_or setting (range_with_len 0 (piece_count setting))) is)
