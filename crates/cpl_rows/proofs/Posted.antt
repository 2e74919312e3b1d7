-- Where the cells of what an edge carries stand at its ends.
use Rattle.std.proofs.Common.{◌≡◌, ◌∙◌, sym, ap, subst, ℕ, ◌-◌, ◌<◌, ◌≤◌, arith, true, List, length, get_or, map, inl, inr}
use Rattle.std.specs.Prelude.{All, Some, None, Option}
use Rattle.std.proofs.lemmas.Bool.{eqb-true, and_parts}
use Rattle.std.proofs.lemmas.List.{get_or-map, length-map, get_or_default}
use Rattle.cpl_fixed.specs.declared.words.Component.{Component}
use Rattle.cpl_mosaic.specs.Sides.{IsCellOf}
use Rattle.cpl_mosaic.specs.Cells.{number_of}
use Rattle.cpl_layout.specs.Pieces.{piece_of, owner_of}
use Rattle.cpl_layout.specs.Owners.{Holds}
use Rattle.cpl_layout.proofs.Numbered.{owner_holds}
use Rattle.cpl_xgrid.specs.Grids.{IsGrid}
use Rattle.cpl_wires.specs.declared.parts.Purpose.{Purpose}
use Rattle.cpl_wires.specs.declared.parts.Edge.{Edge}
use Rattle.cpl_wires.specs.Settings.{Setting, IsSetting, layout_of, base_of, piece_count, component_of, piece_with, cells_of_piece}
use Rattle.cpl_wires.specs.Purposes.{giver, receiver}
use Rattle.cpl_wires.specs.Pairs.{carried}
use Rattle.cpl_wires.specs.Laws.{IsOf, IsEdge}
use Rattle.cpl_wires.proofs.Members.{component_is, piece_within}
use Rattle.cpl_wires.proofs.Few.{pieces_few}
use Rattle.cpl_rows.specs.declared.ends.End.{End}
use Rattle.cpl_rows.specs.declared.ends.End.TheVariants.{From, To}
use Rattle.cpl_rows.specs.Rows.{AreOwnPlaces, CarriesCells, giver_cell, own_at}
use Rattle.cpl_rows.specs.Ends.{ends_of, end_of, cell_by, no_cell, place_by}
use Rattle.cpl_rows.proofs.Listed.{passes_at}
use Rattle.cpl_rows.proofs.Linked.{lies, tiles_at}
use Rattle.cpl_rows.proofs.Numbered.{giver_of}
use Rattle.cpl_rows.proofs.Rowed.{stands_own}

-- an item's cell at an end is a piece's, and has a number
pub record IsHeld (setting : Setting) (purpose : Purpose) (end : End) (piece : ℕ) (target : ℕ → ℕ) (component : Component) (item : ℕ) : Type 0 where
  pub within : item < length (ends_of setting.grid purpose)
  pub inside : IsCellOf (tiles_at setting component) (cell_by setting.grid purpose end item)
  pub owner : piece_with setting component (cell_by setting.grid purpose end item) ≡ piece
  pub number : number_of (tiles_at setting component) (cell_by setting.grid purpose end item) ≡ target item

module _ (setting : Setting) (is : IsSetting setting) (purpose : Purpose) (end : End) (piece : ℕ) (target : ℕ → ℕ) where
  owner_is : (item : ℕ) → IsHeld setting purpose end piece target (component_of setting piece) item
      → owner_of (layout_of setting (component_of setting piece)) (cell_by setting.grid purpose end item) ≡ piece - base_of setting (component_of setting piece)
  owner_is item it = let owner = it.owner in omega arith

  pub holds : (item : ℕ) → IsHeld setting purpose end piece target (component_of setting piece) item → Holds (cells_of_piece setting piece) (cell_by setting.grid purpose end item)
  holds item it =
      let layout = layout_of setting (component_of setting piece) in
      subst (λ (p : ℕ). Holds (piece_of layout p) (cell_by setting.grid purpose end item)) (owner_is item it)
      (owner_holds layout (cell_by setting.grid purpose end item) (is.layouts (component_of setting piece)) it.inside)

  pub own_places : (items : List ℕ) → All (IsHeld setting purpose end piece target (component_of setting piece)) items
      → AreOwnPlaces setting piece (map target items) (map (place_by setting.grid purpose end (cells_of_piece setting piece)) items)
  own_places items each =
      let component = component_of setting piece in
      let layout = layout_of setting component in
      let place = place_by setting.grid purpose end (cells_of_piece setting piece) in
      let stands = λ (item : ℕ) (it : IsHeld setting purpose end piece target (component_of setting piece) item).
      stands_own layout (piece - base_of setting component) (cell_by setting.grid purpose end item) (is.layouts component) it.inside (owner_is item it) in
      let cells_long = length-map items target in
      let places_long = length-map items place in record {
        size = places_long ∙ sym cells_long;
        within = λ t l.
            let item = get_or items t 0 in
            let it = each t 0 (omega arith) in
            let read = get_or-map place items t 0 0 (omega arith) in
            let below = (stands item it).within in omega arith;
        each = λ t l.
            let item = get_or items t 0 in
            let it = each t 0 (omega arith) in
            let read = get_or-map place items t 0 0 (omega arith) in
            let cell = get_or-map target items t 0 0 (omega arith) in
            ap (own_at setting piece) read ∙ (stands item it).is ∙ it.number ∙ sym cell;
      }

-- EDGES

module _ (setting : Setting) (is : IsSetting setting) where
  known_by : (others : ℕ) (option : Option Component) (piece : ℕ) → others ≤ piece_count setting → IsOf setting others option piece → piece < piece_count setting
  known_by others (Some component) piece few of = piece_within setting component piece of.1
  known_by others None piece few of = omega arith

  pub from_known : (edge : Edge) → IsEdge setting edge → edge.from < piece_count setting
  from_known edge it = known_by (piece_count setting) (giver edge.purpose) edge.from (omega arith) it.from

  pub to_known : (edge : Edge) → IsEdge setting edge → edge.to < piece_count setting
  to_known edge it = let few = pieces_few setting is in known_by 1 (receiver edge.purpose) edge.to (omega (arith, few.0)) it.to

module _ (setting : Setting) (is : IsSetting setting) (grid : IsGrid setting.grid) where
  pub posted_held : (edge : Edge) → IsEdge setting edge
      → All (IsHeld setting edge.purpose From edge.from (giver_cell setting.grid edge.purpose) (component_of setting edge.from)) (carried setting edge.purpose edge.from edge.to)
  posted_held edge it k d l = elim (giver_of setting is grid edge.purpose) [
    | inl gives ↦
        let purpose = edge.purpose in
        let link = gives.link in
        let ends = ends_of setting.grid purpose in
        let own : component_of setting edge.from ≡ gives.one =
        let of : IsOf setting (piece_count setting) (Some gives.one) edge.from = subst (λ (option : Option Component). IsOf setting (piece_count setting) option edge.from) link.gives it.from in
        component_is setting gives.one edge.from of.0 of.1 in
        let items = link.carries edge.from edge.to in
        let long = ap (λ (xs : List ℕ). length xs) items in
        let passed = passes_at (lies setting gives.one gives.other edge.from edge.to) ends (no_cell, no_cell) k (omega arith) in
        let item = get_or (carried setting purpose edge.from edge.to) k d in
        let same : get_or (carried setting purpose edge.from edge.to) k 0 ≡ item = get_or_default (carried setting purpose edge.from edge.to) k 0 d l in
        let number = ap (λ (xs : List ℕ). get_or xs k 0) items in
        let at = λ (n : ℕ). (n < length ends) × (lies setting gives.one gives.other edge.from edge.to (get_or ends n (no_cell, no_cell)) ≡ true) in
        let here : at item = subst at (sym number ∙ same) passed in
        let cell : cell_by setting.grid purpose From item ≡ (get_or ends item (no_cell, no_cell)).0 = get_or-map (end_of From) ends item (no_cell, no_cell) no_cell here.0 in
        let owner = eqb-true _ _ (and_parts _ _ here.1).0 in
        subst (λ (component : Component). IsHeld setting purpose From edge.from (giver_cell setting.grid purpose) component item) (sym own) (record {
          within = here.0;
          inside = subst (IsCellOf (tiles_at setting gives.one)) (sym cell) (link.inside item (no_cell, no_cell) here.0).0;
          owner = ap (piece_with setting gives.one) cell ∙ owner;
          number = gives.numbers item here.0;
        })
    | inr none ↦ let long = ap (λ (xs : List ℕ). length xs) (none edge.from edge.to) in absurd (omega arith)
  ]

  pub taken_held : (edge : Edge) → IsEdge setting edge → CarriesCells edge.purpose
      → All (IsHeld setting edge.purpose To edge.to (λ item. item) (component_of setting edge.to)) (carried setting edge.purpose edge.from edge.to)
  taken_held edge it cells k d l = elim (giver_of setting is grid edge.purpose) [
    | inl gives ↦
        let purpose = edge.purpose in
        let link = gives.link in
        let ends = ends_of setting.grid purpose in
        let own : component_of setting edge.to ≡ gives.other =
        let of : IsOf setting 1 (Some gives.other) edge.to = subst (λ (option : Option Component). IsOf setting 1 option edge.to) link.takes it.to in
        component_is setting gives.other edge.to of.0 of.1 in
        let items = link.carries edge.from edge.to in
        let long = ap (λ (xs : List ℕ). length xs) items in
        let passed = passes_at (lies setting gives.one gives.other edge.from edge.to) ends (no_cell, no_cell) k (omega arith) in
        let item = get_or (carried setting purpose edge.from edge.to) k d in
        let same : get_or (carried setting purpose edge.from edge.to) k 0 ≡ item = get_or_default (carried setting purpose edge.from edge.to) k 0 d l in
        let number = ap (λ (xs : List ℕ). get_or xs k 0) items in
        let at = λ (n : ℕ). (n < length ends) × (lies setting gives.one gives.other edge.from edge.to (get_or ends n (no_cell, no_cell)) ≡ true) in
        let here : at item = subst at (sym number ∙ same) passed in
        let cell : cell_by setting.grid purpose To item ≡ (get_or ends item (no_cell, no_cell)).1 = get_or-map (end_of To) ends item (no_cell, no_cell) no_cell here.0 in
        let owner = eqb-true _ _ (and_parts _ _ here.1).1 in
        subst (λ (component : Component). IsHeld setting purpose To edge.to (λ item. item) component item) (sym own) (record {
          within = here.0;
          inside = subst (IsCellOf (tiles_at setting gives.other)) (sym cell) (link.inside item (no_cell, no_cell) here.0).1;
          owner = ap (piece_with setting gives.other) cell ∙ owner;
          number = gives.taken cells item here.0;
        })
    | inr none ↦ let long = ap (λ (xs : List ℕ). length xs) (none edge.from edge.to) in absurd (omega arith)
  ]
