use Rattle.std.proofs.Common.{◌≡◌, ◌∙◌, refl, sym, ap, subst, [], ◌∷◌, ◌<◌, ℕ, List, length, get_or, map}
use Rattle.std.specs.Prelude.{All}
use Rattle.std.proofs.lemmas.Result.{IfOk-weaker}
use Rattle.cpl_layout.specs.declared.piece.Piece.{Piece}
use Rattle.cpl_layout.specs.Owners.{Holds}
use Rattle.cpl_xgrid.specs.declared.grid.Grid.{Grid}
use Rattle.cpl_wires.specs.declared.parts.Edge.{Edge}
use Rattle.cpl_wires.specs.Settings.{cells_of_piece}
use Rattle.cpl_wires.specs.Pairs.{carried}
use Rattle.cpl_wires.specs.Edges.{edge_at}
use Rattle.cpl_rows.specs.declared.ends.End.TheVariants.{To}
use Rattle.cpl_rows.specs.Rows.{AreOwnPlaces, CarriesCells, items_on}
use Rattle.cpl_rows.specs.Ends.{ends_of, cell_by, place_by}
use Rattle.cpl_rows.proofs.Posted.{to_known, taken_held, own_places, holds}
use Rattle.cpl_rows.proofs.places.taken_places.Goals as goal

map-id : (xs : List ℕ) → map (λ item. item) xs ≡ xs
map-id [] = refl
map-id (x ∷ xs) = ap (λ (ys : List ℕ). x ∷ ys) (map-id xs)

pub cells_of-cells-requires : goal.cells_of-cells-requires
cells_of-cells-requires c = to_known c.args.exchanges.now c.names-names.ensures.lawful c.edge-purpose.result c.edge-purpose.ensures.rules

pub places_in-requires-clause-items : goal.places_in-requires-clause-items
places_in-requires-clause-items c =
    let setting = c.args.exchanges.now in
    let edge = c.edge-purpose.result in
    let carries : c.carried.result.now ≡ carried setting edge.purpose edge.from edge.to = c.carried.ensures ∙ ap (λ (e : Edge). carried setting e.purpose e.from e.to) (sym c.edge-purpose.ensures.edge) in
    subst (λ (xs : List ℕ). All (λ item. item < length (ends_of c.grid.result.now edge.purpose)) xs) (sym carries)
    (subst (λ (grid : Grid). All (λ item. item < length (ends_of grid edge.purpose)) (carried setting edge.purpose edge.from edge.to)) (sym c.grid.ensures.grid)
    (λ k d l. (taken_held setting c.names-names.ensures.lawful c.grid.ensures.lawful edge c.edge-purpose.ensures.rules (subst (λ (e : Edge). CarriesCells e.purpose) (sym c.edge-purpose.ensures.edge) c.requires.cells) k d l).within))

pub places_in-requires-clause-cells : goal.places_in-requires-clause-cells
places_in-requires-clause-cells c =
    let setting = c.args.exchanges.now in
    let is = c.names-names.ensures.lawful in
    let edge = c.edge-purpose.result in
    let items = carried setting edge.purpose edge.from edge.to in
    let carries : c.carried.result.now ≡ carried setting edge.purpose edge.from edge.to = c.carried.ensures ∙ ap (λ (e : Edge). carried setting e.purpose e.from e.to) (sym c.edge-purpose.ensures.edge) in
    subst (λ (xs : List ℕ). All (λ item. Holds c.cells_of-cells.result (cell_by c.grid.result.now edge.purpose To item)) xs) (sym carries)
    (subst (λ (grid : Grid). All (λ item. Holds c.cells_of-cells.result (cell_by grid edge.purpose To item)) items) (sym c.grid.ensures.grid)
    (subst (λ (cells : Piece). All (λ item. Holds cells (cell_by setting.grid edge.purpose To item)) items) (sym c.cells_of-cells.ensures.cells)
    (λ k d l. holds setting is edge.purpose To edge.to (λ item. item) (get_or items k d) (taken_held setting is c.grid.ensures.lawful edge c.edge-purpose.ensures.rules (subst (λ (e : Edge). CarriesCells e.purpose) (sym c.edge-purpose.ensures.edge) c.requires.cells) k d l))))

pub returns : goal.returns
returns c =
    let setting = c.args.exchanges.now in
    let is = c.names-names.ensures.lawful in
    let edge = c.edge-purpose.result in
    let items = carried setting edge.purpose edge.from edge.to in
    let carries : c.carried.result.now ≡ carried setting edge.purpose edge.from edge.to = c.carried.ensures ∙ ap (λ (e : Edge). carried setting e.purpose e.from e.to) (sym c.edge-purpose.ensures.edge) in
    let own : AreOwnPlaces setting edge.to items (map (place_by setting.grid edge.purpose To (cells_of_piece setting edge.to)) items) =
    subst (λ (xs : List ℕ). AreOwnPlaces setting edge.to xs (map (place_by setting.grid edge.purpose To (cells_of_piece setting edge.to)) items)) (map-id items) (own_places setting is edge.purpose To edge.to (λ item. item) items (taken_held setting is c.grid.ensures.lawful edge c.edge-purpose.ensures.rules (subst (λ (e : Edge). CarriesCells e.purpose) (sym c.edge-purpose.ensures.edge) c.requires.cells))) in
    let at : AreOwnPlaces setting (edge_at setting c.args.edge).to (items_on setting c.args.edge) (map (place_by setting.grid edge.purpose To (cells_of_piece setting edge.to)) items) =
    subst (λ (e : Edge). AreOwnPlaces setting e.to (carried setting e.purpose e.from e.to) (map (place_by setting.grid edge.purpose To (cells_of_piece setting edge.to)) items)) c.edge-purpose.ensures.edge own in
    IfOk-weaker c.places_in.result (λ places. places.items ≡ map (place_by c.grid.result.now edge.purpose To c.cells_of-cells.result) c.carried.result.now)
    (λ places. AreOwnPlaces setting (edge_at setting c.args.edge).to (items_on setting c.args.edge) places.items)
    (λ places it. subst (λ (xs : List ℕ). AreOwnPlaces setting (edge_at setting c.args.edge).to (items_on setting c.args.edge) xs)
    (sym (it ∙ (λ t. map (place_by (c.grid.ensures.grid t) edge.purpose To (c.cells_of-cells.ensures.cells t)) (carries t)))) at)
    c.places_in.ensures
