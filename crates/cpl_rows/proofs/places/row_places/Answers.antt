use Rattle.std.proofs.Common.{◌≡◌, ◌∙◌, sym, ap, subst, ◌<◌, ◌≤◌, ◌*◌, ℕ, List, arith, length, get_or, map}
use Rattle.std.specs.Prelude.{All}
use Rattle.std.proofs.lemmas.Result.{IfOk-weaker}
use Rattle.cpl_layout.specs.declared.piece.Piece.{Piece}
use Rattle.cpl_layout.specs.Owners.{Holds}
use Rattle.cpl_xgrid.specs.declared.grid.Grid.{Grid}
use Rattle.cpl_wires.specs.Settings.{cells_of_piece}
use Rattle.cpl_rows.specs.declared.ends.End.TheVariants.{To}
use Rattle.cpl_rows.specs.Ends.{ends_of, cell_by, own_items, place_by}
use Rattle.cpl_xgrid.specs.Groups.{by_key}
use Rattle.cpl_wires.specs.Edges.{edges_of}
use Rattle.std.proofs.lemmas.List.{length-map}
use Rattle.cpl_rows.specs.declared.place.RowPlace.{RowPlace}
use Rattle.cpl_rows.specs.Rows.{AreRowPlaces, items_on, items_taken}
use Rattle.cpl_rows.specs.Found.{StandsIn, AreAt}
use Rattle.cpl_rows.proofs.Taken.{taken_few, taken_known}
use Rattle.cpl_rows.proofs.Linked.{taker_of}
use Rattle.cpl_rows.proofs.Owned.{owned, held, stands}
use Rattle.cpl_rows.proofs.Rowed.{keys_below, items_few, row_lists, row_places_are}
use Rattle.cpl_rows.proofs.places.row_places.Goals as goal

pub places_in-requires-clause-items : goal.places_in-requires-clause-items
places_in-requires-clause-items c =
    let setting = c.args.exchanges.now in
    let taker = taker_of setting c.names-names.ensures.lawful c.grid.ensures.lawful c.args.purpose c.args.piece c.requires.purpose c.requires.piece in
    let items : c.deref.result.now ≡ own_items setting c.args.piece c.args.purpose = c.deref.ensures.value ∙ c.in_ok-items.ensures in
    subst (λ (xs : List ℕ). All (λ item. item < length (ends_of c.grid.result.now c.args.purpose)) xs) (sym items)
    (subst (λ (grid : Grid). All (λ item. item < length (ends_of grid c.args.purpose)) (own_items setting c.args.piece c.args.purpose)) (sym c.grid.ensures.grid)
    (λ k d l. (owned setting c.names-names.ensures.lawful c.args.purpose c.args.piece taker k d l).within))

pub places_in-requires-clause-cells : goal.places_in-requires-clause-cells
places_in-requires-clause-cells c =
    let setting = c.args.exchanges.now in
    let is = c.names-names.ensures.lawful in
    let taker = taker_of setting is c.grid.ensures.lawful c.args.purpose c.args.piece c.requires.purpose c.requires.piece in
    let items : c.deref.result.now ≡ own_items setting c.args.piece c.args.purpose = c.deref.ensures.value ∙ c.in_ok-items.ensures in
    subst (λ (xs : List ℕ). All (λ item. Holds c.cells_of-cells.result (cell_by c.grid.result.now c.args.purpose To item)) xs) (sym items)
    (subst (λ (grid : Grid). All (λ item. Holds c.cells_of-cells.result (cell_by grid c.args.purpose To item)) (own_items setting c.args.piece c.args.purpose)) (sym c.grid.ensures.grid)
    (subst (λ (cells : Piece). All (λ item. Holds cells (cell_by setting.grid c.args.purpose To item)) (own_items setting c.args.piece c.args.purpose)) (sym c.cells_of-cells.ensures.cells)
    (λ k d l. held setting is c.args.purpose c.args.piece taker (get_or (own_items setting c.args.piece c.args.purpose) k d) (owned setting is c.args.purpose c.args.piece taker k d l))))

pub places_of-requires-clause-few : goal.places_of-requires-clause-few
places_of-requires-clause-few c =
    subst (λ (xs : List ℕ). length xs ≤ 37_120) (sym c.taken.ensures) (taken_few c.args.exchanges.now c.args.piece c.args.purpose c.names-names.ensures.lawful)

pub places_of-requires-clause-edges : goal.places_of-requires-clause-edges
places_of-requires-clause-edges c =
    subst (λ (xs : List ℕ). All (λ edge. edge < length (edges_of c.args.exchanges.now)) xs) (sym c.taken.ensures) (taken_known c.args.exchanges.now c.args.piece c.args.purpose)

pub places_of-requires-clause-items : goal.places_of-requires-clause-items
places_of-requires-clause-items c =
    let setting = c.args.exchanges.now in
    let piece = c.args.piece in
    let purpose = c.args.purpose in
    let is = c.names-names.ensures.lawful in
    let taker = taker_of setting is c.grid.ensures.lawful purpose piece c.requires.purpose c.requires.piece in
    let items : c.deref-2.result.now ≡ own_items setting piece purpose = c.deref-2.ensures.value ∙ c.in_ok-items.ensures in
    subst (λ (xs : List ℕ). All (StandsIn (map (items_on setting) c.taken.result.now)) xs) (sym items)
    (subst (λ (edges : List ℕ). All (StandsIn (map (items_on setting) edges)) (own_items setting piece purpose)) (sym c.taken.ensures)
    (λ k d l. stands setting is purpose piece taker (get_or (own_items setting piece purpose) k d) (owned setting is purpose piece taker k d l)))

pub by_key-requires-clause-keys : goal.by_key-requires-clause-keys
by_key-requires-clause-keys c =
    let setting = c.args.exchanges.now in
    let piece = c.args.piece in
    let purpose = c.args.purpose in
    let is = c.names-names.ensures.lawful in
    let taker = taker_of setting is c.grid.ensures.lawful purpose piece c.requires.purpose c.requires.piece in
    let items : c.deref.result.now ≡ own_items setting piece purpose = c.deref.ensures.value ∙ c.in_ok-items.ensures in
    let cells = c.cells_of-cells.ensures.cells in
    let keys : c.deref-3.result.now ≡ map (place_by setting.grid purpose To (cells_of_piece setting piece)) (own_items setting piece purpose) =
    c.deref-3.ensures.value ∙ c.in_ok-keys.ensures ∙ (λ t. map (place_by (c.grid.ensures.grid t) purpose To (cells t)) (items t)) in
    subst (λ (xs : List ℕ). All (λ key. key < c.cells_of-cells.result.nx * c.cells_of-cells.result.ny) xs) (sym keys)
    (subst (λ (own : Piece). All (λ key. key < own.nx * own.ny) (map (place_by setting.grid purpose To (cells_of_piece setting piece)) (own_items setting piece purpose))) (sym cells)
    (keys_below setting is purpose piece taker))

pub by_key-requires-clause-few : goal.by_key-requires-clause-few
by_key-requires-clause-few c =
    let setting = c.args.exchanges.now in
    let piece = c.args.piece in
    let purpose = c.args.purpose in
    let items : c.deref.result.now ≡ own_items setting piece purpose = c.deref.ensures.value ∙ c.in_ok-items.ensures in
    let keys : length c.deref-3.result.now ≡ length c.deref.result.now =
    ap (λ (xs : List ℕ). length xs) (c.deref-3.ensures.value ∙ c.in_ok-keys.ensures) ∙ length-map c.deref.result.now (place_by c.grid.result.now purpose To c.cells_of-cells.result) in
    let long = ap (λ (xs : List ℕ). length xs) items in
    let few = items_few setting c.grid.ensures.lawful purpose piece c.requires.purpose in omega arith

pub returns : goal.returns
returns c =
    let setting = c.args.exchanges.now in
    let piece = c.args.piece in
    let purpose = c.args.purpose in
    let is = c.names-names.ensures.lawful in
    let taker = taker_of setting is c.grid.ensures.lawful purpose piece c.requires.purpose c.requires.piece in
    let items : c.deref.result.now ≡ own_items setting piece purpose = c.deref.ensures.value ∙ c.in_ok-items.ensures in
    let items_too : c.deref-2.result.now ≡ own_items setting piece purpose = c.deref-2.ensures.value ∙ c.in_ok-items.ensures in
    let cells = c.cells_of-cells.ensures.cells in
    let own : List ℕ = map (place_by setting.grid purpose To (cells_of_piece setting piece)) (own_items setting piece purpose) in
    let keys : c.deref-3.result.now ≡ own = c.deref-3.ensures.value ∙ c.in_ok-keys.ensures ∙ (λ t. map (place_by (c.grid.ensures.grid t) purpose To (cells t)) (items t)) in
    let other : RowPlace = record { edge = 0; place = 0 } in
    let table : c.deref-4.result.now ≡ c.in_ok-places.places.items = c.deref-4.ensures.value in
    let groups : c.in_ok-by_key.field-0 ≡ by_key ((cells_of_piece setting piece).nx * (cells_of_piece setting piece).ny) own =
    c.in_ok-by_key.ensures ∙ (λ t. by_key ((cells t).nx * (cells t).ny) (keys t)) in
    let at : AreAt (items_taken setting piece purpose) (own_items setting piece purpose) c.in_ok-places.places.items =
    subst (λ (xs : List ℕ). AreAt (items_taken setting piece purpose) xs c.in_ok-places.places.items) items_too
    (subst (λ (edges : List ℕ). AreAt (map (items_on setting) edges) c.deref-2.result.now c.in_ok-places.places.items) c.taken.ensures c.in_ok-places.ensures) in
    let goal_is : AreRowPlaces setting piece purpose (row_lists setting is purpose piece taker c.in_ok-places.places.items other at) =
    row_places_are setting is purpose piece taker c.in_ok-places.places.items other at in
    IfOk-weaker c.pick.result (λ rows. rows ≡ map (map (λ n. get_or c.deref-4.result.now n other)) c.in_ok-by_key.field-0) (λ rows. AreRowPlaces setting piece purpose rows)
    (λ rows it. subst (AreRowPlaces setting piece purpose) (sym (it ∙ (λ t. map (map (λ n. get_or (table t) n other)) (groups t)))) goal_is)
    c.pick.ensures
