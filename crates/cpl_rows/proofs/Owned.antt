-- The pieces of a run, and the exchange cells, outlets and cells whose cells they have.
use Rattle.std.proofs.Common.{◌≡◌, ◌∙◌, refl, sym, ap, subst, ℕ, ◌+◌, ◌-◌, ◌<◌, arith, true, List, length, get_or, map, eqb, inl, inr}
use Rattle.std.specs.Prelude.{All, Some, Option}
use Rattle.std.proofs.lemmas.Bool.{cases_lt, eq-eqb, eqb-true, lt-ltb, and_from}
use Rattle.std.proofs.lemmas.List.{get_or-map, get_or_default}
use Rattle.std.proofs.lemmas.List.Elements.{All-map}
use Rattle.cpl_fixed.specs.declared.words.Component.{Component}
use Rattle.cpl_fixed.specs.declared.words.Component.TheVariants.{Atmos, Land, Ice, Ocean}
use Rattle.cpl_mosaic.specs.declared.parts.CellId.{CellId}
use Rattle.cpl_mosaic.specs.Sides.{IsCellOf}
use Rattle.cpl_layout.specs.Pieces.{pieces_of, piece_of, owner_of}
use Rattle.cpl_layout.specs.Owners.{Holds}
use Rattle.cpl_layout.proofs.Numbered.{owner_below, owner_holds}
use Rattle.cpl_wires.specs.declared.parts.Purpose.{Purpose}
use Rattle.cpl_wires.specs.Settings.{Setting, IsSetting, layout_of, base_of, pieces_in, piece_count, component_of, piece_with}
use Rattle.cpl_wires.specs.Pairs.{carried, some}
use Rattle.cpl_wires.specs.Edges.{taken_by}
use Rattle.cpl_wires.specs.Tables.{Pair}
use Rattle.cpl_wires.specs.Laws.{IsOf}
use Rattle.cpl_wires.proofs.Members.{component_is}
use Rattle.cpl_rows.specs.declared.ends.End.TheVariants.{To}
use Rattle.cpl_rows.specs.Rows.{items_on}
use Rattle.cpl_rows.specs.Found.{StandsIn}
use Rattle.cpl_rows.specs.Ends.{ends_of, end_of, cells_by, cell_by, no_cell, own_items}
use Rattle.cpl_rows.proofs.Listed.{Stands, passes_at, stands_at}
use Rattle.cpl_rows.proofs.Ended.{cells_count}
use Rattle.cpl_rows.proofs.Taken.{stands_in}
use Rattle.cpl_rows.proofs.Linked.{IsTaker, lies, tiles_at}

-- PIECES

of_own : (setting : Setting) (piece : ℕ) (component : Component) → IsOf setting 0 (Some component) piece → IsOf setting 0 (Some (component_of setting piece)) piece
of_own setting piece component is = subst (λ (own : Component). IsOf setting 0 (Some own) piece) (sym (component_is setting component piece is.0 is.1)) is

-- a piece is one of its component
pub of_component : (setting : Setting) (piece : ℕ) → piece < piece_count setting → IsOf setting 0 (Some (component_of setting piece)) piece
of_component setting piece known = elim (cases_lt piece (base_of setting Land)) [
  | inl air ↦ of_own setting piece Atmos (omega arith, omega arith)
  | inr past_air ↦ elim (cases_lt piece (base_of setting Ice)) [
    | inl land ↦ of_own setting piece Land (omega arith, omega arith)
    | inr past_land ↦ elim (cases_lt piece (base_of setting Ocean)) [
      | inl ice ↦ of_own setting piece Ice (omega arith, omega arith)
      | inr past_ice ↦ of_own setting piece Ocean (omega arith, omega arith)
    ]
  ]
]

-- its number in its component
pub number_below : (setting : Setting) (piece : ℕ) → IsOf setting 0 (Some (component_of setting piece)) piece
    → piece - base_of setting (component_of setting piece) < pieces_of (layout_of setting (component_of setting piece))
unfolding pieces_in
number_below setting piece is = omega (arith, is.0, is.1)

-- ITEMS

module _ (setting : Setting) (is : IsSetting setting) (purpose : Purpose) (piece : ℕ) (taker : IsTaker setting purpose piece) where
  -- their cells lie in the mosaic
  pub cells_inside : All (IsCellOf (tiles_at setting (component_of setting piece))) (cells_by setting.grid purpose To)
  cells_inside = All-map (IsCellOf (tiles_at setting (component_of setting piece))) (end_of To) (ends_of setting.grid purpose) (λ k d l. (taker.link.inside k d l).1)

  -- an item of the piece
  pub record IsOwned (item : ℕ) : Type 0 where
    pub within : item < length (ends_of setting.grid purpose)
    pub owner : owner_of (layout_of setting (component_of setting piece)) (cell_by setting.grid purpose To item) ≡ piece - base_of setting (component_of setting piece)

  pub owned : All IsOwned (own_items setting piece purpose)
  owned k d l =
      let component = component_of setting piece in
      let layout = layout_of setting component in
      let test = λ (cell : CellId). eqb (owner_of layout cell) (piece - base_of setting component) in
      let it = passes_at test (cells_by setting.grid purpose To) no_cell k l in
      let long = cells_count setting.grid purpose To in
      let same = get_or_default (own_items setting piece purpose) k 0 d l in
      subst IsOwned same (record { within = omega (arith, it.0, long); owner = eqb-true _ _ it.1 })

  pub held : (item : ℕ) → IsOwned item
      → Holds (piece_of (layout_of setting (component_of setting piece)) (piece - base_of setting (component_of setting piece))) (cell_by setting.grid purpose To item)
  held item own =
      let component = component_of setting piece in
      let layout = layout_of setting component in
      let long = cells_count setting.grid purpose To in
      let within = own.within in
      let inside = cells_inside item no_cell (omega arith) in
      subst (λ (p : ℕ). Holds (piece_of layout p) (cell_by setting.grid purpose To item)) own.owner (owner_holds layout (cell_by setting.grid purpose To item) (is.layouts component) inside)

  some_there : (xs : List ℕ) (item : ℕ) → Stands xs item → some xs ≡ true
  some_there xs item it = let within = it.within in lt-ltb 0 (length xs) (omega arith)

  giver_low : (cell : CellId) → IsCellOf (tiles_at setting taker.one) cell → IsOf setting (piece_count setting) (Some taker.one) (piece_with setting taker.one cell)
  unfolding pieces_in
  giver_low cell inside = let below = owner_below (layout_of setting taker.one) cell (is.layouts taker.one) inside in (omega arith, omega arith)

  -- it stands in a list that the piece takes
  pub stands : (item : ℕ) → IsOwned item → StandsIn (map (items_on setting) (taken_by setting piece purpose)) item
  stands item own =
      let component = component_of setting piece in
      let link = taker.link in
      let ends = ends_of setting.grid purpose in
      let pair : Pair = get_or ends item (no_cell, no_cell) in
      let from = piece_with setting taker.one pair.0 in
      let inside = link.inside item (no_cell, no_cell) own.within in
      let cell : cell_by setting.grid purpose To item ≡ pair.1 = get_or-map (end_of To) ends item (no_cell, no_cell) no_cell own.within in
      let owner : owner_of (layout_of setting component) pair.1 ≡ piece - base_of setting component = ap (owner_of (layout_of setting component)) (sym cell) ∙ own.owner in
      let low = taker.of.0 in
      let back : piece_with setting component pair.1 ≡ piece = omega arith in
      let test : lies setting taker.one component from piece pair ≡ true =
      and_from (eqb (piece_with setting taker.one pair.0) from) (eqb (piece_with setting component pair.1) piece) (eq-eqb from from refl) (eq-eqb (piece_with setting component pair.1) piece back) in
      let zero_add : 0 + item ≡ item = omega arith in
      let there : Stands (carried setting purpose from piece) item =
      subst (λ (n : ℕ). Stands (carried setting purpose from piece) n) zero_add
      (subst (λ (xs : List ℕ). Stands xs (0 + item)) (sym (link.carries from piece)) (stands_at (lies setting taker.one component from piece) 0 item ends (no_cell, no_cell) own.within test)) in
      stands_in setting purpose from piece (subst (λ (option : Option Component). IsOf setting (piece_count setting) option from) (sym link.gives) (giver_low pair.0 inside.0))
      (subst (λ (option : Option Component). IsOf setting 1 option piece) (sym link.takes) taker.of)
      (link.shares from piece ∙ some_there (carried setting purpose from piece) item there)
      item there
