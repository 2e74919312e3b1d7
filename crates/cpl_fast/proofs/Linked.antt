-- The links of rows, one after another.
use Rattle.std.proofs.Common.{◌≡◌, ◌∙◌, sym, ap, subst, Bool, true, false, cond, ℕ, suc, ◌+◌, ◌<◌, ◌++◌, arith, below_more, inl, inr, eq-eqb, List, [], ◌∷◌, map, length, take}
use Rattle.std.specs.Prelude.{ℤ, pos, ◌+ℤ◌, ◌≤ℤ◌, slice_set, All}
use Rattle.std.proofs.lemmas.Int.{ints}
use Rattle.std.proofs.lemmas.Bool.{cases_eq, ne_eqb}
use Rattle.std.proofs.lemmas.List.{get_or-map, length-map, get_or-set_same, get_or-set_other, length-set, length_push, get_or_push, get_or_append_left}
use Rattle.cpl_fixed.specs.Amounts.{at}
use Rattle.cpl_fixed.specs.declared.limits.TheConstants.{MOST_AREA}
use Rattle.cpl_mosaic.specs.declared.parts.CellId.{CellId}
use Rattle.cpl_mosaic.specs.declared.parts.Tile.{Tile}
use Rattle.cpl_mosaic.specs.Sides.{IsCellOf, is_same_cell}
use Rattle.cpl_mosaic.specs.Contacts.{cells_of}
use Rattle.cpl_mosaic.specs.Cells.{number_of, cell_of, NumbersAgree}
use Rattle.cpl_xgrid.specs.declared.parts.XRow.{XRow}
use Rattle.cpl_xgrid.specs.Rows.{air_cell, area_of}
use Rattle.cpl_xgrid.specs.Indexes.{AreCells, no_row}
use Rattle.cpl_xgrid.proofs.CellNumbers.{test_agrees, own_cell}
use Rattle.cpl_laws.proofs.Weights.{measured_more, measured_natural, with_own}
use Rattle.cpl_fast.specs.declared.flows.Link.{Link}
use Rattle.cpl_fast.specs.Flows.{link_at, no_link}
use Rattle.cpl_fast.specs.Tables.{AreLinked, CanLink, link_by, row_in}

-- a cell of a row
pub cells_at : (tiles : List Tile) (key : XRow → CellId) (rows : List XRow) (n : ℕ) → n < length rows → AreCells tiles (map key rows) → IsCellOf tiles (key (row_in rows n))
cells_at tiles key rows n l are =
    let none = key no_row in
    let long = length-map rows key in
    subst (IsCellOf tiles) (get_or-map key rows n no_row none l) (are n none (omega arith))

module _ (air tiles : List Tile) (rows : List XRow) (old : List ℤ) (can : CanLink air tiles rows old) (agree : NumbersAgree air) where
  module _ (n : ℕ) (l : n < length rows) (links : List Link) (new : List ℤ) (are : AreLinked air tiles rows n old links new) where
    abbrev here : CellId
    here = (row_in rows n).air

    air_is : IsCellOf air (row_in rows n).air
    air_is = cells_at air air_cell rows n l can.airs

    pub number_below : number_of air (row_in rows n).air < cells_of air
    number_below = agree.below (row_in rows n).air air_is

    -- the area of the exchange cells before it
    pub before_is : at new (number_of air (row_in rows n).air) ≡ at old (number_of air (row_in rows n).air) +ℤ area_of air_cell (row_in rows n).air (take n rows)
    before_is =
        are.areas (number_of air (row_in rows n).air) number_below
        ∙ ap (λ (cell : CellId). at old (number_of air (row_in rows n).air) +ℤ area_of air_cell cell (take n rows)) (agree.cell_number (row_in rows n).air air_is)

    pub before_range : (pos 0 ≤ℤ at new (number_of air (row_in rows n).air)) × (pos 0 ≤ℤ (row_in rows n).area) × ((at new (number_of air (row_in rows n).air) +ℤ (row_in rows n).area) ≤ℤ pos MOST_AREA)
    before_range =
        let cell = number_of air (row_in rows n).air in
        let passes = λ (row : XRow). is_same_cell (air_cell row) (row_in rows n).air in
        let naturals : All (λ (row : XRow). pos 0 ≤ℤ row.area) rows = λ k d h. (can.ranges k d h).0 in
        let b = before_is in
        let start = can.least cell number_below in
        let front = measured_natural passes (λ (row : XRow). row.area) rows naturals n in
        let own = with_own passes (λ (row : XRow). row.area) rows n no_row naturals l (own_cell (row_in rows n).air) in
        let found = ap (λ (c : CellId). at old cell +ℤ area_of air_cell c rows) (agree.cell_number (row_in rows n).air air_is) in
        let most = can.most cell number_below in
        let range = can.ranges n no_row l in
        (omega (arith, ints, b, start, front), range.0, omega (arith, ints, b, own, found, most))

    more_area : (c : ℕ) → c < cells_of air → at (slice_set new (number_of air (row_in rows n).air) (at new (number_of air (row_in rows n).air) +ℤ (row_in rows n).area)) c ≡ at old c +ℤ area_of air_cell (cell_of air c) (take (n + 1) rows)
    more_area c within =
        let cell = number_of air (row_in rows n).air in
        let to = at new cell +ℤ (row_in rows n).area in
        let passes = λ (row : XRow). is_same_cell (air_cell row) (cell_of air c) in
        let next : n + 1 ≡ suc n = omega arith in
        let more = ap (λ (k : ℕ). area_of air_cell (cell_of air c) (take k rows)) next ∙ measured_more passes (λ (row : XRow). row.area) rows n no_row l in
        let was = are.areas c within in
        let test = test_agrees air (row_in rows n).air c agree air_is within in
        elim (cases_eq cell c) [
          | inl same ↦
              let long : cell < length new = (let below = number_below in omega (arith, are.cells, can.cells)) in
              let written = ap (at (slice_set new cell to)) (sym same) ∙ get_or-set_same new cell to (pos 0) long in
              let own : is_same_cell (row_in rows n).air (cell_of air c) ≡ true = sym test ∙ eq-eqb _ _ same in
              let added = ap (λ (b : Bool). cond b (row_in rows n).area (pos 0)) own in
              let same_old = ap (at new) same in
              omega (arith, ints, written, more, added, was, same_old)
          | inr other ↦
              let written = get_or-set_other new cell c to (pos 0) (λ s. other (sym s)) in
              let none : is_same_cell (row_in rows n).air (cell_of air c) ≡ false = sym test ∙ ne_eqb _ _ other in
              let added = ap (λ (b : Bool). cond b (row_in rows n).area (pos 0)) none in
              omega (arith, ints, written, more, added, was)
        ]

    pub linked_more : (cell surface : ℕ) (before to : ℤ) → cell ≡ number_of air (row_in rows n).air → surface ≡ number_of tiles (row_in rows n).other
        → before ≡ at new (number_of air (row_in rows n).air) → to ≡ at new (number_of air (row_in rows n).air) +ℤ (row_in rows n).area
        → AreLinked air tiles rows (n + 1) old (links ++ record { air = cell; surface = surface; before = before } ∷ []) (slice_set new cell to)
    linked_more cell surface before to cell_e surface_e before_e to_e =
        let link : Link = record { air = cell; surface = surface; before = before } in
        let own : link ≡ link_by air tiles rows (at old) n = λ i. record { air = cell_e i; surface = surface_e i; before = (before_e ∙ before_is) i } in
        let whole : slice_set new cell to ≡ slice_set new (number_of air (row_in rows n).air) (at new (number_of air (row_in rows n).air) +ℤ (row_in rows n).area) = λ i. slice_set new (cell_e i) (to_e i) in
        let count = are.count in
        subst (λ (areas : List ℤ). AreLinked air tiles rows (n + 1) old (links ++ link ∷ []) areas) (sym whole) (record {
          count = length_push links link ∙ ap (λ (k : ℕ). k + 1) are.count;
          each = below_more (λ m. link_at (links ++ link ∷ []) m ≡ link_by air tiles rows (at old) m) n
              (λ m h. get_or_append_left links (link ∷ []) no_link m (omega arith) ∙ are.each m h)
              (get_or_push links link no_link n count ∙ own);
          cells = length-set new (number_of air (row_in rows n).air) _ ∙ are.cells;
          areas = more_area;
        })
