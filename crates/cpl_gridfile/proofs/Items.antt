-- The lines of exchange cells and outlets.
use Rattle.std.proofs.Common.{◌≡◌, ◌∙◌, refl, sym, ap, ℕ, zero, suc, ◌&&◌, List, [], ◌∷◌, ◌++◌, length, map, codes, Some, true, All, arith, leb, append_assoc, pos}
use Rattle.std.proofs.lemmas.Bool.{le-leb, leb-true, and_parts, and_from}
use Rattle.std.proofs.lemmas.Bool.Decides.{nat_tests}
use Rattle.std.proofs.lemmas.List.{append-nil}
use Rattle.std.proofs.lemmas.List.Elements.{All-nil, All-cons, All-head, All-tail}
use Rattle.cpl_fixed.specs.declared.limits.TheConstants.{MOST_AREA, MOST_WEIGHT}
use Rattle.cpl_mosaic.specs.declared.parts.CellId.{CellId}
use Rattle.cpl_xgrid.specs.declared.parts.XRow.{XRow}
use Rattle.cpl_xgrid.specs.declared.parts.Outlet.{Outlet}
use Rattle.cpl_lines.specs.Lines.{Line, IsOfForm, row_form, at}
use Rattle.cpl_lines.proofs.Turns.{InOrder}
use Rattle.cpl_lines.proofs.Paths.{Leads}
use Rattle.cpl_lines.proofs.RowForms.{line_is}
use Rattle.cpl_gridfile.specs.declared.next_line.GridKind.{GridKind}
use Rattle.cpl_gridfile.specs.declared.next_line.GridList.{GridList}
use Rattle.cpl_gridfile.specs.declared.next_line.GridList.TheVariants as list
use Rattle.cpl_gridfile.specs.GridFormat.{Parts, grid_format, item_word, next_item, after_list, with_item, cell_of, row_of, outlet_of, cell_keeps_limits, most_amount}
use Rattle.cpl_gridfile.specs.Within.{IsAmount, CellIsWithin, RowIsWithin, OutletIsWithin}
use Rattle.cpl_gridfile.specs.CoupledGrid.{row_line, outlet_line}
use Rattle.cpl_gridfile.proofs.Bounds.{amount_is, amount_from}

-- a line of an item of this list, within the limits
pub record IsItem (list : GridList) (line : Line) : Type 0 where
  pub form : IsOfForm (Some (row_form (item_word list) 7)) line
  pub keeps : (cell_keeps_limits (cell_of line 0) && cell_keeps_limits (cell_of line 3) && leb (at line 6) (most_amount list)) ≡ true

-- ---- items lead to the end of their list

abbrev pub with_items : GridList → List Line → Parts → Parts
with_items list [] parts = parts
with_items list (line ∷ lines) parts = with_items list lines (with_item list line parts)

pub items_lead : (kind : GridKind) (list : GridList) (total : ℕ) (lines : List Line) (parts : Parts) → All (IsItem list) lines
    → Leads (grid_format kind) (next_item list total (length lines)) parts lines (after_list list total) (with_items list lines parts)
items_lead kind list total [] parts each = (refl, refl)
items_lead kind list total (line ∷ lines) parts each =
    let is = All-head (IsItem list) line lines each in
    (is.form, is.keeps, items_lead kind list total lines (with_item list line parts) (All-tail (IsItem list) line lines each))

-- ---- items in order

pub record ItemsFront (kind : GridKind) (list : GridList) (total more : ℕ) (lines : List Line) : Type 0 where
  pub items : List Line
  pub rest : List Line
  pub number : length items ≡ more
  pub each : All (IsItem list) items
  pub order : InOrder (grid_format kind) (after_list list total) rest
  pub text : lines ≡ items ++ rest

pub items_front : (kind : GridKind) (list : GridList) (total more : ℕ) (lines : List Line) → InOrder (grid_format kind) (next_item list total more) lines
    → ItemsFront kind list total more lines
items_front kind list total zero lines order = record { items = []; rest = lines; number = refl; each = All-nil (IsItem list); order = order; text = refl }
items_front kind list total (suc more) [] order = absurd cc
items_front kind list total (suc more) (line ∷ lines) order =
    let others = items_front kind list total more lines order.2 in
    record {
      items = line ∷ others.items;
      rest = others.rest;
      number = ap suc others.number;
      each = All-cons (IsItem list) line others.items (record { form = order.0; keeps = order.1 }) others.each;
      order = others.order;
      text = ap (λ (l : List Line). line ∷ l) others.text;
    }

-- ---- cells

cell_keeps : (cell : CellId) → CellIsWithin cell → cell_keeps_limits cell ≡ true
cell_keeps cell within = grind (arith, nat_tests)

cell_within : (cell : CellId) → cell_keeps_limits cell ≡ true → CellIsWithin cell
cell_within cell keeps = record { tile = grind (arith, nat_tests); i = grind (arith, nat_tests); j = grind (arith, nat_tests) }

-- what the limits of an item say
record ItemKeeps (list : GridList) (line : Line) : Type 0 where
  from : CellIsWithin (cell_of line 0)
  to : CellIsWithin (cell_of line 3)
  amount : IsAmount (most_amount list) (pos (at line 6))

item_keeps : (list : GridList) (line : Line) → IsItem list line → ItemKeeps list line
item_keeps list line is =
    let p = and_parts (cell_keeps_limits (cell_of line 0) && cell_keeps_limits (cell_of line 3)) (leb (at line 6) (most_amount list)) is.keeps in
    let q = and_parts (cell_keeps_limits (cell_of line 0)) (cell_keeps_limits (cell_of line 3)) p.0 in
    record {
      from = cell_within (cell_of line 0) q.0;
      to = cell_within (cell_of line 3) q.1;
      amount = amount_from (most_amount list) (at line 6) (leb-true (at line 6) (most_amount list) p.1);
    }

-- ---- exchange cells

pub row_is_item : (x : XRow) → RowIsWithin x → IsItem list.Land (row_line x)
row_is_item x within =
    let amount = (amount_is MOST_AREA x.area within.area).0 in
    record {
      form = (
        refl,
        (
          omega (arith, within.air.tile),
          (
            omega (arith, within.air.i),
            (
              omega (arith, within.air.j),
              (omega (arith, within.other.tile), (omega (arith, within.other.i), (omega (arith, within.other.j), (omega (arith, amount), tt)))),
            ),
          ),
        ),
      );
      keeps = and_from _ _ (and_from _ _ (cell_keeps x.air within.air) (cell_keeps x.other within.other)) (le-leb _ MOST_AREA amount);
    }

pub row_again : (x : XRow) → RowIsWithin x → row_of (row_line x) ≡ x
row_again x within =
    let amount = (amount_is MOST_AREA x.area within.area).1 in
    λ i. record { air = x.air; other = x.other; area = amount i }

pub rows_are_items : (rows : List XRow) → All RowIsWithin rows → All (IsItem list.Land) (map row_line rows)
rows_are_items [] each = All-nil (IsItem list.Land)
rows_are_items (x ∷ rows) each =
    All-cons (IsItem list.Land) (row_line x) (map row_line rows) (row_is_item x (All-head RowIsWithin x rows each)) (rows_are_items rows (All-tail RowIsWithin x rows each))

-- the exchange cells that lines tell
pub rows_again : (rows : List XRow) → All RowIsWithin rows → map row_of (map row_line rows) ≡ rows
rows_again [] each = refl
rows_again (x ∷ rows) each =
    let first = row_again x (All-head RowIsWithin x rows each) in
    let others = rows_again rows (All-tail RowIsWithin x rows each) in
    λ i. first i ∷ others i

pub rows_back : (lines : List Line) → All (IsItem list.Land) lines → lines ≡ map row_line (map row_of lines)
rows_back [] each = refl
rows_back (line ∷ lines) each =
    let first = line_is (row_form (codes "x") 7) line (All-head (IsItem list.Land) line lines each).form in
    let others = rows_back lines (All-tail (IsItem list.Land) line lines each) in
    λ i. first i ∷ others i

pub rows_within : (lines : List Line) → All (IsItem list.Land) lines → All RowIsWithin (map row_of lines)
rows_within [] each = All-nil RowIsWithin
rows_within (line ∷ lines) each =
    let keeps = item_keeps list.Land line (All-head (IsItem list.Land) line lines each) in
    All-cons RowIsWithin (row_of line) (map row_of lines) (record { air = keeps.from; other = keeps.to; area = keeps.amount })
    (rows_within lines (All-tail (IsItem list.Land) line lines each))

-- items of the ocean's list are as those of the land's
pub of_land : (lines : List Line) → All (IsItem list.Ocean) lines → All (IsItem list.Land) lines
of_land [] each = All-nil (IsItem list.Land)
of_land (line ∷ lines) each =
    let is = All-head (IsItem list.Ocean) line lines each in
    All-cons (IsItem list.Land) line lines (record { form = is.form; keeps = is.keeps }) (of_land lines (All-tail (IsItem list.Ocean) line lines each))

pub of_ocean : (lines : List Line) → All (IsItem list.Land) lines → All (IsItem list.Ocean) lines
of_ocean [] each = All-nil (IsItem list.Ocean)
of_ocean (line ∷ lines) each =
    let is = All-head (IsItem list.Land) line lines each in
    All-cons (IsItem list.Ocean) line lines (record { form = is.form; keeps = is.keeps }) (of_ocean lines (All-tail (IsItem list.Land) line lines each))

-- ---- outlets

outlet_is_item : (o : Outlet) → OutletIsWithin o → IsItem list.Outlets (outlet_line o)
outlet_is_item o within =
    let amount = (amount_is MOST_WEIGHT o.weight within.weight).0 in
    record {
      form = (
        refl,
        (
          omega (arith, within.land.tile),
          (
            omega (arith, within.land.i),
            (
              omega (arith, within.land.j),
              (omega (arith, within.ocean.tile), (omega (arith, within.ocean.i), (omega (arith, within.ocean.j), (omega (arith, amount), tt)))),
            ),
          ),
        ),
      );
      keeps = and_from _ _ (and_from _ _ (cell_keeps o.land within.land) (cell_keeps o.ocean within.ocean)) (le-leb _ MOST_WEIGHT amount);
    }

outlet_again : (o : Outlet) → OutletIsWithin o → outlet_of (outlet_line o) ≡ o
outlet_again o within =
    let amount = (amount_is MOST_WEIGHT o.weight within.weight).1 in
    λ i. record { land = o.land; ocean = o.ocean; weight = amount i }

pub outlets_are_items : (outlets : List Outlet) → All OutletIsWithin outlets → All (IsItem list.Outlets) (map outlet_line outlets)
outlets_are_items [] each = All-nil (IsItem list.Outlets)
outlets_are_items (o ∷ outlets) each =
    All-cons (IsItem list.Outlets) (outlet_line o) (map outlet_line outlets) (outlet_is_item o (All-head OutletIsWithin o outlets each))
    (outlets_are_items outlets (All-tail OutletIsWithin o outlets each))

pub outlets_again : (outlets : List Outlet) → All OutletIsWithin outlets → map outlet_of (map outlet_line outlets) ≡ outlets
outlets_again [] each = refl
outlets_again (o ∷ outlets) each =
    let first = outlet_again o (All-head OutletIsWithin o outlets each) in
    let others = outlets_again outlets (All-tail OutletIsWithin o outlets each) in
    λ i. first i ∷ others i

pub outlets_back : (lines : List Line) → All (IsItem list.Outlets) lines → lines ≡ map outlet_line (map outlet_of lines)
outlets_back [] each = refl
outlets_back (line ∷ lines) each =
    let first = line_is (row_form (codes "o") 7) line (All-head (IsItem list.Outlets) line lines each).form in
    let others = outlets_back lines (All-tail (IsItem list.Outlets) line lines each) in
    λ i. first i ∷ others i

pub outlets_within : (lines : List Line) → All (IsItem list.Outlets) lines → All OutletIsWithin (map outlet_of lines)
outlets_within [] each = All-nil OutletIsWithin
outlets_within (line ∷ lines) each =
    let keeps = item_keeps list.Outlets line (All-head (IsItem list.Outlets) line lines each) in
    All-cons OutletIsWithin (outlet_of line) (map outlet_of lines) (record { land = keeps.from; ocean = keeps.to; weight = keeps.amount })
    (outlets_within lines (All-tail (IsItem list.Outlets) line lines each))

-- ---- what items add

pub land_added : (lines : List Line) (parts : Parts) → with_items list.Land lines parts ≡ record parts { land_rows = parts.land_rows ++ map row_of lines }
land_added [] parts = let same : parts.land_rows ≡ parts.land_rows ++ [] = sym (append-nil parts.land_rows) in λ i. record parts { land_rows = same i }
land_added (line ∷ lines) parts =
    let same = append_assoc parts.land_rows (row_of line ∷ []) (map row_of lines) in
    land_added lines (with_item list.Land line parts) ∙ λ i. record parts { land_rows = same i }

pub ocean_added : (lines : List Line) (parts : Parts) → with_items list.Ocean lines parts ≡ record parts { ocean_rows = parts.ocean_rows ++ map row_of lines }
ocean_added [] parts = let same : parts.ocean_rows ≡ parts.ocean_rows ++ [] = sym (append-nil parts.ocean_rows) in λ i. record parts { ocean_rows = same i }
ocean_added (line ∷ lines) parts =
    let same = append_assoc parts.ocean_rows (row_of line ∷ []) (map row_of lines) in
    ocean_added lines (with_item list.Ocean line parts) ∙ λ i. record parts { ocean_rows = same i }

pub outlets_added : (lines : List Line) (parts : Parts) → with_items list.Outlets lines parts ≡ record parts { outlets = parts.outlets ++ map outlet_of lines }
outlets_added [] parts = let same : parts.outlets ≡ parts.outlets ++ [] = sym (append-nil parts.outlets) in λ i. record parts { outlets = same i }
outlets_added (line ∷ lines) parts =
    let same = append_assoc parts.outlets (outlet_of line ∷ []) (map outlet_of lines) in
    outlets_added lines (with_item list.Outlets line parts) ∙ λ i. record parts { outlets = same i }
