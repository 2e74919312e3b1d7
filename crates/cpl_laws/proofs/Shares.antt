-- The shares of an amount at the elements of a cell of the air are the amount together, and none is negative.
use Rattle.std.proofs.Common.{◌≡◌, ◌∙◌, refl, sym, ap, subst, Bool, cond, ℕ, zero, suc, ◌+◌, ◌<◌, ◌≤◌, arith, List, [], ◌∷◌, map, length, get_or, take}
use Rattle.std.specs.Prelude.{ℤ, pos, negsuc, ◌+ℤ◌, ◌-ℤ◌, ◌≤ℤ◌, ◌<ℤ◌, All}
use Rattle.std.proofs.lemmas.Int.{ints}
use Rattle.std.proofs.lemmas.List.{take_all}
use Rattle.cpl_fixed.specs.Amounts.{at}
use Rattle.cpl_fixed.specs.Totals.{total_of}
use Rattle.cpl_fixed.specs.Shares.{part_of, share, CanShare}
use Rattle.cpl_fixed.proofs.Parts.{part_grows, part_pos}
use Rattle.cpl_fixed.proofs.ShareLaws.{shares_agree, total_more, total_front}
use Rattle.cpl_mosaic.specs.declared.parts.CellId.{CellId}
use Rattle.cpl_mosaic.specs.Sides.{is_same_cell}
use Rattle.cpl_mosaic.specs.Cells.{cell_of}
use Rattle.cpl_xgrid.specs.declared.grid.Grid.{Grid}
use Rattle.cpl_xgrid.specs.declared.parts.XRow.{XRow}
use Rattle.cpl_xgrid.specs.declared.parts.XRef.{XRef}
use Rattle.cpl_xgrid.specs.declared.parts.Surface.{Surface}
use Rattle.cpl_xgrid.specs.declared.parts.Surface.TheVariants.{Land, Ocean}
use Rattle.cpl_xgrid.specs.Lists.{IsArea}
use Rattle.cpl_xgrid.specs.Rows.{air_cell, numbers_of, area_of}
use Rattle.cpl_xgrid.specs.Indexes.{no_row}
use Rattle.cpl_state.specs.declared.whole.Whole.{Whole}
use Rattle.cpl_state.specs.Diffusion.{IsAirMesh}
use Rattle.cpl_state.specs.States.{air_cells, IsWhole}
use Rattle.cpl_state.specs.Elements.{row_at, air_number, refs_of_air_cell, refs_between, element_count, areas_in, element_area, over_elements, over_all, rows_before, area_before, share_at}
use Rattle.cpl_diffusion.proofs.Sums.{sum_to}
use Rattle.cpl_diffusion.proofs.Conserved.{area_at}
use Rattle.cpl_laws.specs.Once.{IsNumbered}
use Rattle.cpl_laws.proofs.Sums.{total_range}
use Rattle.cpl_laws.proofs.Groups.{total_same}
use Rattle.cpl_laws.proofs.Weights.{measured_more, measured_natural, running}
use Rattle.cpl_laws.proofs.Once.{refs_total}
use Rattle.cpl_laws.proofs.Elements.{ref_in, rows_in, row_of, each_between, air_below, air_found, air_total, air_area}
use Rattle.cpl_laws.proofs.Areas.{areas_are, element_natural}

-- a share between running sums in order isn't negative
pub share_least : (x from to whole : ℤ) → pos 0 ≤ℤ x → pos 0 ≤ℤ from → from ≤ℤ to → pos 0 <ℤ whole → pos 0 ≤ℤ share x from to whole
share_least (pos x) (pos from) (pos to) (pos whole) x_least least order some =
    let upto = part_pos x to whole in
    let before = part_pos x from whole in
    let less = part_grows x from to whole (omega (arith, ints, some)) (omega (arith, ints, order)) in
    omega (arith, ints, upto, before, less)
share_least (negsuc x) from to whole x_least least order some = absurd (omega (arith, ints, x_least))
share_least x (negsuc from) to whole x_least least order some = absurd (omega (arith, ints, least))
share_least x (pos from) (negsuc to) whole x_least least order some = absurd (omega (arith, ints, order))
share_least x from to (negsuc whole) x_least least order some = absurd (omega (arith, ints, some))

-- the share of all is all
all_natural : (x : ℤ) → pos 0 ≤ℤ x → All (λ x. pos 0 ≤ℤ x) (x ∷ [])
all_natural x h zero d l = h
all_natural x h (suc k) d l = absurd (omega arith)

pub share_whole : (x whole : ℤ) → pos 0 ≤ℤ x → pos 0 <ℤ whole → part_of x whole whole -ℤ part_of x (pos 0) whole ≡ x
share_whole x whole least some =
    let can : CanShare x (whole ∷ []) = record { amount_least = least; each = all_natural whole (omega (arith, ints, some)); some = omega (arith, ints, some) } in
    let sum = (shares_agree x (whole ∷ []) can).total in
    let left : pos 0 +ℤ whole ≡ whole = omega (arith, ints) in
    let right : whole +ℤ pos 0 ≡ whole = omega (arith, ints) in
    let same : share x (pos 0) (pos 0 +ℤ whole) (whole +ℤ pos 0) ≡ share x (pos 0) whole whole = λ i. share x (pos 0) (left i) (right i) in
    omega (arith, ints, sum, same)

-- what stands between running sums, summed up
steps : (x start whole : ℤ) (areas : List ℤ) (n : ℕ) → n ≤ length areas
    → sum_to (λ k. share x (start +ℤ total_of (take k areas)) (start +ℤ total_of (take k areas) +ℤ at areas k) whole) n ≡ part_of x (start +ℤ total_of (take n areas)) whole -ℤ part_of x start whole
steps x start whole areas zero l =
    let none : start +ℤ pos 0 ≡ start = omega (arith, ints) in
    let same = ap (λ (z : ℤ). part_of x z whole) none in
    omega (arith, ints, same)
steps x start whole areas (suc n) l =
    let before = steps x start whole areas n (omega arith) in
    let e : n + 1 ≡ suc n = omega arith in
    let more = ap (λ (k : ℕ). total_of (take k areas)) (sym e) ∙ total_more areas n (omega arith) in
    let next : start +ℤ total_of (take n areas) +ℤ at areas n ≡ start +ℤ total_of (take (suc n) areas) = omega (arith, ints, more) in
    let same = ap (λ (z : ℤ). part_of x z whole) next in
    omega (arith, ints, before, same)

-- the areas of the exchange cells of a cell, one after another
module _ (key : XRow → CellId) (cell : CellId) (rows : List XRow) where
  abbrev of_this : XRow → Bool
  of_this row = is_same_cell (key row) cell

  area_more : (k : ℕ) → k < length rows
      → area_of key cell (take (suc k) rows) ≡ area_of key cell (take k rows) +ℤ cond (is_same_cell (key (get_or rows k no_row)) cell) (get_or rows k no_row).area (pos 0)
  area_more k l = measured_more of_this (λ row. row.area) rows k no_row l

  area_natural : All (λ (row : XRow). IsArea row.area) rows → (k : ℕ) → pos 0 ≤ℤ area_of key cell (take k rows)
  area_natural are k = measured_natural of_this (λ row. row.area) rows (λ j d l. (are j d l).0) k

module _ (grid : Grid) (is : IsNumbered grid) (whole : Whole) (lawful : IsWhole grid whole) where
  lands : (cell : CellId) (k : ℕ) → pos 0 ≤ℤ area_of air_cell cell (take k grid.xgrid.land_rows)
  lands cell k = area_natural air_cell cell grid.xgrid.land_rows is.rules.rows.land k

  pub all_lands : (cell : CellId) → pos 0 ≤ℤ area_of air_cell cell grid.xgrid.land_rows
  all_lands cell = subst (λ (rows : List XRow). pos 0 ≤ℤ area_of air_cell cell rows) (take_all (length grid.xgrid.land_rows) grid.xgrid.land_rows (omega arith)) (lands cell (length grid.xgrid.land_rows))

  -- an element comes after areas that aren't negative
  pub rows_natural : (list : Surface) (ref : XRef) → pos 0 ≤ℤ rows_before grid ref list
  rows_natural Land ref = lands (row_at grid ref).air ref.row
  rows_natural Ocean ref =
      let a = all_lands (row_at grid ref).air in
      let b = area_natural air_cell (row_at grid ref).air grid.xgrid.ocean_rows is.rules.rows.ocean ref.row in
      omega (arith, ints, a, b)

  -- a share at an element isn't negative
  pub share_natural : IsAirMesh grid.air → (x : ℤ) → pos 0 ≤ℤ x → (list : Surface) (m k : ℕ) → m < length (rows_in grid is list) → pos 0 ≤ℤ share_at grid whole x (ref_in list m) k
  unfolding share_at area_before
  share_natural air x least list m k l =
      let ref = ref_in list m in
      let area = area_at grid.air air (air_number grid ref) (air_below grid is list m l) in
      let a = rows_natural list ref in
      let b = total_front (areas_in grid whole ref) k (areas_are grid is whole lawful list m l).least in
      let d = element_natural grid is whole lawful list m k l in
      share_least x (area_before grid whole ref k) (area_before grid whole ref k +ℤ element_area grid whole ref k) (at grid.air.area (air_number grid ref)) least (omega (arith, ints, a, b.0)) (omega (arith, ints, d)) area.0

  module _ (air : IsAirMesh grid.air) (x : ℤ) (least : pos 0 ≤ℤ x) (n : ℕ) (within : n < air_cells grid) where
    cell : CellId
    cell = cell_of grid.air.mosaic.tiles n

    abbrev part : ℤ → ℤ
    part z = part_of x z (at grid.air.area n)

    -- the areas before an exchange cell
    abbrev before : Surface → ℕ → ℤ
    before Land m = area_of air_cell (cell_of grid.air.mosaic.tiles n) (take m grid.xgrid.land_rows)
    before Ocean m = area_of air_cell (cell_of grid.air.mosaic.tiles n) grid.xgrid.land_rows +ℤ area_of air_cell (cell_of grid.air.mosaic.tiles n) (take m grid.xgrid.ocean_rows)

    before_is : (list : Surface) (m : ℕ) → cell_of grid.air.mosaic.tiles n ≡ (row_of grid is list m).air → rows_before grid (ref_in list m) list ≡ before list m
    before_is Land m e = ap (λ (c : CellId). area_of air_cell c (take m grid.xgrid.land_rows)) (sym e)
    before_is Ocean m e = ap (λ (c : CellId). area_of air_cell c grid.xgrid.land_rows +ℤ area_of air_cell c (take m grid.xgrid.ocean_rows)) (sym e)

    before_more : (list : Surface) (k : ℕ) → k < length (rows_in grid is list)
        → before list (0 + suc k) ≡ before list (0 + k) +ℤ cond (is_same_cell (air_cell (row_of grid is list k)) (cell_of grid.air.mosaic.tiles n)) (row_of grid is list (0 + k)).area (pos 0)
    before_more Land k l =
        let a : 0 + suc k ≡ suc k = omega arith in
        let b : k ≡ 0 + k = omega arith in
        ap (before Land) a ∙ area_more air_cell (cell_of grid.air.mosaic.tiles n) grid.xgrid.land_rows k l
        ∙ (λ i. before Land (b i) +ℤ cond (is_same_cell (air_cell (row_of grid is Land k)) (cell_of grid.air.mosaic.tiles n)) (row_of grid is Land (b i)).area (pos 0))
    before_more Ocean k l =
        let a : 0 + suc k ≡ suc k = omega arith in
        let b : k ≡ 0 + k = omega arith in
        let more = area_more air_cell (cell_of grid.air.mosaic.tiles n) grid.xgrid.ocean_rows k l in
        let step : before Ocean (suc k) ≡ before Ocean k +ℤ cond (is_same_cell (air_cell (row_of grid is Ocean k)) (cell_of grid.air.mosaic.tiles n)) (row_of grid is Ocean k).area (pos 0) = omega (arith, ints, more) in
        ap (before Ocean) a ∙ step
        ∙ (λ i. before Ocean (b i) +ℤ cond (is_same_cell (air_cell (row_of grid is Ocean k)) (cell_of grid.air.mosaic.tiles n)) (row_of grid is Ocean (b i)).area (pos 0))

    -- the shares of the elements of an exchange cell
    of_row : (list : Surface) (m : ℕ) → m < length (rows_in grid is list) → air_number grid (ref_in list m) ≡ n
        → over_elements grid (share_at grid whole x) (ref_in list m) ≡ part (before list m +ℤ (row_of grid is list m).area) -ℤ part (before list m)
    unfolding share_at area_before
    of_row list m l e =
        let are = areas_are grid is whole lawful list m l in
        let areas = areas_in grid whole (ref_in list m) in
        let count = element_count grid list in
        let start = rows_before grid (ref_in list m) list in
        let area = ap (at grid.air.area) e in
        let all : take (length areas) areas ≡ areas = take_all (length areas) areas (omega arith) in
        let same_cell = ap (cell_of grid.air.mosaic.tiles) (sym e) ∙ air_found grid is list m l in
        let own : start +ℤ total_of (take (length areas) areas) ≡ before list m +ℤ (row_of grid is list m).area =
        (λ i. before_is list m same_cell i +ℤ (ap total_of all ∙ are.total) i) in
        total_range (share_at grid whole x (ref_in list m)) count
        ∙ ap (λ (a : ℤ). sum_to (λ k. share x (start +ℤ total_of (take k areas)) (start +ℤ total_of (take k areas) +ℤ at areas k) a) count) area
        ∙ ap (sum_to (λ k. share x (start +ℤ total_of (take k areas)) (start +ℤ total_of (take k areas) +ℤ at areas k) (at grid.air.area n))) (sym are.count)
        ∙ steps x start (at grid.air.area n) areas (length areas) (omega arith)
        ∙ (λ i. part (own i) -ℤ part (before_is list m same_cell i))

    of_numbers : (list : Surface) → total_of (map (λ (ref : XRef). part (before ref.list ref.row +ℤ (row_at grid ref).area) -ℤ part (before ref.list ref.row)) (refs_between grid list n)) ≡ part (before list (0 + length (rows_in grid is list))) -ℤ part (before list 0)
    unfolding refs_between
    of_numbers list =
        refs_total (λ (ref : XRef). part (before ref.list ref.row +ℤ (row_at grid ref).area) -ℤ part (before ref.list ref.row)) list (numbers_of air_cell (cell_of grid.air.mosaic.tiles n) (rows_in grid is list))
        ∙ running part (before list) (λ m. (row_of grid is list m).area) (λ row. is_same_cell (air_cell row) (cell_of grid.air.mosaic.tiles n)) no_row 0 (rows_in grid is list) (before_more list)

    -- those of all exchange cells of a list
    of_list : (list : Surface) → total_of (map (over_elements grid (share_at grid whole x)) (refs_between grid list n)) ≡ part (before list (0 + length (rows_in grid is list))) -ℤ part (before list 0)
    of_list list =
        let f = λ (ref : XRef). part (before ref.list ref.row +ℤ (row_at grid ref).area) -ℤ part (before ref.list ref.row) in
        total_same (over_elements grid (share_at grid whole x)) f (refs_between grid list n)
        (each_between grid is (λ ref. over_elements grid (share_at grid whole x) ref ≡ f ref) list n within (λ m l e. of_row list m l e))
        ∙ of_numbers list

    -- all shares are the amount
    pub share_total : over_all grid (share_at grid whole x) (refs_of_air_cell grid n) ≡ x
    share_total =
        let area = area_at grid.air air n within in
        let lands : before Land (0 + length grid.xgrid.land_rows) ≡ area_of air_cell (cell_of grid.air.mosaic.tiles n) grid.xgrid.land_rows =
        ap (area_of air_cell (cell_of grid.air.mosaic.tiles n)) (ap (λ (k : ℕ). take k grid.xgrid.land_rows) (let e : 0 + length grid.xgrid.land_rows ≡ length grid.xgrid.land_rows = omega arith in e) ∙ take_all (length grid.xgrid.land_rows) grid.xgrid.land_rows (omega arith)) in
        let oceans : area_of air_cell (cell_of grid.air.mosaic.tiles n) (take (0 + length grid.xgrid.ocean_rows) grid.xgrid.ocean_rows) ≡ area_of air_cell (cell_of grid.air.mosaic.tiles n) grid.xgrid.ocean_rows =
        ap (area_of air_cell (cell_of grid.air.mosaic.tiles n)) (ap (λ (k : ℕ). take k grid.xgrid.ocean_rows) (let e : 0 + length grid.xgrid.ocean_rows ≡ length grid.xgrid.ocean_rows = omega arith in e) ∙ take_all (length grid.xgrid.ocean_rows) grid.xgrid.ocean_rows (omega arith)) in
        let all = air_area grid is n within in
        let last : before Ocean (0 + length grid.xgrid.ocean_rows) ≡ at grid.air.area n = omega (arith, ints, oceans, all) in
        let none : before Land 0 ≡ pos 0 = refl in
        let middle : before Ocean 0 ≡ before Land (0 + length grid.xgrid.land_rows) = omega (arith, ints, lands) in
        let whole_share = share_whole x (at grid.air.area n) least area.0 in
        let land = of_list Land in
        let ocean = of_list Ocean in
        let a = ap part last in
        let b = ap part none in
        let c = ap part middle in
        air_total grid is (over_elements grid (share_at grid whole x)) n ∙ omega (arith, ints, land, ocean, a, b, c, whole_share)
