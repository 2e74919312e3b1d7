-- The outlets of a grid as drains, one after another.
use Rattle.std.proofs.Common.{◌≡◌, ◌≢◌, ◌∙◌, sym, ap, subst, Bool, true, false, cond, ℕ, suc, ◌+◌, ◌*◌, ◌<◌, ◌++◌, arith, below_more, inl, inr, eq-eqb, List, [], ◌∷◌, length, take}
use Rattle.std.specs.Prelude.{ℤ, pos, ◌+ℤ◌, ◌≤ℤ◌, slice_set}
use Rattle.std.proofs.lemmas.Int.{ints}
use Rattle.std.proofs.lemmas.Bool.{cases_eq, ne_eqb}
use Rattle.std.proofs.lemmas.List.{get_or-set_same, get_or-set_other, length-set, length_push, get_or_push, get_or_append_left, take_all}
use Rattle.cpl_fixed.specs.Amounts.{at}
use Rattle.cpl_mosaic.specs.Sides.{is_same_cell}
use Rattle.cpl_mosaic.specs.Cells.{number_of, cell_of, NumbersAgree}
use Rattle.cpl_xgrid.specs.declared.grid.Grid.{Grid}
use Rattle.cpl_xgrid.specs.declared.parts.Outlet.{Outlet}
use Rattle.cpl_xgrid.specs.Grids.{IsGrid}
use Rattle.cpl_xgrid.proofs.CellNumbers.{test_agrees}
use Rattle.cpl_laws.proofs.Outlets.{outlet_in}
use Rattle.cpl_laws.proofs.Weights.{measured_more, measured_natural}
use Rattle.cpl_state.specs.States.{land_cells}
use Rattle.cpl_state.specs.Slow.{no_outlet, outlet_at, drained_cell, weight_before, weights_of}
use Rattle.cpl_slow.specs.declared.drains.Drain.{Drain}
use Rattle.cpl_slow.specs.Drains.{AreDrainsTo, IsDrain, drain_at}
use Rattle.cpl_slow.proofs.Weights.{weights_most}

module _ (grid : Grid) (is : IsGrid grid) (agree : NumbersAgree grid.land.mosaic.tiles) (n : ℕ) (l : n < length grid.xgrid.outlets) (each : List Drain) (weights : List ℤ) (are : AreDrainsTo grid n each weights) where
  land_is : number_of grid.land.mosaic.tiles (outlet_at grid n).land < land_cells grid
  land_is = agree.below (outlet_at grid n).land (outlet_in grid is n l).land_cell

  -- the weights of the outlets of its land cell that come before it
  before_is : (land : ℕ) → land ≡ number_of grid.land.mosaic.tiles (outlet_at grid n).land → at weights land ≡ weights_of (outlet_at grid n).land (take n grid.xgrid.outlets)
  before_is land e =
      ap (at weights) e ∙ are.weights_are (number_of grid.land.mosaic.tiles (outlet_at grid n).land) land_is
      ∙ ap (λ cell. weights_of cell (take n grid.xgrid.outlets)) (agree.cell_number (outlet_at grid n).land (outlet_in grid is n l).land_cell)

  -- they are in range
  pub before_range : (land : ℕ) → land ≡ number_of grid.land.mosaic.tiles (outlet_at grid n).land → (pos 0 ≤ℤ at weights land) × (at weights land ≤ℤ pos (1048576 * n))
  before_range land e =
      let least = measured_natural (λ (outlet : Outlet). is_same_cell outlet.land (outlet_at grid n).land) (λ (outlet : Outlet). outlet.weight) grid.xgrid.outlets (λ k d h. (is.outlets.each k d h).0) n in
      let most = weights_most (outlet_at grid n).land grid.xgrid.outlets is.outlets.each n in
      let b = before_is land e in
      (omega (arith, ints, least, b), omega (arith, ints, most, b))

  more_weight : (land : ℕ) → land ≡ number_of grid.land.mosaic.tiles (outlet_at grid n).land → (c : ℕ) → c < land_cells grid
      → at (slice_set weights land (at weights land +ℤ (outlet_at grid n).weight)) c ≡ weights_of (cell_of grid.land.mosaic.tiles c) (take (n + 1) grid.xgrid.outlets)
  more_weight land e c within =
      let cell = (outlet_at grid n).land in
      let here = cell_of grid.land.mosaic.tiles c in
      let to = at weights land +ℤ (outlet_at grid n).weight in
      let next : n + 1 ≡ suc n = omega arith in
      let more = ap (λ (k : ℕ). weights_of here (take k grid.xgrid.outlets)) next ∙ measured_more (λ (outlet : Outlet). is_same_cell outlet.land here) (λ (outlet : Outlet). outlet.weight) grid.xgrid.outlets n no_outlet l in
      let old = are.weights_are c within in
      let test = test_agrees grid.land.mosaic.tiles cell c agree (outlet_in grid is n l).land_cell within in
      elim (cases_eq land c) [
        | inl same ↦
            let long : land < length weights = omega (arith, are.cells, land_is, e) in
            let written = ap (at (slice_set weights land to)) (sym same) ∙ get_or-set_same weights land to (pos 0) long in
            let own : is_same_cell cell here ≡ true = sym test ∙ eq-eqb _ _ (sym e ∙ same) in
            let added = ap (λ (b : Bool). cond b (outlet_at grid n).weight (pos 0)) own in
            let same_old = ap (at weights) same in
            omega (arith, ints, written, more, added, old, same_old)
        | inr other ↦
            let ne : c ≢ land = λ s. other (sym s) in
            let written = get_or-set_other weights land c to (pos 0) ne in
            let none : is_same_cell cell here ≡ false = sym test ∙ ne_eqb _ _ (λ s. other (e ∙ s)) in
            let added = ap (λ (b : Bool). cond b (outlet_at grid n).weight (pos 0)) none in
            omega (arith, ints, written, more, added, old)
      ]

  pub drains_more : (land ocean : ℕ) (from to : ℤ) → land ≡ number_of grid.land.mosaic.tiles (outlet_at grid n).land → ocean ≡ number_of grid.ocean.mosaic.tiles (outlet_at grid n).ocean
      → from ≡ at weights land → to ≡ at weights land +ℤ (outlet_at grid n).weight
      → AreDrainsTo grid (n + 1) (each ++ record { land = land; ocean = ocean; from = from; to = to } ∷ []) (slice_set weights land to)
  unfolding drained_cell weight_before
  drains_more land ocean from to land_e ocean_e from_e to_e =
      let drain : Drain = record { land = land; ocean = ocean; from = from; to = to } in
      let own : IsDrain grid n drain = record {
        land = land_e;
        ocean = ocean_e;
        from = from_e ∙ before_is land land_e;
        to = to_e ∙ ap (λ (z : ℤ). z +ℤ (outlet_at grid n).weight) (before_is land land_e);
      } in
      let none : Drain = record { land = 0; ocean = 0; from = pos 0; to = pos 0 } in
      record {
        count = length_push each drain ∙ ap (λ k. k + 1) are.count;
        each_is = below_more (λ o. IsDrain grid o (drain_at (each ++ drain ∷ []) o)) n
            (λ o h. subst (IsDrain grid o) (sym (get_or_append_left each (drain ∷ []) none o (omega (arith, are.count)))) (are.each_is o h))
            (subst (IsDrain grid n) (sym (get_or_push each drain none n are.count)) own);
        cells = length-set weights land to ∙ are.cells;
        weights_are = λ c h. ap (λ (z : ℤ). at (slice_set weights land z) c) to_e ∙ more_weight land land_e c h;
      }

-- all outlets
pub drains_all : (grid : Grid) (n : ℕ) (each : List Drain) (weights : List ℤ) → n ≡ length grid.xgrid.outlets → AreDrainsTo grid n each weights
    → (length each ≡ length grid.xgrid.outlets) × ((o : ℕ) → o < length grid.xgrid.outlets → IsDrain grid o (drain_at each o))
    × (length weights ≡ land_cells grid) × ((c : ℕ) → c < land_cells grid → at weights c ≡ weights_of (cell_of grid.land.mosaic.tiles c) grid.xgrid.outlets)
drains_all grid n each weights e are = (
  are.count ∙ e,
  λ o h. are.each_is o (omega (arith, e)),
  are.cells,
  λ c h. are.weights_are c h ∙ ap (weights_of (cell_of grid.land.mosaic.tiles c)) (take_all n grid.xgrid.outlets (omega (arith, e))),
)
