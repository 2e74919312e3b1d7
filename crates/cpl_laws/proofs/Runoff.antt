-- What runs off the land arrives in the ocean's mosaic.
use Rattle.std.proofs.Common.{◌≡◌, ◌∙◌, refl, sym, ap, subst, Bool, true, false, not, ◌&&◌, cond, ℕ, zero, suc, ◌+◌, ◌-◌, ◌*◌, ◌/◌, ◌<◌, min, arith, inl, inr, List, map, length, get_or, take, Some, None}
use Rattle.std.specs.Prelude.{ℤ, pos, negsuc, ◌⊎◌, ◌≢◌, ◌+ℤ◌, ◌-ℤ◌, ◌≤ℤ◌, All}
use Rattle.std.specs.List.{list_any}
use Rattle.std.specs.Ordering.{int_eq}
use Rattle.std.proofs.lemmas.Int.{ints}
use Rattle.std.proofs.lemmas.Bool.{cases_Bool}
use Rattle.std.proofs.lemmas.Bool.Decides.{Decides-int_eq}
use Rattle.std.proofs.lemmas.List.{take_all, get_or_default}
use Rattle.std.proofs.lemmas.List.Elements.{All-map}
use Rattle.cpl_fixed.specs.Amounts.{amount, at}
use Rattle.cpl_fixed.specs.Totals.{total_of}
use Rattle.cpl_fixed.specs.Shares.{part_of, share}
use Rattle.cpl_fixed.specs.declared.limits.TheConstants.{WATER_HEAT}
use Rattle.cpl_fixed.specs.declared.rates.Rates.{Rates}
use Rattle.cpl_land.specs.declared.cell.LandCell.{LandCell}
use Rattle.cpl_land.specs.Land.{runoff, runoff_water}
use Rattle.cpl_mosaic.specs.declared.parts.CellId.{CellId}
use Rattle.cpl_mosaic.specs.Sides.{IsCellOf, is_same_cell}
use Rattle.cpl_mosaic.specs.Cells.{number_of, cell_of}
use Rattle.cpl_xgrid.specs.declared.grid.Grid.{Grid}
use Rattle.cpl_xgrid.specs.declared.parts.Outlet.{Outlet}
use Rattle.cpl_xgrid.specs.declared.error.XGridError.TheVariants as fault
use Rattle.cpl_xgrid.specs.Rows.{land_cell, numbers_of}
use Rattle.cpl_xgrid.specs.Rules.{no_outlet_fault, area_at}
use Rattle.cpl_xgrid.specs.Indexes.{AreCells}
use Rattle.cpl_xgrid.proofs.CellNumbers.{same_cell, own_cell}
use Rattle.cpl_xgrid.proofs.Faults.{none_faulty}
use Rattle.cpl_state.specs.States.{land_cells, ocean_cells, IsDry}
use Rattle.cpl_state.specs.FastStep.{for_each}
use Rattle.cpl_state.specs.Slow.{no_outlet, outlet_at, drained_cell, weights_of, weight_before, outlet_share, outlet_ocean, outlets_to}
use Rattle.cpl_laws.specs.Once.{IsNumbered}
use Rattle.cpl_laws.proofs.Sums.{cells_same}
use Rattle.cpl_laws.proofs.Groups.{each_number, total_same, total_none, total_natural}
use Rattle.cpl_laws.proofs.Weights.{measured_more, measured_natural, measured_some, with_own, running}
use Rattle.cpl_laws.proofs.Rows.{no_dry_land}
use Rattle.cpl_laws.proofs.Once.{counted}
use Rattle.cpl_laws.proofs.Shares.{share_least, share_whole}
use Rattle.cpl_laws.proofs.Outlets.{IsOutlet, outlet_in}

some_or_none : (w : ℤ) → (pos 1 ≤ℤ w) ⊎ (w ≤ℤ pos 0)
some_or_none (pos zero) = inr (omega (arith, ints))
some_or_none (pos (suc n)) = inl (omega (arith, ints))
some_or_none (negsuc n) = inr (omega (arith, ints))

not_zero : (x : ℤ) → int_eq x (pos 0) ≡ false → x ≢ pos 0
not_zero x e z = absurd (let t = (Decides-int_eq x (pos 0)).1 z in cc)

-- a land cell with an area has an outlet
has_outlet : (n : ℕ) (bare any : Bool) → cond (not bare && not any) (Some (fault.NoOutlet n)) None ≡ None → bare ≡ false → any ≡ true
has_outlet n false true e b = refl
has_outlet n false false e b = absurd (cc)
has_outlet n true any e b = absurd (cc)

module _ (grid : Grid) (is : IsNumbered grid) where
  abbrev outlets : List Outlet
  outlets = grid.xgrid.outlets

  outlet_is : (o : ℕ) → o < length outlets → IsOutlet grid.land grid.ocean (outlet_at grid o)
  outlet_is o l = outlet_in grid is.rules o l

  outlet_of : (k : ℕ) (d : Outlet) → k < length outlets → IsOutlet grid.land grid.ocean (get_or outlets k d)
  outlet_of k d l = subst (IsOutlet grid.land grid.ocean) (get_or_default outlets k no_outlet d l) (outlet_is k l)

  pub weight_some : (o : ℕ) → o < length outlets → pos 1 ≤ℤ (outlet_at grid o).weight
  weight_some o l =
      let least = is.rules.outlets.each o no_outlet l in
      let some = not_zero (outlet_at grid o).weight (outlet_is o l).weight in
      omega (arith, ints, least.0, some)

  weights_some : All (λ (outlet : Outlet). pos 1 ≤ℤ outlet.weight) outlets
  weights_some k d l =
      let least = is.rules.outlets.each k d l in
      let some = not_zero (get_or outlets k d).weight (outlet_of k d l).weight in
      omega (arith, ints, least.0, some)

  weights_natural : All (λ (outlet : Outlet). pos 0 ≤ℤ outlet.weight) outlets
  weights_natural k d l = (is.rules.outlets.each k d l).0

  abbrev of_this : CellId → Outlet → Bool
  of_this cell outlet = is_same_cell outlet.land cell

  lands_are : AreCells grid.land.mosaic.tiles (map land_cell outlets)
  lands_are = All-map (IsCellOf grid.land.mosaic.tiles) land_cell outlets (λ k d l. (outlet_of k d l).land_cell)

  oceans_are : AreCells grid.ocean.mosaic.tiles (map outlet_ocean outlets)
  oceans_are = All-map (IsCellOf grid.ocean.mosaic.tiles) outlet_ocean outlets (λ k d l. (outlet_of k d l).ocean_cell)

  -- where an outlet lies
  drained_from : (o n : ℕ) → o < length outlets → n < land_cells grid → is_same_cell (land_cell (outlet_at grid o)) (cell_of grid.land.mosaic.tiles n) ≡ true → drained_cell grid o ≡ n
  unfolding drained_cell
  drained_from o n l within e = ap (number_of grid.land.mosaic.tiles) (same_cell (outlet_at grid o).land (cell_of grid.land.mosaic.tiles n) e) ∙ is.land.number_cell n within

  pub drained_below : (o : ℕ) → o < length outlets → drained_cell grid o < land_cells grid
  unfolding drained_cell
  drained_below o l = is.land.below (outlet_at grid o).land (outlet_is o l).land_cell

  -- the weights of a land cell with an area
  some_weight : (n : ℕ) → n < land_cells grid → at grid.land.area n ≢ pos 0 → pos 1 ≤ℤ weights_of (cell_of grid.land.mosaic.tiles n) outlets
  some_weight n l wet =
      let none = none_faulty (no_outlet_fault grid.land outlets) 0 grid.land.area (no_dry_land grid is.rules) n (pos 0) (omega (arith, is.rules.land.count)) in
      let e : 0 + n ≡ n = omega arith in
      let here : no_outlet_fault grid.land outlets n (at grid.land.area n) ≡ None = subst (λ (k : ℕ). no_outlet_fault grid.land outlets k (at grid.land.area n) ≡ None) e none in
      let bare : int_eq (at grid.land.area n) (pos 0) ≡ false = elim (cases_Bool (int_eq (at grid.land.area n) (pos 0))) [
        | inl same ↦ absurd (wet ((Decides-int_eq (at grid.land.area n) (pos 0)).0 same))
        | inr other ↦ other
      ] in
      measured_some (of_this (cell_of grid.land.mosaic.tiles n)) (λ (outlet : Outlet). outlet.weight) outlets weights_some
      (has_outlet n (int_eq (at grid.land.area n) (pos 0)) (list_any (λ (outlet : Outlet). is_same_cell outlet.land (cell_of grid.land.mosaic.tiles n)) outlets) here bare)

  -- an outlet's weight lies within those of its land cell
  pub own_weight : (o : ℕ) → o < length outlets → (weight_before grid o +ℤ (outlet_at grid o).weight) ≤ℤ weights_of (outlet_at grid o).land outlets
  unfolding weight_before
  own_weight o l = with_own (of_this (outlet_at grid o).land) (λ (outlet : Outlet). outlet.weight) outlets o no_outlet weights_natural l (own_cell (outlet_at grid o).land)

  pub before_natural : (o : ℕ) → pos 0 ≤ℤ weight_before grid o
  unfolding weight_before
  before_natural o = measured_natural (of_this (outlet_at grid o).land) (λ (outlet : Outlet). outlet.weight) outlets weights_natural o

  pub share_natural : (x : ℤ) → pos 0 ≤ℤ x → (o : ℕ) → o < length outlets → pos 0 ≤ℤ outlet_share grid x o
  unfolding outlet_share
  share_natural x least o l =
      let before = before_natural o in
      let some = weight_some o l in
      let most = own_weight o l in
      share_least x (weight_before grid o) (weight_before grid o +ℤ (outlet_at grid o).weight) (weights_of (outlet_at grid o).land outlets) least before (omega (arith, ints, some)) (omega (arith, ints, before, some, most))

  -- AN AMOUNT OF EACH LAND CELL

  module _ (x : ℕ → ℤ) (least : (n : ℕ) → n < land_cells grid → pos 0 ≤ℤ x n) (dry : (n : ℕ) → IsDry grid.land n → x n ≡ pos 0) where
    abbrev bring : ℕ → ℤ
    bring o = outlet_share grid (x (drained_cell grid o)) o

    bring_natural : (o : ℕ) → o < length outlets → pos 0 ≤ℤ bring o
    bring_natural o l = share_natural (x (drained_cell grid o)) (least (drained_cell grid o) (drained_below o l)) o l

    module _ (n : ℕ) (within : n < land_cells grid) where
      abbrev cell : CellId
      cell = cell_of grid.land.mosaic.tiles n

      abbrev part : ℤ → ℤ
      part z = part_of (x n) z (weights_of (cell_of grid.land.mosaic.tiles n) outlets)

      abbrev before : ℕ → ℤ
      before o = weights_of (cell_of grid.land.mosaic.tiles n) (take o outlets)

      of_outlet : (o : ℕ) → o < length outlets → is_same_cell (land_cell (outlet_at grid o)) (cell_of grid.land.mosaic.tiles n) ≡ true
          → bring o ≡ part (before o +ℤ (outlet_at grid o).weight) -ℤ part (before o)
      unfolding outlet_share weight_before
      of_outlet o l e =
          let here = same_cell (outlet_at grid o).land (cell_of grid.land.mosaic.tiles n) e in
          let from = drained_from o n l within e in
          λ i. share (x (from i)) (weights_of (here i) (take o outlets)) (weights_of (here i) (take o outlets) +ℤ (outlet_at grid o).weight) (weights_of (here i) outlets)

      before_more : (k : ℕ) → k < length outlets → before (0 + suc k) ≡ before (0 + k) +ℤ cond (is_same_cell (land_cell (outlet_at grid k)) (cell_of grid.land.mosaic.tiles n)) (outlet_at grid (0 + k)).weight (pos 0)
      before_more k l =
          let a : 0 + suc k ≡ suc k = omega arith in
          let b : k ≡ 0 + k = omega arith in
          ap before a ∙ measured_more (of_this (cell_of grid.land.mosaic.tiles n)) (λ (outlet : Outlet). outlet.weight) outlets k no_outlet l
          ∙ (λ i. before (b i) +ℤ cond (is_same_cell (land_cell (outlet_at grid k)) (cell_of grid.land.mosaic.tiles n)) (outlet_at grid (b i)).weight (pos 0))

      -- its outlets bring all, where they have weights
      all_brought : pos 1 ≤ℤ weights_of (cell_of grid.land.mosaic.tiles n) outlets → total_of (map bring (numbers_of land_cell (cell_of grid.land.mosaic.tiles n) outlets)) ≡ x n
      all_brought some =
          let f = λ (o : ℕ). part (before o +ℤ (outlet_at grid o).weight) -ℤ part (before o) in
          let passes = λ (outlet : Outlet). is_same_cell (land_cell outlet) (cell_of grid.land.mosaic.tiles n) in
          let each = total_same bring f (numbers_of land_cell (cell_of grid.land.mosaic.tiles n) outlets)
          (each_number (λ o. bring o ≡ f o) passes no_outlet 0 outlets (λ o l e. let z : o ≡ 0 + o = omega arith in subst (λ (j : ℕ). bring j ≡ f j) z (of_outlet o l e))) in
          let sum = running part before (λ o. (outlet_at grid o).weight) passes no_outlet 0 outlets before_more in
          let last : before (0 + length outlets) ≡ weights_of (cell_of grid.land.mosaic.tiles n) outlets =
          ap (weights_of (cell_of grid.land.mosaic.tiles n)) (ap (λ (k : ℕ). take k outlets) (let z : 0 + length outlets ≡ length outlets = omega arith in z) ∙ take_all (length outlets) outlets (omega arith)) in
          let a = ap part last in
          let whole = share_whole (x n) (weights_of (cell_of grid.land.mosaic.tiles n) outlets) (least n within) (omega (arith, ints, some)) in
          omega (arith, ints, each, sum, a, whole)

      -- where they have none there are none
      none_brought : weights_of (cell_of grid.land.mosaic.tiles n) outlets ≤ℤ pos 0 → total_of (map bring (numbers_of land_cell (cell_of grid.land.mosaic.tiles n) outlets)) ≡ pos 0
      none_brought none =
          total_none bring (numbers_of land_cell (cell_of grid.land.mosaic.tiles n) outlets)
          (each_number (λ o. bring o ≡ pos 0) (λ (outlet : Outlet). is_same_cell (land_cell outlet) (cell_of grid.land.mosaic.tiles n)) no_outlet 0 outlets (λ o l e.
          let own = with_own (of_this (cell_of grid.land.mosaic.tiles n)) (λ (outlet : Outlet). outlet.weight) outlets o no_outlet weights_natural l e in
          let front = measured_natural (of_this (cell_of grid.land.mosaic.tiles n)) (λ (outlet : Outlet). outlet.weight) outlets weights_natural o in
          let some = weight_some o l in
          absurd (omega (arith, ints, none, own, front, some))))

      brought : total_of (map bring (numbers_of land_cell (cell_of grid.land.mosaic.tiles n) outlets)) ≡ x n
      brought = elim (some_or_none (weights_of (cell_of grid.land.mosaic.tiles n) outlets)) [
        | inl some ↦ all_brought some
        | inr none ↦ elim (cases_Bool (int_eq (at grid.land.area n) (pos 0))) [
          | inl bare ↦ none_brought none ∙ sym (dry n (within, (Decides-int_eq (at grid.land.area n) (pos 0)).0 bare))
          | inr wet ↦ let some = some_weight n within (not_zero (at grid.land.area n) wet) in absurd (omega (arith, ints, some, none))
        ]
      ]

    -- all that runs off the land arrives in the ocean's mosaic
    pub arrives : total_of (for_each (land_cells grid) x) ≡ total_of (for_each (ocean_cells grid) (λ m. total_of (map bring (outlets_to grid m))))
    unfolding outlets_to
    arrives =
        cells_same x (λ n. total_of (map bring (numbers_of land_cell (cell_of grid.land.mosaic.tiles n) outlets))) (land_cells grid) (λ n l. sym (brought n l))
        ∙ counted grid.land.mosaic.tiles land_cell outlets bring is.land lands_are
        ∙ sym (counted grid.ocean.mosaic.tiles outlet_ocean outlets bring is.ocean oceans_are)

    pub arrives_natural : (m : ℕ) → pos 0 ≤ℤ total_of (map bring (outlets_to grid m))
    unfolding outlets_to
    arrives_natural m =
        total_natural bring (numbers_of outlet_ocean (cell_of grid.ocean.mosaic.tiles m) outlets)
        (each_number (λ o. pos 0 ≤ℤ bring o) (λ (outlet : Outlet). is_same_cell (outlet_ocean outlet) (cell_of grid.ocean.mosaic.tiles m)) no_outlet 0 outlets
        (λ o l e. let z : o ≡ 0 + o = omega arith in subst (λ (j : ℕ). pos 0 ≤ℤ bring j) z (bring_natural o l)))

    -- nothing arrives where there is no water
    pub arrives_wet : (m : ℕ) → IsDry grid.ocean m → total_of (map bring (outlets_to grid m)) ≡ pos 0
    unfolding outlets_to
    arrives_wet m is_dry =
        total_none bring (numbers_of outlet_ocean (cell_of grid.ocean.mosaic.tiles m) outlets)
        (each_number (λ o. bring o ≡ pos 0) (λ (outlet : Outlet). is_same_cell (outlet_ocean outlet) (cell_of grid.ocean.mosaic.tiles m)) no_outlet 0 outlets (λ o l e.
        let wet = not_zero (area_at grid.ocean (outlet_at grid o).ocean) (outlet_is o l).wet in
        let here = ap (number_of grid.ocean.mosaic.tiles) (same_cell (outlet_at grid o).ocean (cell_of grid.ocean.mosaic.tiles m) e) ∙ is.ocean.number_cell m is_dry.0 in
        absurd (wet (ap (at grid.ocean.area) here ∙ is_dry.1))))

-- WHAT RUNS OFF

-- what runs off is no more than there is, and nothing runs off where there is nothing
pub record IsRunoff (rates : Rates) (cell : LandCell) : Type 0 where
  pub heat_least : pos 0 ≤ℤ (runoff rates cell).heat
  pub heat_most : (runoff rates cell).heat ≤ℤ cell.heat
  pub water_least : pos 0 ≤ℤ (runoff rates cell).water
  pub water_most : (runoff rates cell).water ≤ℤ cell.water
  pub none : cell.water ≡ pos 0 → ((runoff rates cell).heat ≡ pos 0) × ((runoff rates cell).water ≡ pos 0)

half_most : (x : ℕ) (h : ℤ) → pos 0 ≤ℤ h → pos (min x (amount h / 2)) ≤ℤ h
half_most x (pos n) least = omega (arith, ints)
half_most x (negsuc n) least = absurd (omega (arith, ints, least))

less_most : (room : ℕ) (w : ℤ) → pos 0 ≤ℤ w → pos (amount w - room) ≤ℤ w
less_most room (pos n) least = omega (arith, ints)
less_most room (negsuc n) least = absurd (omega (arith, ints, least))

none_runs : (room half : ℕ) (w : ℤ) → w ≡ pos 0 → ◌≡◌ {A = ℤ} (pos (min (1_426 * (amount w - room)) half)) (pos 0)
none_runs room half w e = let z : amount w ≡ 0 = ap amount e in omega (arith, ints, z)

none_wet : (room : ℕ) (w : ℤ) → w ≡ pos 0 → ◌≡◌ {A = ℤ} (pos (amount w - room)) (pos 0)
none_wet room w e = let z : amount w ≡ 0 = ap amount e in omega (arith, ints, z)

pub is_runoff : (rates : Rates) (cell : LandCell) → pos 0 ≤ℤ cell.heat → pos 0 ≤ℤ cell.water → IsRunoff rates cell
is_runoff rates cell heat water = record {
  heat_least = omega (arith, ints);
  heat_most = half_most (amount WATER_HEAT * runoff_water rates cell) cell.heat heat;
  water_least = omega (arith, ints);
  water_most = less_most (amount rates.cap * amount cell.area) cell.water water;
  none = λ e. (none_runs (amount rates.cap * amount cell.area) (amount cell.heat / 2) cell.water e, none_wet (amount rates.cap * amount cell.area) cell.water e);
}
