-- What drains bring in their order is what arrives in each cell.
use Rattle.std.proofs.Common.{◌≡◌, ◌∙◌, refl, sym, ap, subst, Bool, true, false, cond, eqb, ℕ, zero, suc, ◌+◌, ◌<◌, ◌≤◌, arith, inl, inr, List, [], ◌∷◌, length, get_or, take, map}
use Rattle.std.specs.Prelude.{ℤ, pos, ◌+ℤ◌, ◌≤ℤ◌}
use Rattle.std.proofs.lemmas.Int.{ints}
use Rattle.std.proofs.lemmas.Bool.{cases_eq}
use Rattle.std.proofs.lemmas.List.{take_all}
use Rattle.cpl_fixed.specs.Amounts.{at}
use Rattle.cpl_fixed.specs.Shares.{share}
use Rattle.cpl_fixed.specs.Totals.{total_of}
use Rattle.cpl_fixed.specs.declared.gain.Gain.{Gain}
use Rattle.cpl_fixed.specs.declared.limits.TheConstants.{MOST_TOTAL}
use Rattle.cpl_fixed.specs.declared.rates.Rates.{Rates}
use Rattle.cpl_land.specs.declared.cell.LandCell.{LandCell}
use Rattle.cpl_land.specs.Land.{runoff}
use Rattle.cpl_mosaic.specs.Sides.{is_same_cell}
use Rattle.cpl_mosaic.specs.Cells.{cell_of}
use Rattle.cpl_xgrid.specs.declared.grid.Grid.{Grid}
use Rattle.cpl_xgrid.specs.declared.parts.Outlet.{Outlet}
use Rattle.cpl_xgrid.specs.Groups.{numbers_from}
use Rattle.cpl_xgrid.proofs.CellNumbers.{test_agrees}
use Rattle.cpl_laws.proofs.Groups.{total_cond}
use Rattle.cpl_laws.specs.Once.{IsNumbered}
use Rattle.cpl_laws.proofs.Outlets.{outlet_in}
use Rattle.cpl_laws.proofs.Runoff.{before_natural, drained_below, own_weight, share_natural, weight_some}
use Rattle.cpl_state.specs.declared.whole.Whole.{Whole}
use Rattle.cpl_state.specs.States.{land_cell, land_cells, ocean_cells}
use Rattle.cpl_state.specs.Slow.{arrived, drained_cell, no_outlet, outlet_at, outlet_ocean, outlet_share, outlets_to, runoff_of, weights_of}
use Rattle.cpl_slow.specs.declared.drains.Drain.{Drain}
use Rattle.cpl_slow.specs.declared.drains.Drains.{Drains}
use Rattle.cpl_slow.specs.Land.{gain_at}
use Rattle.cpl_slow.specs.Drains.{AreDrains, CanBring, IsGained, IsRunoff, Leads, brought, brought_to, drain_at}
use Rattle.cpl_slow.specs.Steps.{CanDrain, HasArrived}
use Rattle.cpl_slow.proofs.Weights.{weights_most}

-- SUMS

-- one item more of a group
group_more : {T : Type 0} (f : ℕ → ℤ) (passes : T → Bool) (d : T) (n : ℕ) (items : List T) (k : ℕ) → k < length items
    → total_of (map f (numbers_from passes n (take (suc k) items))) ≡ total_of (map f (numbers_from passes n (take k items))) +ℤ cond (passes (get_or items k d)) (f (n + k)) (pos 0)
group_more f passes d n [] k l = absurd (omega arith)
group_more f passes d n (item ∷ items) zero l =
    let split = total_cond f (passes item) n [] in
    let same = ap (λ (m : ℕ). cond (passes item) (f m) (pos 0)) (let e : n + 0 ≡ n = omega arith in e) in
    omega (arith, ints, split, same)
group_more f passes d n (item ∷ items) (suc k) l =
    let more = total_cond f (passes item) n (numbers_from passes (n + 1) (take (suc k) items)) in
    let less = total_cond f (passes item) n (numbers_from passes (n + 1) (take k items)) in
    let rest = group_more f passes d (n + 1) items k (omega arith) in
    let same = ap (λ (m : ℕ). cond (passes (get_or items k d)) (f m) (pos 0)) (let e : n + suc k ≡ n + 1 + k = omega arith in e) in
    omega (arith, ints, more, less, rest, same)

cond_natural : (b : Bool) (x : ℤ) → pos 0 ≤ℤ x → pos 0 ≤ℤ cond b x (pos 0)
cond_natural true x h = h
cond_natural false x h = omega (arith, ints)

-- the first drains bring no more than all
brought_front : (each : List Drain) (bring : ℕ → ℤ) (n count m : ℕ) → n ≤ count → ((o : ℕ) → o < count → pos 0 ≤ℤ bring o) → brought_to each bring n m ≤ℤ brought_to each bring count m
brought_front each bring zero zero m l least = omega (arith, ints)
brought_front each bring (suc n) zero m l least = absurd (omega arith)
brought_front each bring n (suc count) m l least = elim (cases_eq n (suc count)) [
  | inl e ↦ let same = ap (λ (k : ℕ). brought_to each bring k m) e in omega (arith, ints, same)
  | inr ne ↦
      let rest = brought_front each bring n count m (omega arith) (λ o h. least o (omega arith)) in
      let own = cond_natural (eqb (drain_at each count).ocean m) (bring count) (least count (omega arith)) in
      omega (arith, ints, rest, own)
]

-- RUNOFF

pub runoff_is : (rates : Rates) (cell : LandCell) → IsRunoff (runoff rates cell)
runoff_is rates cell = record { heat = omega (arith, ints); water = omega (arith, ints); dry = λ e. omega (arith, ints, e) }

pub runoff_of_is : (grid : Grid) (rates : Rates) (whole : Whole) (n : ℕ) → IsRunoff (runoff_of grid rates whole n)
unfolding runoff_of
runoff_of_is grid rates whole n = runoff_is rates (land_cell grid whole n)

-- THE DRAINS OF A GRID

module _ (grid : Grid) (is : IsNumbered grid) (drains : Drains) (are : AreDrains grid drains) where
  weights_are : (o : ℕ) → o < length grid.xgrid.outlets → at drains.weights.items (drain_at drains.each.items o).land ≡ weights_of (outlet_at grid o).land grid.xgrid.outlets
  unfolding drained_cell
  weights_are o l =
      ap (at drains.weights.items) (are.each o l).land ∙ are.weights (drained_cell grid o) (drained_below grid is o l)
      ∙ ap (λ cell. weights_of cell grid.xgrid.outlets) (is.land.cell_number (outlet_at grid o).land (outlet_in grid is.rules o l).land_cell)

  pub leads : (count : ℕ) → count ≡ land_cells grid → (oceans' : ℕ) → oceans' ≡ ocean_cells grid → (o : ℕ) → o < length grid.xgrid.outlets → Leads drains.weights.items count oceans' (drain_at drains.each.items o)
  leads count e oceans' f o l =
      let drain = are.each o l in
      let least = before_natural grid is o in
      let own = weight_some grid is o l in
      let within = own_weight grid is o l in
      let weights = weights_are o l in
      let land = drained_below grid is o l in
      let ocean = is.ocean.below (outlet_at grid o).ocean (outlet_in grid is.rules o l).ocean_cell in
      let cell = (outlet_at grid o).land in
      let lo : length grid.xgrid.outlets ≤ length grid.xgrid.outlets = omega arith in
      let all = ap (weights_of cell) (take_all (length grid.xgrid.outlets) grid.xgrid.outlets lo) in
      let most = weights_most cell grid.xgrid.outlets is.rules.outlets.each (length grid.xgrid.outlets) in
      let few = is.rules.outlets.few in
      record {
        land = omega (arith, e, drain.land, land);
        ocean = omega (arith, f, drain.ocean, ocean);
        from = omega (arith, ints, drain.from, least);
        order = omega (arith, ints, drain.from, drain.to, own);
        within = omega (arith, ints, drain.to, within, weights);
        some = omega (arith, ints, weights, within, own, least);
        small = omega (arith, ints, weights, all, most, few);
      }

  -- amounts that stand in a list
  module _ (amounts listed : ℕ → ℤ) (same : (n : ℕ) → n < land_cells grid → listed n ≡ amounts n) where
    abbrev brings : ℕ → ℤ
    brings o = outlet_share grid (amounts (drained_cell grid o)) o

    abbrev bring : ℕ → ℤ
    bring = brought drains.each.items drains.weights.items listed

    pub brought_is : (o : ℕ) → o < length grid.xgrid.outlets → brought drains.each.items drains.weights.items listed o ≡ outlet_share grid (amounts (drained_cell grid o)) o
    unfolding outlet_share
    brought_is o l =
        let drain = are.each o l in
        let amount = ap listed drain.land ∙ same (drained_cell grid o) (drained_below grid is o l) in
        let weights = weights_are o l in
        λ i. share (amount i) (drain.from i) (drain.to i) (weights i)

    abbrev is_to : ℕ → Outlet → Bool
    is_to m outlet = is_same_cell (outlet_ocean outlet) (cell_of grid.ocean.mosaic.tiles m)

    brought_group : (n m : ℕ) → n ≤ length grid.xgrid.outlets → m < ocean_cells grid
        → brought_to drains.each.items bring n m ≡ total_of (map brings (numbers_from (is_to m) 0 (take n grid.xgrid.outlets)))
    brought_group zero m l within = refl
    brought_group (suc n) m l within =
        let lo : n < length grid.xgrid.outlets = omega arith in
        let rest = brought_group n m (omega arith) within in
        let more = group_more brings (is_to m) no_outlet 0 grid.xgrid.outlets n lo in
        let none : 0 + n ≡ n = omega arith in
        let test = ap (λ (k : ℕ). eqb k m) (are.each n lo).ocean ∙ test_agrees grid.ocean.mosaic.tiles (outlet_at grid n).ocean m is.ocean (outlet_in grid is.rules n lo).ocean_cell within in
        let own : cond (eqb (drain_at drains.each.items n).ocean m) (bring n) (pos 0) ≡ cond (is_to m (outlet_at grid n)) (brings (0 + n)) (pos 0) =
        λ i. cond (test i) ((brought_is n lo ∙ ap brings (sym none)) i) (pos 0) in
        omega (arith, ints, rest, more, own)

    -- all that arrives in a cell
    pub brought_all : (n m : ℕ) → n ≡ length grid.xgrid.outlets → m < ocean_cells grid → brought_to drains.each.items bring n m ≡ total_of (map brings (outlets_to grid m))
    unfolding outlets_to
    brought_all n m e within =
        brought_group n m (omega (arith, e)) within ∙ ap (λ (xs : List Outlet). total_of (map brings (numbers_from (is_to m) 0 xs))) (take_all n grid.xgrid.outlets (omega (arith, e)))

    -- the first drains bring no more than what is in range
    pub brought_fits : ((n : ℕ) → n < land_cells grid → pos 0 ≤ℤ amounts n) → (n m : ℕ) → n ≤ length grid.xgrid.outlets → m < ocean_cells grid
        → total_of (map brings (outlets_to grid m)) ≤ℤ pos MOST_TOTAL → brought_to drains.each.items bring n m ≤ℤ pos MOST_TOTAL
    brought_fits least n m l within most =
        let each = λ (o : ℕ) (h : o < length grid.xgrid.outlets). (
        let natural = share_natural grid is (amounts (drained_cell grid o)) (least (drained_cell grid o) (drained_below grid is o h)) o h in
        let e = brought_is o h in
        let at_least : pos 0 ≤ℤ bring o = omega (arith, ints, natural, e) in
        at_least) in
        let front = brought_front drains.each.items bring n (length grid.xgrid.outlets) m l each in
        let all = brought_all (length grid.xgrid.outlets) m refl within in
        omega (arith, ints, front, all, most)

  -- the runoff of the land, cell by cell
  module _ (rates : Rates) (whole : Whole) (can : CanDrain grid rates whole) (runoffs : List Gain) (count : length runoffs ≡ land_cells grid)
      (each : (n : ℕ) → n < land_cells grid → gain_at runoffs n ≡ runoff_of grid rates whole n) where
    heats : (n : ℕ) → n < land_cells grid → (gain_at runoffs n).heat ≡ (runoff_of grid rates whole n).heat
    heats n l = ap (λ (gain : Gain). gain.heat) (each n l)

    waters : (n : ℕ) → n < land_cells grid → (gain_at runoffs n).water ≡ (runoff_of grid rates whole n).water
    waters n l = ap (λ (gain : Gain). gain.water) (each n l)

    is_runoff : (n : ℕ) → n < land_cells grid → IsRunoff (gain_at runoffs n)
    is_runoff n l = subst IsRunoff (sym (each n l)) (runoff_of_is grid rates whole n)

    pub can_bring : (oceans' : ℕ) → oceans' ≡ ocean_cells grid → CanBring drains.each.items drains.weights.items runoffs oceans'
    unfolding arrived
    can_bring oceans' f =
        let heat = λ (n : ℕ). (runoff_of grid rates whole n).heat in
        let water = λ (n : ℕ). (runoff_of grid rates whole n).water in
        record {
          cells = count ∙ sym are.cells;
          leads = λ o l. leads (length runoffs) count oceans' f o (omega (arith, are.count));
          runoff = λ n l. is_runoff n (omega (arith, count));
          heat = λ n m l within.
              let m_in : m < ocean_cells grid = omega (arith, f) in
              brought_fits heat (λ n. (gain_at runoffs n).heat) heats (λ n l. (runoff_of_is grid rates whole n).heat) n m (omega (arith, are.count)) m_in (can.arrival m m_in).heat.1;
          water = λ n m l within.
              let m_in : m < ocean_cells grid = omega (arith, f) in
              brought_fits water (λ n. (gain_at runoffs n).water) waters (λ n l. (runoff_of_is grid rates whole n).water) n m (omega (arith, are.count)) m_in (can.arrival m m_in).water.1;
        }

    pub has_arrived : (n oceans' : ℕ) → n ≡ length grid.xgrid.outlets → oceans' ≡ ocean_cells grid → (gains : List Gain)
        → IsGained drains.each.items drains.weights.items runoffs n oceans' gains → HasArrived grid rates whole gains
    unfolding arrived
    has_arrived n oceans' e f gains gained = record {
      count = gained.count ∙ f;
      each = λ m l.
          let heat = gained.heat m (omega (arith, f)) ∙ brought_all (λ n. (runoff_of grid rates whole n).heat) (λ n. (gain_at runoffs n).heat) heats n m e l in
          let water = gained.water m (omega (arith, f)) ∙ brought_all (λ n. (runoff_of grid rates whole n).water) (λ n. (gain_at runoffs n).water) waters n m e l in
          λ i. record { heat = heat i; water = water i };
    }
