use Rattle.std.proofs.Common.{◌≡◌, ◌∙◌, sym, ap, subst, ℕ, ◌+◌, ◌-◌, ◌*◌, ◌^◌, ◌<◌, ◌≤◌, arith, to_z, of_z, w64, length, List, inl, inr}
use Rattle.std.specs.Prelude.{ℤ, pos, ◌+ℤ◌}
use Rattle.std.proofs.lemmas.Bool.{cases_lt}
use Rattle.std.proofs.lemmas.Int.{ints}
use Rattle.cpl_fixed.specs.Amounts.{IsAmount, at}
use Rattle.cpl_diffusion.proofs.Sums.{sum_to, total_range}
use Rattle.cpl_mosaic.specs.Contacts.{cells_of}
use Rattle.cpl_xgrid.specs.Lists.{XGridLists}
use Rattle.cpl_xgrid.specs.declared.parts.XRef.{XRef}
use Rattle.cpl_fast.specs.declared.flows.Flow.{Flow}
use Rattle.cpl_fast.specs.declared.ocean.IceTaken.{IceTaken}
use Rattle.cpl_fast.specs.declared.sums.Sums.{Sums}
use Rattle.cpl_fast.specs.Places.{IsEnd, place_in}
use Rattle.cpl_fast.specs.Sums.{AreSmall, IsSmall, none}
use Rattle.cpl_fast.specs.Surfaces.{IsStill, category_gain, ice_of, ocean_sums}
use Rattle.cpl_fast.proofs.Ends.{sum_to_end}
use Rattle.cpl_fast.proofs.Made.{sums_here}
use Rattle.cpl_fast.proofs.Parts.{amount_passed}
use Rattle.cpl_fast.proofs.Places.{ahead_stay, others_stay, place_within, row_more, row_passed}
use Rattle.cpl_fast.proofs.Small.{passed, plus_passed, plus_small, smaller, sum_fits, sum_to_more, wider}
use Rattle.cpl_fast.proofs.ocean.category_lists.Goals as goal
use Rattle.cpl_fast.proofs.ocean.category_lists.Goals.{then-area-place_in-ne0, else-area-place_in-ne0}

-- the sums over a cell's exchange cells are small
few_small : (refs other : List XRef) (sums : Sums) → refs ≡ other → length other ≤ 2 ^ 20 → AreSmall (length refs) sums → AreSmall (2 ^ 20) sums
few_small refs other sums e few small = smaller (length refs) (2 ^ 20) sums (let l = ap length e in omega (arith, l, few)) small

-- what a category gains, in 128 bits
gain_passed : (sums : Sums) → AreSmall (2 ^ 20) sums → passed (passed sums.heat +ℤ passed sums.sun) ≡ sums.heat +ℤ sums.sun
gain_passed sums small = plus_passed sums.heat sums.sun (wider (2 ^ 20) (2 ^ 30) sums.heat (omega arith) small.heat) (wider (2 ^ 20) (2 ^ 30) sums.sun (omega arith) small.sun)

gain_small : (sums : Sums) → AreSmall (2 ^ 20) sums → IsSmall (2 ^ 46) (passed (passed sums.heat +ℤ passed sums.sun))
gain_small sums small =
    subst (IsSmall (2 ^ 46)) (sym (gain_passed sums small)) (wider (2 ^ 20 + 2 ^ 20) (2 ^ 46) (sums.heat +ℤ sums.sun) (omega arith) (plus_small (2 ^ 20) (2 ^ 20) sums.heat sums.sun small.heat small.sun))

gain_is : (sums other : Sums) → sums ≡ other → AreSmall (2 ^ 20) sums → passed (passed sums.heat +ℤ passed sums.sun) ≡ other.heat +ℤ other.sun
gain_is sums other e small = gain_passed sums small ∙ (λ i. (e i).heat +ℤ (e i).sun)

-- one sum more
more_fits : (k : ℕ) (x : ℤ) → k < 5 → IsSmall (k * 2 ^ 20) x → IsSmall (2 ^ 30) x
more_fits k x l a = wider (k * 2 ^ 20) (2 ^ 30) x (omega arith) a

more_is : (x y : ℤ) (k : ℕ) → k < 5 → IsSmall (k * 2 ^ 20) x → IsSmall (2 ^ 20) y → passed (passed x +ℤ passed y) ≡ x +ℤ y
more_is x y k l a b = plus_passed x y (more_fits k x l a) (wider (2 ^ 20) (2 ^ 30) y (omega arith) b)

more_small : (x y : ℤ) (k : ℕ) → k < 5 → IsSmall (k * 2 ^ 20) x → IsSmall (2 ^ 20) y → IsSmall ((k + 1) * 2 ^ 20) (passed (passed x +ℤ passed y))
more_small x y k l a b = subst (IsSmall ((k + 1) * 2 ^ 20)) (sym (more_is x y k l a b)) (wider (k * 2 ^ 20 + 2 ^ 20) ((k + 1) * 2 ^ 20) (x +ℤ y) (omega arith) (plus_small (k * 2 ^ 20) (2 ^ 20) x y a b))

-- nothing more
kept : (f : ℕ → ℤ) (k : ℕ) (x : ℤ) → x ≡ sum_to f k → f k ≡ pos 0 → x ≡ sum_to f (k + 1)
kept f k x so_far nothing = let more = sum_to_more f k in omega (arith, ints, so_far, nothing, more)

pub gained-requires-clause-gain : goal.gained-requires-clause-gain
gained-requires-clause-gain c =
    gain_small c.part_sums-sums.result (few_small c.args.refs.now _ c.part_sums-sums.result c.requires.refs c.requires.rows.few c.part_sums-sums.ensures.small)

pub gained-requires-clause-range : goal.gained-requires-clause-range
gained-requires-clause-range c =
    let n = c.args.n in
    let k = c.loop-k.k in
    let sums = c.part_sums-sums.result in
    let now = at c.loop-k.heat (n * c.args.parts.now.categories + k) in
    let read : to_z w64 (of_z w64 now) ≡ now = omega (arith, ints) in
    let old = read ∙ c.loop-k.invariant.ahead (n * c.args.parts.now.categories + k) (omega arith) in
    let small = few_small c.args.refs.now _ sums c.requires.refs c.requires.rows.few c.part_sums-sums.ensures.small in
    let is = sums_here c.args.xgrid.now c.args.flows.now n (k + 1) c.args.refs.now c.rows-rows.result.now sums c.rows-rows.ensures c.requires.refs c.part_sums-sums.ensures.value in
    let gain = gain_is sums (ocean_sums c.args.xgrid.now c.args.flows.now n (k + 1)) is small in
    subst IsAmount (sym (λ i. old i +ℤ gain i)) (c.requires.can k (omega arith)).range

pub bounds-heat-place : goal.bounds-heat-place
bounds-heat-place c =
    let place = place_within (cells_of c.args.xgrid.now.ocean) c.args.parts.now.categories c.args.n c.loop-k.k c.requires.cell (omega arith) in
    omega (arith, place, c.requires.heat, c.loop-k.auto.heat)

pub overflow_add-ice : goal.overflow_add-ice
overflow_add-ice c =
    let small = few_small c.args.refs.now _ c.part_sums-sums.result c.requires.refs c.requires.rows.few c.part_sums-sums.ensures.small in
    sum_fits c.loop-k.ice.rain c.part_sums-sums.result.rain (more_fits c.loop-k.k c.loop-k.ice.rain (omega arith) c.loop-k.invariant.small_rain) (wider (2 ^ 20) (2 ^ 30) c.part_sums-sums.result.rain (omega arith) small.rain)

pub overflow_add-ice-then-area-place_in-ne0 : goal.overflow_add-ice-then-area-place_in-ne0
overflow_add-ice-then-area-place_in-ne0 c =
    let small = few_small c.args.refs.now _ c.part_sums-sums.result c.requires.refs c.requires.rows.few c.part_sums-sums.ensures.small in
    sum_fits c.loop-k.ice.heat c.part_sums-sums.result.heat (more_fits c.loop-k.k c.loop-k.ice.heat (omega arith) c.loop-k.invariant.small_heat) (wider (2 ^ 20) (2 ^ 30) c.part_sums-sums.result.heat (omega arith) small.heat)

pub loop-k-preserved : goal.loop-k-preserved
loop-k-preserved c =
    let n = c.args.n in
    let k = c.loop-k.k in
    let categories = c.args.parts.now.categories in
    let xgrid = c.args.xgrid.now in
    let flows = c.args.flows.now in
    let inv = c.loop-k.invariant in
    let wanted : ℕ → ℤ = λ j. at c.args.heat.now (n * categories + j) +ℤ category_gain xgrid flows n j in
    let rain_more = sum_to_more (λ j. (ocean_sums xgrid flows n (j + 1)).rain) k in
    let heat_more = sum_to_more (λ j. (ocean_sums xgrid flows n (j + 1)).heat) k in
    let old = inv.ahead (n * categories + k) (omega arith) in
    elim c.if-area-place_in-ne0.branch [
      | then-area-place_in-ne0 w ↦
          let sums = w.part_sums-sums.result in
          let small = few_small c.args.refs.now _ sums c.requires.refs c.requires.rows.few w.part_sums-sums.ensures.small in
          let is = sums_here xgrid flows n (k + 1) c.args.refs.now c.rows-rows.result.now sums c.rows-rows.ensures c.requires.refs w.part_sums-sums.ensures.value in
          let gain = gain_is sums (ocean_sums xgrid flows n (k + 1)) is small in
          let now = at c.loop-k.heat (n * categories + k) in
          let read : to_z w64 (of_z w64 now) ≡ now = omega (arith, ints) in
          let value = amount_passed w.gained.result w.gained.ensures.range ∙ w.gained.ensures.value ∙ (λ i. (read ∙ old) i +ℤ gain i) in
          let within = place_within (cells_of xgrid.ocean) categories n k c.requires.cell (omega arith) in
          let place : n * categories + k < length c.loop-k.heat = omega (arith, within, c.requires.heat, c.loop-k.auto.heat) in
          let rain_is = ap (λ (s : Sums). s.rain) is in
          let heat_is = ap (λ (s : Sums). s.heat) is in
          let rain = ap (λ (ice : IceTaken). ice.rain) w.ice-is in
          let heat = ap (λ (ice : IceTaken). ice.heat) w.ice-is in
          record {
            last = inv.last;
            heat = λ j l. ap (λ (xs : List ℤ). at xs (n * categories + j)) w.heat-is ∙ row_more wanted c.loop-k.heat (n * categories) k (pos 0) _ place inv.heat value j l;
            before = λ m l. ap (λ (xs : List ℤ). at xs m) w.heat-is ∙ others_stay c.loop-k.heat c.args.heat.now (n * categories) k (pos 0) _ inv.before m l;
            ahead = λ m l. ap (λ (xs : List ℤ). at xs m) w.heat-is ∙ ahead_stay c.loop-k.heat c.args.heat.now (n * categories + k) (pos 0) _ inv.ahead m (omega (arith, l));
            rain = rain ∙ more_is c.loop-k.ice.rain sums.rain k (omega arith) inv.small_rain small.rain ∙ (λ i. inv.rain i +ℤ rain_is i) ∙ sym rain_more;
            taken = heat ∙ more_is c.loop-k.ice.heat sums.heat k (omega arith) inv.small_heat small.heat ∙ (λ i. inv.taken i +ℤ heat_is i) ∙ sym heat_more;
            small_rain = subst (IsSmall ((k + 1) * 2 ^ 20)) (sym rain) (more_small c.loop-k.ice.rain sums.rain k (omega arith) inv.small_rain small.rain);
            small_heat = subst (IsSmall ((k + 1) * 2 ^ 20)) (sym heat) (more_small c.loop-k.ice.heat sums.heat k (omega arith) inv.small_heat small.heat);
          }
      | else-area-place_in-ne0 w ↦
          let place : c.place_in.result ≡ place_in (cells_of xgrid.ocean) n (k + 1) = c.place_in.ensures ∙ ap (λ (cells : ℕ). place_in cells n (k + 1)) c.requires.parts.ends.count in
          let empty : at c.args.parts.now.area.now c.place_in.result ≡ pos 0 = omega (arith, ints, w.if-area-place_in-ne0.false) in
          let nothing = c.requires.still (k + 1) (omega arith) (ap (at c.args.parts.now.area.now) (sym place) ∙ empty) in
          let gain : category_gain xgrid flows n k ≡ pos 0 = (λ i. (nothing i).heat +ℤ (nothing i).sun) in
          let rain_none = ap (λ (s : Sums). s.rain) nothing in
          let heat_none = ap (λ (s : Sums). s.heat) nothing in
          let rain = ap (λ (ice : IceTaken). ice.rain) w.ice-is in
          let heat = ap (λ (ice : IceTaken). ice.heat) w.ice-is in
          let own : at c.loop-k.heat (n * categories + k) ≡ wanted k = omega (arith, ints, old, gain) in
          record {
            last = inv.last;
            heat = λ j l. ap (λ (xs : List ℤ). at xs (n * categories + j)) w.heat-is ∙ row_passed wanted c.loop-k.heat (n * categories) k (pos 0) inv.heat own j l;
            before = λ m l. ap (λ (xs : List ℤ). at xs m) w.heat-is ∙ inv.before m l;
            ahead = λ m l. ap (λ (xs : List ℤ). at xs m) w.heat-is ∙ inv.ahead m (omega (arith, l));
            rain = rain ∙ kept (λ j. (ocean_sums xgrid flows n (j + 1)).rain) k c.loop-k.ice.rain inv.rain rain_none;
            taken = heat ∙ kept (λ j. (ocean_sums xgrid flows n (j + 1)).heat) k c.loop-k.ice.heat inv.taken heat_none;
            small_rain = subst (IsSmall ((k + 1) * 2 ^ 20)) (sym rain) (wider (k * 2 ^ 20) ((k + 1) * 2 ^ 20) c.loop-k.ice.rain (omega arith) inv.small_rain);
            small_heat = subst (IsSmall ((k + 1) * 2 ^ 20)) (sym heat) (wider (k * 2 ^ 20) ((k + 1) * 2 ^ 20) c.loop-k.ice.heat (omega arith) inv.small_heat);
          }
    ]

-- nothing flows to a category that isn't looked at
behind : (xgrid : XGridLists) (flows : List Flow) (area : List ℤ) (categories n used : ℕ) → IsEnd area (cells_of xgrid.ocean) (categories + 1) n used → IsStill xgrid flows area categories n
    → (k : ℕ) → used - 1 ≤ k → k < categories → ocean_sums xgrid flows n (k + 1) ≡ none
behind xgrid flows area categories n used end still k past l = still (k + 1) (omega (arith, l)) (end.rest (k + 1) (omega (arith, past)) (omega (arith, l)))

pub returns-clause-heat : goal.returns-clause-heat
returns-clause-heat c k l =
    let categories = c.args.parts.now.categories in
    let n = c.args.n in
    let xgrid = c.args.xgrid.now in
    let flows = c.args.flows.now in
    let inv = c.loop-k.invariant in
    elim (cases_lt k c.loop-k.k) [
      | inl here ↦ inv.heat k here
      | inr past ↦
          let nothing = behind xgrid flows c.args.parts.now.area.now categories n _ (c.requires.parts.ends.each n c.requires.cell) c.requires.still k (omega arith) l in
          let gain : category_gain xgrid flows n k ≡ pos 0 = (λ i. (nothing i).heat +ℤ (nothing i).sun) in
          let old = inv.ahead (n * categories + k) (omega (arith, past)) in
          omega (arith, ints, old, gain)
    ]

pub returns-clause-value : goal.returns-clause-value
unfolding ice_of
returns-clause-value c =
    let categories = c.args.parts.now.categories in
    let xgrid = c.args.xgrid.now in
    let flows = c.args.flows.now in
    let n = c.args.n in
    let most : c.loop-k.k ≤ categories = omega arith in
    let f : ℕ → ℤ = λ j. (ocean_sums xgrid flows n (j + 1)).rain in
    let g : ℕ → ℤ = λ j. (ocean_sums xgrid flows n (j + 1)).heat in
    let nothing : (k : ℕ) → c.loop-k.k ≤ k → k < categories → ocean_sums xgrid flows n (k + 1) ≡ none =
    (λ k past l. behind xgrid flows c.args.parts.now.area.now categories n _ (c.requires.parts.ends.each n c.requires.cell) c.requires.still k (omega arith) l) in
    let rain = c.loop-k.invariant.rain ∙ sum_to_end f c.loop-k.k categories most (λ k past l. ap (λ (s : Sums). s.rain) (nothing k past l)) ∙ sym (total_range f categories) in
    let heat = c.loop-k.invariant.taken ∙ sum_to_end g c.loop-k.k categories most (λ k past l. ap (λ (s : Sums). s.heat) (nothing k past l)) ∙ sym (total_range g categories) in
    λ i. record { rain = rain i; heat = heat i }
