-- Where no fault is found, a plan is lawful; and the budget in this machine's words.
use Rattle.std.proofs.Common.{◌≡◌, refl, subst, Bool, true, false, cond, arith, Option, Some, None}
use Rattle.std.specs.Prelude.{ℤ, pos, ◌≤ℤ◌, int_lt, Result}
use Rattle.std.specs.Option.{option_map}
use Rattle.std.proofs.lemmas.Int.{ints}
use Rattle.cpl_fixed.specs.declared.limits.TheConstants.{MOST_TOTAL}
use Rattle.cpl_fixed.specs.declared.words.Component.{Component}
use Rattle.cpl_fixed.specs.declared.words.Component.TheVariants.{Atmos, Land, Ice, Ocean}
use Rattle.cpl_fixed.specs.declared.words.Quantity.{Quantity}
use Rattle.cpl_fixed.specs.declared.words.Quantity.TheVariants.{Heat, Water, Salt}
use Rattle.cpl_layout.specs.Layouts.{IsLayout, layout_fault}
use Rattle.cpl_namelist.specs.declared.names.Names.{Names}
use Rattle.cpl_namelist.specs.Ranges.{AreNames}
use Rattle.cpl_xgrid.specs.declared.grid.Grid.{Grid}
use Rattle.cpl_xgrid.specs.Grids.{IsGrid}
use Rattle.cpl_xgrid.specs.Rules.{tiles_of}
use Rattle.cpl_state.specs.declared.whole.Whole.{Whole}
use Rattle.cpl_state.specs.Budget.{IsWithinBudget, budget_fault, budget_of, if_above}
use Rattle.cpl_state.specs.Diffusion.{IsAirMesh}
use Rattle.cpl_state.specs.States.{IsWhole}
use Rattle.cpl_wires.specs.Settings.{Setting, layout_of}
use Rattle.cpl_plan.specs.declared.error.PlanError.{PlanError}
use Rattle.cpl_plan.specs.declared.error.PlanError.TheVariants as fault
use Rattle.cpl_plan.specs.Faults.{Judges, component_fault, date_fault, layout_at, layouts_fault, or_else, over_budget}
use Rattle.cpl_plan.specs.Plans.{HasLayouts, IsPlan}
use Rattle.cpl_plan.proofs.Dates.{date_none}

-- NONE OF SEVERAL

none_first : (a b : Option PlanError) → or_else a b ≡ None → a ≡ None
none_first (Some e) b h = absurd (cc)
none_first None b h = refl

none_later : (a b : Option PlanError) → or_else a b ≡ None → b ≡ None
none_later (Some e) b h = absurd (cc)
none_later None b h = h

unmapped : {A B : Type 0} (f : A → B) (o : Option A) → option_map f o ≡ None → o ≡ None
unmapped f (Some x) h = absurd (cc)
unmapped f None h = refl

-- THE BUDGET

chosen_first : (b : Bool) (x : Quantity × ℤ) (later : Option (Quantity × ℤ)) → cond b (Some x) later ≡ None → b ≡ false
chosen_first true x later h = absurd (cc)
chosen_first false x later h = refl

chosen_later : (b : Bool) (x : Quantity × ℤ) (later : Option (Quantity × ℤ)) → cond b (Some x) later ≡ None → later ≡ None
chosen_later true x later h = absurd (cc)
chosen_later false x later h = h

not_above : (x y : ℤ) → int_lt x y ≡ false → y ≤ℤ x
not_above x y e = grind (arith, ints)

within : (total : ℤ) (quantity : Quantity) (later : Option (Quantity × ℤ)) → if_above total quantity later ≡ None → total ≤ℤ pos MOST_TOTAL
within total quantity later h = not_above (pos MOST_TOTAL) total (chosen_first (int_lt (pos MOST_TOTAL) total) (quantity, total) later h)

later_none : (total : ℤ) (quantity : Quantity) (later : Option (Quantity × ℤ)) → if_above total quantity later ≡ None → later ≡ None
later_none total quantity later h = chosen_later (int_lt (pos MOST_TOTAL) total) (quantity, total) later h

abbrev three : (heat water salt : ℤ) → Option (Quantity × ℤ)
three heat water salt = if_above heat Heat (if_above water Water (if_above salt Salt None))

all_within : (names : Names) (grid : Grid) (start : Whole) → budget_fault grid names start ≡ None → IsWithinBudget names.steps grid names start
all_within names grid start none =
    let heat = budget_of names.steps grid names start Heat in
    let water = budget_of names.steps grid names start Water in
    let salt = budget_of names.steps grid names start Salt in
    let last = if_above salt Salt None in
    let after_heat = later_none heat Heat (if_above water Water last) none in
    let after_water = later_none water Water last after_heat in
    record {
      heat = within heat Heat (if_above water Water last) none;
      water = within water Water last after_heat;
      salt = within salt Salt None after_water;
    }

-- what judges these totals judges their equals
pub judged_alike : (h w s heat water salt : ℤ) (r : Result (Unit {0}) PlanError) → h ≡ heat → w ≡ water → s ≡ salt
    → Judges (option_map over_budget (three h w s)) r → Judges (option_map over_budget (three heat water salt)) r
judged_alike h w s heat water salt r e f g judges = subst (λ (found : Option (Quantity × ℤ)). Judges (option_map over_budget found) r) (λ i. three (e i) (f i) (g i)) judges

-- LAYOUTS

pub have_layouts : (grid : Grid) (names : Names) → let setting : Setting = record { grid = grid; names = names } in
    IsLayout (layout_of setting Atmos) → IsLayout (layout_of setting Land) → IsLayout (layout_of setting Ice) → IsLayout (layout_of setting Ocean)
    → (component : Component) → IsLayout (layout_of setting component)
have_layouts grid names air land ice ocean Atmos = air
have_layouts grid names air land ice ocean Land = land
have_layouts grid names air land ice ocean Ice = ice
have_layouts grid names air land ice ocean Ocean = ocean

-- ALL

pub is_plan : (grid : Grid) (names : Names) (start : Whole) → IsGrid grid → IsAirMesh grid.air → AreNames names → IsWhole grid start
    → HasLayouts grid names → layouts_fault grid names ≡ None → date_fault names start ≡ None → option_map over_budget (budget_fault grid names start) ≡ None
    → IsPlan (record { grid = grid; names = names; start = start })
is_plan grid names start grid_is air_is names_are start_is fit layouts date budget =
    let air = component_fault Atmos (tiles_of grid.air) (layout_at names 0) in
    let land = component_fault Land (tiles_of grid.land) (layout_at names 1) in
    let ice = component_fault Ice (tiles_of grid.ocean) (layout_at names 2) in
    let ocean = component_fault Ocean (tiles_of grid.ocean) (layout_at names 3) in
    let after_air = none_later air (or_else land (or_else ice ocean)) layouts in
    let after_land = none_later land (or_else ice ocean) after_air in
    let in_time = date_none names start date in
    record {
      grid_is = grid_is;
      air_is = air_is;
      names_are = names_are;
      start_is = start_is;
      atmos = unmapped (fault.Layout Atmos) (layout_fault (tiles_of grid.air) (layout_at names 0).0 (layout_at names 0).1) (none_first air (or_else land (or_else ice ocean)) layouts);
      land = unmapped (fault.Layout Land) (layout_fault (tiles_of grid.land) (layout_at names 1).0 (layout_at names 1).1) (none_first land (or_else ice ocean) after_air);
      ice = unmapped (fault.Layout Ice) (layout_fault (tiles_of grid.ocean) (layout_at names 2).0 (layout_at names 2).1) (none_first ice ocean after_land);
      ocean = unmapped (fault.Layout Ocean) (layout_fault (tiles_of grid.ocean) (layout_at names 3).0 (layout_at names 3).1) (none_later ice ocean after_land);
      layouts = fit;
      time = in_time.0;
      date = in_time.1;
      budget = all_within names grid start (unmapped over_budget (budget_fault grid names start) budget);
    }
