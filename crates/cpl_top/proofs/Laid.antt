-- The layouts of names that were read fit the mosaics of a grid that was read, where no fault is found.
use Rattle.std.proofs.Common.{◌≡◌, refl, subst, ℕ, ◌*◌, arith, Bool, true, false, cond, nat_lt, List, [], ◌∷◌, length, Option, Some, None, Result, Ok, Err}
use Rattle.std.specs.Prelude.{position, slice_index_or}
use Rattle.std.specs.List.{AllByRecursion}
use Rattle.std.specs.Option.{option_map}
use Rattle.std.proofs.lemmas.Bool.{ltb-false}
use Rattle.cpl_fixed.specs.Results.{◌>>=◌}
use Rattle.cpl_fixed.specs.declared.limits.TheConstants.{MOST_PIECES}
use Rattle.cpl_fixed.specs.declared.words.Component.{Component}
use Rattle.cpl_fixed.specs.declared.words.Component.TheVariants.{Atmos, Land, Ice, Ocean}
use Rattle.cpl_fixed.specs.declared.words.LayoutError.{LayoutError}
use Rattle.cpl_fixed.specs.declared.words.LayoutError.TheVariants.{TooManyPieces, TooFine}
use Rattle.cpl_mosaic.specs.declared.parts.Tile.{Tile}
use Rattle.cpl_mosaic.specs.Contacts.{AreTiles}
use Rattle.cpl_layout.specs.Layouts.{IsLayout as IsCut, is_too_fine, layout_fault}
use Rattle.cpl_layout.proofs.Fits.{layout_is}
use Rattle.cpl_namelist.specs.declared.names.Names.{Names}
use Rattle.cpl_namelist.specs.declared.fault.NamesError.{NamesError}
use Rattle.cpl_namelist.specs.declared.fault.Required.{Required}
use Rattle.cpl_namelist.specs.Names.{missing, names_of, names_with, run_length, steps_of, unless_missing}
use Rattle.cpl_namelist.specs.Ranges.{AreNames, IsLayout}
use Rattle.cpl_namelist.specs.Settings.{Choices, number}
use Rattle.cpl_namelist.specs.declared.places.TheConstants as places
use Rattle.cpl_xgrid.specs.declared.grid.Grid.{Grid}
use Rattle.cpl_xgrid.specs.Rules.{tiles_of}
use Rattle.cpl_plan.specs.declared.error.PlanError.{PlanError}
use Rattle.cpl_plan.specs.declared.error.PlanError.TheVariants as fault
use Rattle.cpl_plan.specs.Faults.{component_fault, layout_at, layouts_fault, or_else}
use Rattle.cpl_plan.specs.Plans.{HasLayouts}
use Rattle.cpl_plan.proofs.Lawful.{have_layouts}
use Rattle.cpl_whole.specs.Laws.{HasMosaics}

-- ---- four layouts

with_steps : {A : Type 0} (named : A → Names) → ((steps : A) → length (named steps).layouts ≡ 4) → (required : Option Required) (steps : Result A NamesError) (names : Names)
    → unless_missing required (steps >>= λ s. Ok (named s)) ≡ Ok names → length names.layouts ≡ 4
with_steps named four (Some required) steps names e = absurd cc
with_steps named four None (Err error) names e = absurd cc
with_steps named four None (Ok steps) names e = let same : named steps ≡ names = cc in subst (λ (n : Names). length n.layouts ≡ 4) same (four steps)

-- names that were read have a layout for each component
pub four_layouts : (chosen : Choices) (names : Names) → names_of chosen ≡ Ok names → length names.layouts ≡ 4
unfolding names_of
four_layouts chosen names e =
    with_steps (names_with chosen) (λ steps. refl) (missing chosen) (steps_of (number chosen places.DT_ATMOS 0) (number chosen places.DT_CPLD 0) (number chosen places.DT_OCEAN 0) (run_length chosen)) names e

record InRanges (layouts : List (ℕ × ℕ)) : Type 0 where
  air : IsLayout (slice_index_or layouts 0 (0, 0))
  land : IsLayout (slice_index_or layouts 1 (0, 0))
  ice : IsLayout (slice_index_or layouts 2 (0, 0))
  ocean : IsLayout (slice_index_or layouts 3 (0, 0))

in_ranges : (layouts : List (ℕ × ℕ)) → length layouts ≡ 4 → AllByRecursion IsLayout layouts → InRanges layouts
in_ranges [] e all = absurd (omega (arith, e))
in_ranges (a ∷ []) e all = absurd (omega (arith, e))
in_ranges (a ∷ b ∷ []) e all = absurd (omega (arith, e))
in_ranges (a ∷ b ∷ c ∷ []) e all = absurd (omega (arith, e))
in_ranges (a ∷ b ∷ c ∷ d ∷ others) e all = record { air = all.0; land = all.1.0; ice = all.1.1.0; ocean = all.1.1.1.0 }

-- ---- no fault

none_first : (a b : Option PlanError) → or_else a b ≡ None → a ≡ None
none_first (Some fault) b e = absurd cc
none_first None b e = refl

none_later : (a b : Option PlanError) → or_else a b ≡ None → b ≡ None
none_later (Some fault) b e = absurd cc
none_later None b e = e

no_fault : (component : Component) (found : Option LayoutError) → option_map (fault.Layout component) found ≡ None → found ≡ None
no_fault component None e = refl
no_fault component (Some found) e = absurd cc

both_kept : (many : Bool) (count : ℕ) (fine : Option ℕ) → cond many (Some (TooManyPieces count)) (option_map TooFine fine) ≡ None → (many ≡ false) × (fine ≡ None)
both_kept true count fine e = absurd cc
both_kept false count None e = (refl, refl)
both_kept false count (Some tile) e = absurd cc

-- tiles that can be cut so are a layout
is_cut : (tiles : List Tile) (layout : ℕ × ℕ) → AreTiles tiles → IsLayout layout → layout_fault tiles layout.0 layout.1 ≡ None
    → IsCut (record { tiles = tiles; px = layout.0; py = layout.1 })
is_cut tiles layout sizes range none =
    let kept = both_kept (nat_lt MOST_PIECES (length tiles * layout.0 * layout.1)) (length tiles * layout.0 * layout.1) (position (is_too_fine layout.0 layout.1) tiles) none in
    layout_is tiles layout.0 layout.1 sizes range.0.0 range.1.0 (ltb-false MOST_PIECES (length tiles * layout.0 * layout.1) kept.0) kept.1

pub lays : (grid : Grid) (names : Names) → HasMosaics grid → AreNames names → length names.layouts ≡ 4 → layouts_fault grid names ≡ None → HasLayouts grid names
lays grid names mosaics are four none =
    let range = in_ranges names.layouts four are.layouts in
    let air = component_fault Atmos (tiles_of grid.air) (layout_at names 0) in
    let land = component_fault Land (tiles_of grid.land) (layout_at names 1) in
    let ice = component_fault Ice (tiles_of grid.ocean) (layout_at names 2) in
    let ocean = component_fault Ocean (tiles_of grid.ocean) (layout_at names 3) in
    let after_air = none_later air (or_else land (or_else ice ocean)) none in
    let after_land = none_later land (or_else ice ocean) after_air in
    have_layouts grid names
    (is_cut (tiles_of grid.air) (layout_at names 0) mosaics.air.sizes range.air (no_fault Atmos (layout_fault (tiles_of grid.air) (layout_at names 0).0 (layout_at names 0).1) (none_first air (or_else land (or_else ice ocean)) none)))
    (is_cut (tiles_of grid.land) (layout_at names 1) mosaics.land.sizes range.land (no_fault Land (layout_fault (tiles_of grid.land) (layout_at names 1).0 (layout_at names 1).1) (none_first land (or_else ice ocean) after_air)))
    (is_cut (tiles_of grid.ocean) (layout_at names 2) mosaics.ocean.sizes range.ice (no_fault Ice (layout_fault (tiles_of grid.ocean) (layout_at names 2).0 (layout_at names 2).1) (none_first ice ocean after_land)))
    (is_cut (tiles_of grid.ocean) (layout_at names 3) mosaics.ocean.sizes range.ocean (no_fault Ocean (layout_fault (tiles_of grid.ocean) (layout_at names 3).0 (layout_at names 3).1) (none_later ice ocean after_land)))
