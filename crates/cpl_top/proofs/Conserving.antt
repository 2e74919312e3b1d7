-- The plan that bytes make is lawful, and nothing is lost in its run.
use Rattle.std.proofs.Common.{◌≡◌, refl, subst, ℕ, ◌<◌, arith, List, length, Option, Some, None, Result, Ok, Err, inl, inr}
use Rattle.std.specs.Prelude.{All, IfOk}
use Rattle.std.specs.Option.{option_map}
use Rattle.std.proofs.lemmas.Bool.{cases_lt}
use Rattle.std.proofs.lemmas.List.{get_or_past}
use Rattle.cpl_fixed.specs.Results.{◌>>=◌}
use Rattle.cpl_fixed.specs.declared.words.Component.{Component}
use Rattle.cpl_fixed.specs.declared.words.Component.TheVariants.{Atmos, Land, Ocean}
use Rattle.cpl_mosaic.specs.declared.mosaic.Mesh.{Mesh}
use Rattle.cpl_mosaic.specs.declared.parts.MosaicError.{MosaicError}
use Rattle.cpl_mosaic.specs.Contacts.{IsMosaic, contact_fault}
use Rattle.cpl_xgrid.specs.declared.grid.Grid.{Grid}
use Rattle.cpl_gridfile.specs.declared.fault.GridError.{GridError}
use Rattle.cpl_gridfile.specs.AirGrid.{air_fault}
use Rattle.cpl_gridfile.specs.CoupledGrid.{IsCoupledGrid, coupled_grids, exchange_fault, parts_of_grid}
use Rattle.cpl_gridfile.specs.Reading.{coupled_grid_of}
use Rattle.cpl_gridfile.specs.Rules.{◌then◌, area_fault, at_contact, mosaic_fault}
use Rattle.cpl_gridfile.specs.Within.{IsWithinLimits}
use Rattle.cpl_gridfile.proofs.CoupledLaws.{coupled_agrees}
use Rattle.cpl_gridfile.proofs.Laws.{reads_grid}
use Rattle.cpl_namelist.specs.declared.fault.NamesError.{NamesError}
use Rattle.cpl_namelist.specs.declared.names.Names.{Names}
use Rattle.cpl_namelist.specs.Names.{names_of, reading, unless_syntax}
use Rattle.cpl_namelist.specs.Ranges.{AreNames}
use Rattle.cpl_namelist.specs.Settings.{judged, nothing}
use Rattle.cpl_namelist.specs.Syntax.{syntax_fault}
use Rattle.cpl_namelist.specs.Tokens.{last_line, tokens}
use Rattle.cpl_namelist.specs.declared.syntax.State.TheVariants.{Outside}
use Rattle.cpl_namelist.proofs.Fine.{judged_fine, nothing_fine}
use Rattle.cpl_namelist.proofs.Named.{names_in}
use Rattle.cpl_plan.specs.declared.error.PlanError.{PlanError}
use Rattle.cpl_plan.specs.Faults.{date_fault, layouts_fault, or_else, over_budget, plan_fault}
use Rattle.cpl_plan.specs.Plans.{IsPlan, PlanParts}
use Rattle.cpl_plan.proofs.Lawful.{is_plan}
use Rattle.cpl_restart.specs.RestartBytes.{whole_of}
use Rattle.cpl_restart.specs.declared.start_error.StartError.{StartError}
use Rattle.cpl_restart.proofs.LawfulLaws.{Knows}
use Rattle.cpl_restart.proofs.RestartLaws.{whole_takes}
use Rattle.cpl_restart.proofs.Sizes.{IsSmall, within_limit, written_reads}
use Rattle.cpl_restart.proofs.Words.{IsBytes}
use Rattle.cpl_state.specs.declared.whole.Whole.{Whole}
use Rattle.cpl_state.specs.Budget.{budget_fault}
use Rattle.cpl_state.specs.States.{IsWhole}
use Rattle.cpl_top.proofs.Laid.{four_layouts, lays}
use Rattle.cpl_whole.specs.Laws.{HasMosaics}
use Rattle.cpl_whole.proofs.Grounds.{ground_is}
use Rattle.cpl_whole.proofs.Kept.{last_lawful, loses_nothing}
use Rattle.cpl_top.specs.Conserving.{Conserves, IsConserved}
use Rattle.cpl_top.specs.Judging.{as_grid, as_names, as_plan, as_start}
use Rattle.cpl_top.specs.Planned.{plan_of}
use Rattle.cpl_top.specs.Runs.{run_reply}
use Rattle.cpl_top.specs.Whole.{outcome_of, whole_answer}
use Rattle.cpl_top.specs.declared.status.Status.{Status}
use Rattle.cpl_top.proofs.Meshes.{coupled_air, coupled_is}

-- ---- steps that succeed

step_ok : {A B E : Type 0} (r : Result A E) (f : A → Result B E) (y : B) → (r >>= f) ≡ Ok y → (x : A) × (r ≡ Ok x) × (f x ≡ Ok y)
step_ok (Ok x) f y e = (x, refl, e)
step_ok (Err fault) f y e = absurd cc

grid_ok : {A : Type 0} (r : Result A GridError) (x : A) → as_grid r ≡ Ok x → r ≡ Ok x
grid_ok (Ok grid) x e = cc
grid_ok (Err fault) x e = absurd cc

names_ok : {A : Type 0} (r : Result A NamesError) (x : A) → as_names r ≡ Ok x → r ≡ Ok x
names_ok (Ok names) x e = cc
names_ok (Err fault) x e = absurd cc

start_ok : {A : Type 0} (r : Result A StartError) (x : A) → as_start r ≡ Ok x → r ≡ Ok x
start_ok (Ok start) x e = cc
start_ok (Err fault) x e = absurd cc

plan_ok : (found : Option PlanError) (x : Unit {0}) → as_plan found ≡ Ok x → found ≡ None
plan_ok None x e = refl
plan_ok (Some fault) x e = absurd cc

-- ---- the grid

first_none : (first others : Option GridError) → (first then others) ≡ None → first ≡ None
first_none None others e = refl
first_none (Some fault) others e = absurd cc

last_none : (first others : Option GridError) → (first then others) ≡ None → others ≡ None
last_none None others e = e
last_none (Some fault) others e = absurd cc

contacts_kept : (component : Component) (found : Option MosaicError) → at_contact component found ≡ None → found ≡ None
contacts_kept component None e = refl
contacts_kept component (Some fault) e = absurd cc

mosaic_is : (component : Component) (mesh : Mesh) → IsWithinLimits mesh → mosaic_fault component mesh ≡ None → IsMosaic mesh.mosaic.tiles mesh.mosaic.contacts
mosaic_is component mesh limits kept =
    record { sizes = limits.tiles; few = limits.few; rules = contacts_kept component (contact_fault mesh.mosaic.tiles mesh.mosaic.contacts) kept }

-- the mosaics of a grid that was read keep their rules
mosaics_are : (grid : Grid) → IsCoupledGrid grid → HasMosaics grid
mosaics_are grid is =
    let p = parts_of_grid grid in
    let limits = is.limits.limits in
    let after_ocean = exchange_fault p in
    let after_land = mosaic_fault Ocean p.ocean then after_ocean in
    let after_air = mosaic_fault Land p.land then after_land in
    let air = first_none (air_fault p.air) after_air is.rules in
    let land = last_none (air_fault p.air) after_air is.rules in
    let ocean = last_none (mosaic_fault Land p.land) after_land land in
    record {
      air = mosaic_is Atmos grid.air limits.air (last_none (area_fault p.air) (mosaic_fault Atmos p.air) air);
      land = mosaic_is Land grid.land limits.land (first_none (mosaic_fault Land p.land) after_land land);
      ocean = mosaic_is Ocean grid.ocean limits.ocean (first_none (mosaic_fault Ocean p.ocean) after_ocean ocean);
    }

grid_is : (bytes : List ℕ) (grid : Grid) → coupled_grid_of bytes ≡ Ok grid → IsCoupledGrid grid
unfolding coupled_grid_of
grid_is bytes grid e = (reads_grid coupled_grids coupled_agrees bytes grid e).0

-- ---- the namelist

no_syntax : (found : Option ℕ) (read : Result Names NamesError) (names : Names) → unless_syntax found read ≡ Ok names → read ≡ Ok names
no_syntax None read names e = e
no_syntax (Some line) read names e = absurd cc

in_ranges : (read : Result Names NamesError) (names : Names) → read ≡ Ok names → IfOk read AreNames → AreNames names
in_ranges (Ok found) names e are = let same : found ≡ names = cc in subst AreNames same are
in_ranges (Err fault) names e are = absurd cc

names_are : (bytes : List ℕ) (names : Names) → reading bytes ≡ Ok names → AreNames names
unfolding reading
names_are bytes names e =
    let read = no_syntax (syntax_fault (last_line bytes) Outside (tokens bytes)) (judged nothing (tokens bytes) >>= names_of) names e in
    let chosen = step_ok (judged nothing (tokens bytes)) names_of names read in
    in_ranges (names_of chosen.0) names chosen.2 (names_in chosen.0 (judged_fine (tokens bytes) nothing chosen.0 nothing_fine chosen.1))

four_names : (bytes : List ℕ) (names : Names) → reading bytes ≡ Ok names → length names.layouts ≡ 4
unfolding reading
four_names bytes names e =
    let read = no_syntax (syntax_fault (last_line bytes) Outside (tokens bytes)) (judged nothing (tokens bytes) >>= names_of) names e in
    let chosen = step_ok (judged nothing (tokens bytes)) names_of names read in
    four_layouts chosen.0 names chosen.2

-- ---- the start

bytes_are : (bytes : List ℕ) → All (λ byte. byte < 256) bytes → IsBytes bytes
bytes_are bytes all i =
    elim (cases_lt i (length bytes)) [
      | inl inside ↦ all i 0 inside
      | inr past ↦ rw (get_or_past bytes i 0 past) (omega arith)
    ]

-- ---- the plan

none_first : (a b : Option PlanError) → or_else a b ≡ None → a ≡ None
none_first (Some fault) b e = absurd cc
none_first None b e = refl

none_later : (a b : Option PlanError) → or_else a b ≡ None → b ≡ None
none_later (Some fault) b e = absurd cc
none_later None b e = e

fits : (grid : Grid) (names : Names) (start : Whole) → IsCoupledGrid grid → AreNames names → length names.layouts ≡ 4 → IsWhole grid start → plan_fault grid names start ≡ None
    → IsPlan (record { grid = grid; names = names; start = start })
fits grid names start is are four lawful none =
    let layouts = layouts_fault grid names in
    let date = date_fault names start in
    let budget = option_map over_budget (budget_fault grid names start) in
    let later = none_later layouts (or_else date budget) none in
    let fit = none_first layouts (or_else date budget) none in
    is_plan grid names start (coupled_is grid is) (coupled_air grid is) are lawful (lays grid names (mosaics_are grid is) are four fit)
    fit (none_first date budget later) (none_later date budget later)

-- the plan that bytes make is lawful
planned : (grid names start : List ℕ) (plan : PlanParts) → All (λ byte. byte < 256) start → plan_of grid names start ≡ Ok plan → IsPlan plan × HasMosaics plan.grid
planned grid names start plan bytes e =
    let a = step_ok (as_grid (coupled_grid_of grid)) (λ coupled. as_names (reading names) >>= λ given. as_start (whole_of coupled start) >>= λ whole.
    as_plan (plan_fault coupled given whole) >>= λ fits. Ok (record { grid = coupled; names = given; start = whole })) plan e in
    let coupled = a.0 in
    let b = step_ok (as_names (reading names)) (λ given. as_start (whole_of coupled start) >>= λ whole.
    as_plan (plan_fault coupled given whole) >>= λ fits. Ok (record { grid = coupled; names = given; start = whole })) plan a.2 in
    let given = b.0 in
    let c = step_ok (as_start (whole_of coupled start)) (λ whole. as_plan (plan_fault coupled given whole) >>= λ fits. Ok (record { grid = coupled; names = given; start = whole })) plan b.2 in
    let whole = c.0 in
    let d = step_ok (as_plan (plan_fault coupled given whole)) (λ fits. Ok (record { grid = coupled; names = given; start = whole })) plan c.2 in
    let made : PlanParts = record { grid = coupled; names = given; start = whole } in
    let same : made ≡ plan = cc in
    let is = grid_is grid coupled (grid_ok (coupled_grid_of grid) coupled a.1) in
    let are = names_are names given (names_ok (reading names) given b.1) in
    let four = four_names names given (names_ok (reading names) given b.1) in
    let lawful = (whole_takes coupled start whole (bytes_are start bytes) (start_ok (whole_of coupled start) whole c.1)).0 in
    subst (λ (p : PlanParts). IsPlan p × HasMosaics p.grid) same
    (fits coupled given whole is are four lawful (plan_ok (plan_fault coupled given whole) d.0 d.1), mosaics_are coupled is)

-- ---- its run

conserved : (out : List ℕ) (plan : PlanParts) → IsPlan plan → HasMosaics plan.grid → IsConserved out plan (run_reply out plan (outcome_of plan))
conserved out plan is mosaics =
    let ground = ground_is plan.grid is.grid_is is.air_is mosaics in
    let nothing_lost = loses_nothing plan is mosaics in
    let last = last_lawful plan is mosaics in
    let small : IsSmall plan.grid = record {
      air = mosaics.air.sizes.cells;
      land = mosaics.land.sizes.cells;
      ocean = mosaics.ocean.sizes.cells;
      faces = ground.ocean.faces.few;
      column = is.grid_is.column;
    } in
    let knows : Knows plan.grid = record { numbers = ground.ocean.numbers; mates = ground.ocean.mates; faces = ground.ocean.faces } in
    record {
      files = refl;
      balances = nothing_lost.balances;
      keeps = nothing_lost.keeps;
      within = within_limit plan.grid small (outcome_of plan).last last.lengths;
      back = written_reads plan.grid small (outcome_of plan).last knows last;
    }

of_plan : (out grid names start : List ℕ) → All (λ byte. byte < 256) start → (found : Result PlanParts Status) → plan_of grid names start ≡ found
    → IfOk (found >>= (λ plan. Ok (run_reply out plan (outcome_of plan)))) (λ reply. (plan : PlanParts) × (plan_of grid names start ≡ Ok plan) × IsConserved out plan reply)
of_plan out grid names start bytes (Ok plan) e =
    let lawful = planned grid names start plan bytes e in
    (plan, e, conserved out plan lawful.0 lawful.1)
of_plan out grid names start bytes (Err fault) e = tt

pub conserves : Conserves
unfolding whole_answer
conserves = λ out grid names start bytes. of_plan out grid names start bytes (plan_of grid names start) refl
