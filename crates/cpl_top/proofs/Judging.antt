-- What commands come to, step by step.
use Rattle.std.proofs.Common.{◌≡◌, ◌∙◌, sym, ap, subst, ℕ, List, Option, Result, Ok, Err}
use Rattle.cpl_fixed.specs.declared.words.Quantity.TheVariants.{Heat, Water}
use Rattle.cpl_mosaic.specs.declared.mosaic.Mesh.{Mesh}
use Rattle.cpl_gridfile.specs.Reading.{air_grid_of}
use Rattle.cpl_state.specs.declared.air.Air.{Air}
use Rattle.cpl_restart.specs.AirBytes.{air_of}
use Rattle.cpl_state.specs.Diffusion.{cell_count, air_after}
use Rattle.cpl_top.specs.declared.output.Reply.{Reply}
use Rattle.cpl_top.specs.declared.pieces.Pieces.{Pieces}
use Rattle.cpl_fixed.specs.Results.{◌>>=◌, Fails}
use Rattle.cpl_fixed.specs.Totals.{total_of}
use Rattle.cpl_restart.specs.Sections.{is_memory}
use Rattle.cpl_restart.specs.declared.start_error.StartError.{StartError}
use Rattle.cpl_restart.specs.declared.start_error.StartError.TheVariants as start
use Rattle.cpl_top.specs.Causes.{Refuses}
use Rattle.cpl_top.specs.declared.status.Status.{Status}
use Rattle.cpl_top.specs.declared.status.Status.TheVariants as status
use Rattle.cpl_namelist.specs.declared.fault.NamesError.{NamesError}
use Rattle.cpl_namelist.specs.declared.fault.NamesError.TheVariants as names
use Rattle.cpl_plan.specs.declared.error.PlanError.{PlanError}
use Rattle.cpl_plan.specs.declared.error.PlanError.TheVariants as plan
use Rattle.cpl_plan.specs.Faults.{IsFirstFault}
use Rattle.cpl_top.specs.Judging.{as_grid, as_names, as_start, as_plan, names_status, start_status, plan_status, budget}
use Rattle.cpl_top.specs.Solo.{air_layout, solo_reply, solo_answer}

-- a step that succeeds, and what comes after it
pub goes_on : {A B E : Type 0} (r : Result A E) (f : A → Result B E) (x : A) (y : Result B E) → r ≡ Ok x → f x ≡ y → (r >>= f) ≡ y
goes_on r f x y e h = ap (λ r. r >>= f) e ∙ h

-- a refusal of what comes after a step that succeeds
pub refuses_after : {A B : Type 0} (r : Result A Status) (f : A → Result B Status) (x : A) (s : Status) → r ≡ Ok x → Refuses s (f x) → Refuses s (r >>= f)
refuses_after r f x s e h = subst (λ r. Refuses s (r >>= f)) (sym e) h

-- a step that refuses, whatever would come after it
pub refuses_on : {A B : Type 0} (s : Status) (r : Result A Status) (f : A → Result B Status) → Refuses s r → Refuses s (r >>= f)
refuses_on status.Done r f h = h
refuses_on status.Usage r f h = h
refuses_on (status.Read file) r f h = h
refuses_on (status.TooLong file) r f h = h
refuses_on (status.Grid fault) r f h = ap (λ r. r >>= f) h
refuses_on (status.Names fault) r f h = ap (λ r. r >>= f) h
refuses_on (status.Start fault) r f h = ap (λ r. r >>= f) h
refuses_on (status.Budget quantity total) r f h = ap (λ r. r >>= f) h
refuses_on (status.Write file) r f h = h
refuses_on status.Print r f h = h
refuses_on status.Memory r f h = h

-- a namelist at fault, whatever would come after it
pub names_refuses : {A B : Type 0} (fault : NamesError) (r : Result A NamesError) (f : A → Result B Status) → r ≡ Err fault → Refuses (names_status fault) (as_names r >>= f)
names_refuses (names.Syntax line) r f e = ap (λ r. as_names r >>= f) e
names_refuses (names.UnknownGroup line) r f e = ap (λ r. as_names r >>= f) e
names_refuses (names.UnknownName line) r f e = ap (λ r. as_names r >>= f) e
names_refuses (names.Twice line) r f e = ap (λ r. as_names r >>= f) e
names_refuses (names.Value line) r f e = ap (λ r. as_names r >>= f) e
names_refuses (names.Missing name) r f e = ap (λ r. as_names r >>= f) e
names_refuses (names.Step rule) r f e = ap (λ r. as_names r >>= f) e
names_refuses (names.Layout component layout) r f e = ap (λ r. as_names r >>= f) e
names_refuses (names.Date seconds) r f e = ap (λ r. as_names r >>= f) e
names_refuses names.Memory r f e = tt

-- a plan at fault. Out of memory is free
pub plan_refuses : {B : Type 0} (fault : PlanError) (found : Option PlanError) (f : Unit {0} → Result B Status) → IsFirstFault found fault → Refuses (plan_status fault) (as_plan found >>= f)
plan_refuses (plan.Layout component layout) found f e = ap (λ found. as_plan found >>= f) e
plan_refuses (plan.Date seconds) found f e = ap (λ found. as_plan found >>= f) e
plan_refuses (plan.Budget quantity total) found f e = ap (λ found. as_plan found >>= f) e
plan_refuses plan.Memory found f e = tt

-- a start at fault, whatever would come after it. Out of memory is free
pub start_refuses : {A B : Type 0} (fault : StartError) (r : Result A StartError) (f : A → Result B Status) → Fails is_memory fault r → Refuses (start_status fault) (as_start r >>= f)
start_refuses start.Short r f e = ap (λ r. as_start r >>= f) e
start_refuses start.Magic r f e = ap (λ r. as_start r >>= f) e
start_refuses (start.Shape section) r f e = ap (λ r. as_start r >>= f) e
start_refuses (start.Sum section stated found) r f e = ap (λ r. as_start r >>= f) e
start_refuses start.Trailing r f e = ap (λ r. as_start r >>= f) e
start_refuses (start.Negative section index) r f e = ap (λ r. as_start r >>= f) e
start_refuses (start.Parts cell) r f e = ap (λ r. as_start r >>= f) e
start_refuses (start.Dry section index) r f e = ap (λ r. as_start r >>= f) e
start_refuses (start.Wall index) r f e = ap (λ r. as_start r >>= f) e
start_refuses start.Memory r f e = tt

module _ (out : List ℕ) (steps cells : ℕ) (pieces : Option Pieces) (grid start : List ℕ) (mesh : Mesh) (air last : Air) (reply : Reply) where
  pub judged_to :
      air_grid_of grid ≡ Ok mesh
      → cells ≡ cell_count mesh
      → air_of cells start ≡ Ok air
      → air_layout pieces mesh.mosaic.tiles ≡ Ok tt
      → budget Heat (total_of air.heat) ≡ Ok tt
      → budget Water (total_of air.vapour) ≡ Ok tt
      → last ≡ air_after steps mesh air
      → reply ≡ solo_reply out steps cells last
      → solo_answer out steps pieces grid start ≡ Ok reply
  judged_to is_mesh count is_air fits heat water is_last is_reply =
      goes_on _ _ mesh _ (ap as_grid is_mesh)
      (goes_on _ _ air _ (ap as_start (ap (λ n. air_of n start) (sym count) ∙ is_air))
      (goes_on _ _ tt _ fits
      (goes_on _ _ tt _ heat
      (goes_on _ _ tt _ water (ap (λ o. Ok o) (sym (is_reply ∙ (λ i. solo_reply out steps (count i) (is_last i)))))))))
