use Rattle.std.proofs.Common.{◌∙◌, ap, sym, subst, List, ℕ, Ok}
use Rattle.std.proofs.lemmas.Result.{err_from_is_err_and}
use Rattle.cpl_fixed.specs.Results.{Fails}
use Rattle.cpl_namelist.specs.Names.{reading}
use Rattle.cpl_plan.specs.Faults.{plan_fault}
use Rattle.cpl_restart.specs.RestartBytes.{whole_of}
use Rattle.cpl_restart.specs.Sections.{is_memory}
use Rattle.cpl_top.specs.Judging.{as_grid, as_names, as_start, as_plan}
use Rattle.cpl_top.proofs.Judging.{goes_on, refuses_after, names_refuses, start_refuses, plan_refuses}
use Rattle.cpl_top.proofs.Meshes.{coupled_is, coupled_air}
use Rattle.cpl_top.proofs.plan.plan_of.Goals as goal

pub decode-requires : goal.decode-requires
decode-requires c = record { grid = coupled_is c.in_ok-grid.grid c.in_ok-grid.ensures.found }

pub new-requires-clause-grid : goal.new-requires-clause-grid
new-requires-clause-grid c = coupled_is c.in_ok-grid.grid c.in_ok-grid.ensures.found

pub new-requires-clause-air : goal.new-requires-clause-air
new-requires-clause-air c = coupled_air c.in_ok-grid.grid c.in_ok-grid.ensures.found

pub returns-in_err-names : goal.returns-in_err-names
returns-in_err-names c =
    let fault = c.in_err-names.field-0.0 in
    let p = err_from_is_err_and c.from_residual-in_err-names.result c.from_residual-in_err-names.ensures.1 in
    rw (p.1, p.2)
    (refuses_after _ _ c.in_ok-grid.grid _ (ap as_grid c.in_ok-grid.ensures.exact)
    (names_refuses fault (reading c.args.inputs.names.items) _ (ap reading (sym c.deref.ensures.value) ∙ sym c.in_err-names.ensures.exact)))

pub returns-in_err-start : goal.returns-in_err-start
returns-in_err-start c =
    let fault = c.in_err-start.field-0.0 in
    let grid = c.in_ok-grid.grid in
    let p = err_from_is_err_and c.from_residual-in_err-start.result c.from_residual-in_err-start.ensures.1 in
    rw (p.1, p.2)
    (refuses_after _ _ grid _ (ap as_grid c.in_ok-grid.ensures.exact)
    (refuses_after _ _ c.in_ok-names.names _ (ap as_names (ap reading (sym c.deref.ensures.value) ∙ sym c.in_ok-names.ensures.exact))
    (start_refuses fault (whole_of grid c.args.inputs.start.items) _
    (subst (λ (bytes : List ℕ). Fails is_memory fault (whole_of grid bytes)) c.deref-2.ensures.value c.in_err-start.ensures.exact))))

pub returns-in_err-new : goal.returns-in_err-new
returns-in_err-new c =
    let fault = c.in_err-new.field-0.0 in
    let grid = c.in_ok-grid.grid in
    let names = c.in_ok-names.names in
    let start = c.in_ok-start.start in
    let p = err_from_is_err_and c.from_residual-in_err-new.result c.from_residual-in_err-new.ensures.1 in
    rw (p.1, p.2)
    (refuses_after _ _ grid _ (ap as_grid c.in_ok-grid.ensures.exact)
    (refuses_after _ _ names _ (ap as_names (ap reading (sym c.deref.ensures.value) ∙ sym c.in_ok-names.ensures.exact))
    (refuses_after _ _ start _ (ap as_start (ap (whole_of grid) (sym c.deref-2.ensures.value) ∙ c.in_ok-start.ensures.exact))
    (plan_refuses fault (plan_fault grid names start) _ c.in_err-new.ensures.fault))))

pub returns : goal.returns
returns c =
    let grid = c.in_ok-grid.grid in
    let names = c.in_ok-names.names in
    let start = c.in_ok-start.start in
    goes_on _ _ grid _ (ap as_grid c.in_ok-grid.ensures.exact)
    (goes_on _ _ names _ (ap as_names (ap reading (sym c.deref.ensures.value) ∙ sym c.in_ok-names.ensures.exact))
    (goes_on _ _ start _ (ap as_start (ap (whole_of grid) (sym c.deref-2.ensures.value) ∙ c.in_ok-start.ensures.exact))
    (goes_on _ _ tt _ (ap as_plan c.in_ok-new.ensures.rules) (ap (λ plan. Ok plan) (sym c.in_ok-new.ensures.plan)))))
