use Rattle.std.proofs.Common.{◌∙◌, ap, sym, subst, List}
use Rattle.std.specs.Prelude.{ℤ, pos, ◌≤ℤ◌}
use Rattle.cpl_gridfile.specs.Reading.{air_grid_of}
use Rattle.cpl_restart.specs.AirBytes.{air_of}
use Rattle.cpl_fixed.specs.Totals.{total_of}
use Rattle.cpl_fixed.specs.declared.limits.TheConstants.{MOST_TOTAL}
use Rattle.cpl_state.specs.Diffusion.{cell_count}
use Rattle.cpl_fixed.specs.declared.words.Quantity.TheVariants.{Heat, Water}
use Rattle.cpl_top.specs.Judging.{budget}
use Rattle.cpl_top.proofs.Judging.{judged_to}
use Rattle.cpl_top.proofs.Meshes.{air_mesh, amounts}
use Rattle.cpl_top.proofs.solo.run_solo_command.Goals as goal

pub run_air-requires-clause-mesh : goal.run_air-requires-clause-mesh
run_air-requires-clause-mesh c = air_mesh c.in_ok-mesh.mesh c.in_ok-mesh.ensures.found c.in_ok-mesh.ensures.areas

pub run_air-requires-clause-heat : goal.run_air-requires-clause-heat
run_air-requires-clause-heat c =
    let air = c.in_ok-air.ensures.found in
    let within = (c.in_ok-judge_budget.ensures {u = tt}).within in
    amounts (cell_count c.in_ok-mesh.mesh) c.in_ok-air.air.heat (air.heat_length ∙ c.cells-cells.ensures.count) air.heat
    (subst (λ (xs : List ℤ). total_of xs ≤ℤ pos MOST_TOTAL) c.as_slice.ensures within)

pub run_air-requires-clause-vapour : goal.run_air-requires-clause-vapour
run_air-requires-clause-vapour c =
    let air = c.in_ok-air.ensures.found in
    let within = (c.in_ok-judge_budget-2.ensures {u = tt}).within in
    amounts (cell_count c.in_ok-mesh.mesh) c.in_ok-air.air.vapour (air.vapour_length ∙ c.cells-cells.ensures.count) air.vapour
    (subst (λ (xs : List ℤ). total_of xs ≤ℤ pos MOST_TOTAL) c.as_slice-2.ensures within)

pub returns-clause-answer : goal.returns-clause-answer
returns-clause-answer c =
    judged_to c.args.words.now.out.now c.args.words.now.steps c.cells-cells.result c.args.words.now.pieces c.args.grid.items c.args.start.items c.in_ok-mesh.mesh c.in_ok-air.air c.in_ok-last.last c.in_ok-solo_reply.field-0
    (ap air_grid_of (sym c.deref.ensures.value) ∙ c.in_ok-mesh.ensures.exact) c.cells-cells.ensures.count
    (ap (air_of c.cells-cells.result) (sym c.deref-2.ensures.value) ∙ c.in_ok-air.ensures.exact)
    c.in_ok-layout.ensures.answer
    (ap (λ xs. budget Heat (total_of xs)) (sym c.as_slice.ensures) ∙ (c.in_ok-judge_budget.ensures {u = tt}).answer)
    (ap (λ xs. budget Water (total_of xs)) (sym c.as_slice-2.ensures) ∙ (c.in_ok-judge_budget-2.ensures {u = tt}).answer)
    c.in_ok-last.ensures c.in_ok-solo_reply.ensures
