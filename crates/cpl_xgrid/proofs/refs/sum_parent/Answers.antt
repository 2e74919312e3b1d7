use Rattle.std.proofs.Common.{sym, ◌∙◌, ap, length}
use Rattle.std.proofs.lemmas.Result.{err_from_is_err_and}
use Rattle.cpl_xgrid.specs.Indexes.{group_fault}
use Rattle.cpl_xgrid.specs.Parents.{parent_refs}
use Rattle.cpl_xgrid.specs.Rules.{tiles_of, first_fault}
use Rattle.cpl_xgrid.proofs.Parents.{group_count, sums_agree, groups_are}
use Rattle.cpl_xgrid.proofs.Faults.{found_first}
use Rattle.cpl_xgrid.proofs.refs.sum_parent.Goals as goal

pub check_sums-requires-clause-count : goal.check_sums-requires-clause-count
check_sums-requires-clause-count c =
    ap length c.as_slice.ensures ∙ c.requires.mesh.count ∙ sym (group_count (tiles_of c.args.mesh.now) c.in_ok-refs.refs (parent_refs c.args.of c.args.land_rows.now c.args.ocean_rows.now) c.in_ok-refs.ensures)

pub check_sums-requires-clause-groups : goal.check_sums-requires-clause-groups
check_sums-requires-clause-groups c = groups_are c.args.of c.args.mesh.now c.args.land_rows.now c.args.ocean_rows.now c.in_ok-refs.refs c.in_ok-refs.ensures c.requires.rows

pub returns-clause-rules : goal.returns-clause-rules
returns-clause-rules c =
    sym (sums_agree c.args.of c.args.mesh.now c.args.land_rows.now c.args.ocean_rows.now c.in_ok-refs.refs c.in_ok-refs.ensures c.requires.mesh.count)
    ∙ ap (first_fault (group_fault c.args.of c.args.land_rows.now c.args.ocean_rows.now c.in_ok-refs.refs) 0) (sym c.as_slice.ensures)
    ∙ c.in_ok-check_sums.ensures.kept

pub returns-in_err-check_sums-clause-fault : goal.returns-in_err-check_sums-clause-fault
returns-in_err-check_sums-clause-fault c =
    let p = err_from_is_err_and c.from_residual-in_err-check_sums.result c.from_residual-in_err-check_sums.ensures.1 in
    rw (p.1, p.2) (found_first _ _ (
    sym (sums_agree c.args.of c.args.mesh.now c.args.land_rows.now c.args.ocean_rows.now c.in_ok-refs.refs c.in_ok-refs.ensures c.requires.mesh.count)
    ∙ ap (first_fault (group_fault c.args.of c.args.land_rows.now c.args.ocean_rows.now c.in_ok-refs.refs) 0) (sym c.as_slice.ensures)
    ∙ c.in_err-check_sums.ensures.broken))
