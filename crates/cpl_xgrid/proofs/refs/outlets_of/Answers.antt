use Rattle.std.proofs.Common.{sym, ◌∙◌, ap, length}
use Rattle.std.proofs.lemmas.Result.{err_from_is_err_and}
use Rattle.cpl_xgrid.specs.Rows.{outlets_of}
use Rattle.cpl_xgrid.specs.Rules.{tiles_of, first_fault}
use Rattle.cpl_xgrid.specs.Indexes.{by_cell, dry_fault}
use Rattle.cpl_xgrid.proofs.Parents.{group_count, dry_agrees}
use Rattle.cpl_xgrid.proofs.CellRefs.{outlet_numbers}
use Rattle.cpl_xgrid.proofs.Faults.{found_first}
use Rattle.cpl_xgrid.proofs.refs.outlets_of.Goals as goal

pub returns-clause-outlets : goal.returns-clause-outlets
returns-clause-outlets c =
    c.in_ok-groups.ensures ∙ ap (by_cell (tiles_of c.args.land.now)) (c.deref.ensures.value ∙ c.in_ok-cells.ensures) ∙ outlet_numbers (tiles_of c.args.land.now) c.args.outlets.now

pub check_dry-requires-clause-count : goal.check_dry-requires-clause-count
check_dry-requires-clause-count c =
    let groups = c.in_ok-groups.ensures ∙ ap (by_cell (tiles_of c.args.land.now)) (c.deref.ensures.value ∙ c.in_ok-cells.ensures) ∙ outlet_numbers (tiles_of c.args.land.now) c.args.outlets.now in
    ap length c.as_slice.ensures ∙ c.requires.mesh.count ∙ sym (group_count (tiles_of c.args.land.now) c.in_ok-groups.groups (outlets_of c.args.outlets.now) groups)

pub returns-clause-rules : goal.returns-clause-rules
returns-clause-rules c =
    let groups = c.in_ok-groups.ensures ∙ ap (by_cell (tiles_of c.args.land.now)) (c.deref.ensures.value ∙ c.in_ok-cells.ensures) ∙ outlet_numbers (tiles_of c.args.land.now) c.args.outlets.now in
    sym (dry_agrees c.args.land.now c.args.outlets.now c.in_ok-groups.groups c.requires.mesh.count groups)
    ∙ ap (first_fault (dry_fault c.in_ok-groups.groups) 0) (sym c.as_slice.ensures)
    ∙ c.in_ok-check_dry.ensures.kept

pub returns-in_err-check_dry-clause-fault : goal.returns-in_err-check_dry-clause-fault
returns-in_err-check_dry-clause-fault c =
    let groups = c.in_ok-groups.ensures ∙ ap (by_cell (tiles_of c.args.land.now)) (c.deref.ensures.value ∙ c.in_ok-cells.ensures) ∙ outlet_numbers (tiles_of c.args.land.now) c.args.outlets.now in
    let p = err_from_is_err_and c.from_residual-in_err-check_dry.result c.from_residual-in_err-check_dry.ensures.1 in
    rw (p.1, p.2) (found_first _ _ (
    sym (dry_agrees c.args.land.now c.args.outlets.now c.in_ok-groups.groups c.requires.mesh.count groups)
    ∙ ap (first_fault (dry_fault c.in_ok-groups.groups) 0) (sym c.as_slice.ensures)
    ∙ c.in_err-check_dry.ensures.broken))
