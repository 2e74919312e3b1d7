use Rattle.std.proofs.Common.{◌≡◌, ◌∙◌, ap, ℕ, map}
use Rattle.std.proofs.lemmas.Result.{IfOk-weaker}
use Rattle.cpl_xgrid.specs.Indexes.{by_cell, for_cells, ref_of}
use Rattle.cpl_xgrid.specs.Parents.{lands_of, parent_refs}
use Rattle.cpl_xgrid.specs.Rules.{tiles_of}
use Rattle.cpl_xgrid.proofs.CellRefs.{refs_by_parent}
use Rattle.cpl_xgrid.proofs.refs.parent_refs.Goals as goal

pub returns : goal.returns
returns c =
    let tiles = tiles_of c.args.mesh.now in
    let has = parent_refs c.args.of c.args.land_rows.now c.args.ocean_rows.now in
    let own = map (map (ref_of c.lands_of.result)) c.in_ok-groups.groups in
    let same : own ≡ for_cells tiles has =
    ap (λ (lands : ℕ). map (map (ref_of lands)) c.in_ok-groups.groups) c.lands_of.ensures
    ∙ ap (map (map (ref_of (lands_of c.args.of c.args.land_rows.now)))) (c.in_ok-groups.ensures ∙ ap (by_cell tiles) (c.deref.ensures.value ∙ c.in_ok-cells.ensures))
    ∙ refs_by_parent c.args.of tiles c.args.land_rows.now c.args.ocean_rows.now in
    IfOk-weaker c.refs.result (λ refs. refs ≡ own) (λ refs. refs ≡ for_cells tiles has) (λ refs is. is ∙ same) c.refs.ensures
