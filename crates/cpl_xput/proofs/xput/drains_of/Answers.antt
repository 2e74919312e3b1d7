use Rattle.std.proofs.Common.{◌≡◌, sym, ◌∙◌, ap, subst, ℕ, List, map, get_or}
use Rattle.std.specs.Prelude.{ℤ, pos}
use Rattle.std.proofs.lemmas.Result.{IfOk-weaker}
use Rattle.cpl_xgrid.specs.Rows.{land_cell}
use Rattle.cpl_xgrid.specs.Rules.{tiles_of}
use Rattle.cpl_xgrid.specs.Indexes.{AreCells, for_cells, by_cell}
use Rattle.cpl_xgrid.proofs.Building.{has_cells}
use Rattle.cpl_xput.specs.Exchanges.{weight, weights_of}
use Rattle.cpl_xput.proofs.Picked.{weights_are}
use Rattle.cpl_xput.proofs.xput.drains_of.Goals as goal

pub by_cell-requires-clause-cells : goal.by_cell-requires-clause-cells
by_cell-requires-clause-cells c =
    let cells : c.deref.result.now ≡ map land_cell c.args.grid.now.xgrid.outlets = c.deref.ensures.value ∙ c.in_ok-cells.ensures ∙ ap (map land_cell) c.outlets-outlets.ensures in
    subst (AreCells (tiles_of c.args.grid.now.land)) (sym cells) (has_cells c.args.grid.now c.requires).outlets

pub returns : goal.returns
returns c =
    let tiles = tiles_of c.args.grid.now.land in
    let outlets = c.args.grid.now.xgrid.outlets in
    let cells : c.deref.result.now ≡ map land_cell outlets = c.deref.ensures.value ∙ c.in_ok-cells.ensures ∙ ap (map land_cell) c.outlets-outlets.ensures in
    let groups : c.in_ok-groups.groups ≡ by_cell tiles (map land_cell outlets) = c.in_ok-groups.ensures ∙ ap (by_cell tiles) cells in
    let table : c.deref-2.result.now ≡ map weight outlets = c.deref-2.ensures.value ∙ c.in_ok-weights.ensures ∙ ap (map weight) c.outlets-outlets.ensures in
    let same : map (map (λ n. get_or c.deref-2.result.now n (pos 0))) c.in_ok-groups.groups ≡ for_cells tiles (weights_of outlets) =
    ap (λ (l : List (List ℕ)). map (map (λ n. get_or c.deref-2.result.now n (pos 0))) l) groups
    ∙ ap (λ (t : List ℤ). map (map (λ n. get_or t n (pos 0))) (by_cell tiles (map land_cell outlets))) table
    ∙ weights_are tiles outlets in
    IfOk-weaker c.pick.result (λ g. g ≡ map (map (λ n. get_or c.deref-2.result.now n (pos 0))) c.in_ok-groups.groups) (λ g. g ≡ for_cells tiles (weights_of outlets)) (λ g is. is ∙ same) c.pick.ensures
