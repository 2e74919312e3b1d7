-- The areas are of the meshes of the recipe.
use Rattle.std.proofs.Common.{◌≡◌, ◌∙◌, ap, length, Vec, Global}
use Rattle.std.proofs.lemmas.Result.{IfOk-weaker}
use Rattle.cpl_mosaic.specs.declared.mosaic.Mesh.{Mesh}
use Rattle.cpl_xgrid.specs.declared.parts.Outlet.{Outlet}
use Rattle.cpl_made_grid.specs.Outlets.{outlets_between, outlets}
use Rattle.cpl_made_grid.proofs.GridLaws.{land_length}
use Rattle.cpl_made_grid.proofs.OutletLaws.{ocean_length}
use Rattle.cpl_made_grid.proofs.grid.outlets.Goals as goal

pub outlets_between-requires-clause-lands : goal.outlets_between-requires-clause-lands
outlets_between-requires-clause-lands c =
    ap length c.as_slice.ensures ∙ ap (λ (mesh : Mesh). length mesh.area) c.requires.land ∙ land_length c.args.recipe

pub outlets_between-requires-clause-oceans : goal.outlets_between-requires-clause-oceans
outlets_between-requires-clause-oceans c =
    ap length c.as_slice-2.ensures ∙ ap (λ (mesh : Mesh). length mesh.area) c.requires.ocean ∙ ocean_length c.args.recipe

pub returns : goal.returns
unfolding outlets
returns c =
    let lands = c.as_slice.ensures ∙ ap (λ (mesh : Mesh). mesh.area) c.requires.land in
    let oceans = c.as_slice-2.ensures ∙ ap (λ (mesh : Mesh). mesh.area) c.requires.ocean in
    IfOk-weaker c.outlets_between.result (λ (ways : Vec Outlet Global). ways.items ≡ outlets_between c.args.recipe.size c.as_slice.result.now c.as_slice-2.result.now) (λ ways. ways.items ≡ outlets c.args.recipe)
    (λ ways same. same ∙ (λ i. outlets_between c.args.recipe.size (lands i) (oceans i))) c.outlets_between.ensures
