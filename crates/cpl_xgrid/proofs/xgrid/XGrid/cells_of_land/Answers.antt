use Rattle.std.proofs.Common.{◌∙◌}
use Rattle.cpl_xgrid.specs.declared.parts.Surface.TheVariants.{Land}
use Rattle.cpl_xgrid.specs.Rows.{refs_of_other}
use Rattle.cpl_xgrid.specs.Lists.{XGridLists}
use Rattle.cpl_xgrid.proofs.Parents.{kept_at}
use Rattle.cpl_xgrid.proofs.xgrid.XGrid.cells_of_land.Goals as goal

pub at-requires : goal.at-requires
at-requires c = (kept_at (λ (x : XGridLists). x.land) (λ (x : XGridLists). refs_of_other Land x.land_rows) _ _ _ c.args.cell c.self.view_is c.self.invariant.land c.requires).within

pub returns : goal.returns
returns c = c.at.ensures ∙ (kept_at (λ (x : XGridLists). x.land) (λ (x : XGridLists). refs_of_other Land x.land_rows) _ _ _ c.args.cell c.self.view_is c.self.invariant.land c.requires).is
