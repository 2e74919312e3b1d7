use Rattle.std.proofs.Common.{◌∙◌}
use Rattle.cpl_xgrid.specs.Rows.{refs_of_air}
use Rattle.cpl_xgrid.specs.Lists.{XGridLists}
use Rattle.cpl_xgrid.proofs.Parents.{kept_at}
use Rattle.cpl_xgrid.proofs.xgrid.XGrid.cells_of_air.Goals as goal

pub at-requires : goal.at-requires
at-requires c = (kept_at (λ (x : XGridLists). x.air) (λ (x : XGridLists). refs_of_air x.land_rows x.ocean_rows) _ _ _ c.args.cell c.self.view_is c.self.invariant.air c.requires).within

pub returns : goal.returns
returns c = c.at.ensures ∙ (kept_at (λ (x : XGridLists). x.air) (λ (x : XGridLists). refs_of_air x.land_rows x.ocean_rows) _ _ _ c.args.cell c.self.view_is c.self.invariant.air c.requires).is
