use Rattle.std.proofs.Common.{◌∙◌}
use Rattle.cpl_xgrid.specs.declared.parts.Surface.TheVariants.{Ocean}
use Rattle.cpl_xgrid.specs.Rows.{refs_of_other}
use Rattle.cpl_xgrid.specs.Lists.{XGridLists}
use Rattle.cpl_xgrid.proofs.Parents.{kept_at}
use Rattle.cpl_xgrid.proofs.xgrid.XGrid.cells_of_ocean.Goals as goal

pub at-requires : goal.at-requires
at-requires c = (kept_at (λ (x : XGridLists). x.ocean) (λ (x : XGridLists). refs_of_other Ocean x.ocean_rows) _ _ _ c.args.cell c.self.view_is c.self.invariant.ocean c.requires).within

pub returns : goal.returns
returns c = c.at.ensures ∙ (kept_at (λ (x : XGridLists). x.ocean) (λ (x : XGridLists). refs_of_other Ocean x.ocean_rows) _ _ _ c.args.cell c.self.view_is c.self.invariant.ocean c.requires).is
