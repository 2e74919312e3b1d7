use Rattle.std.proofs.Common.{◌∙◌}
use Rattle.cpl_xgrid.specs.Rows.{outlets_of}
use Rattle.cpl_xgrid.specs.Lists.{XGridLists}
use Rattle.cpl_xgrid.proofs.Parents.{kept_at}
use Rattle.cpl_xgrid.proofs.xgrid.XGrid.outlets_of.Goals as goal

pub at-requires : goal.at-requires
at-requires c = (kept_at (λ (x : XGridLists). x.land) (λ (x : XGridLists). outlets_of x.outlets) _ _ _ c.args.cell c.self.view_is c.self.invariant.outlets c.requires).within

pub returns : goal.returns
returns c = c.at.ensures ∙ (kept_at (λ (x : XGridLists). x.land) (λ (x : XGridLists). outlets_of x.outlets) _ _ _ c.args.cell c.self.view_is c.self.invariant.outlets c.requires).is
