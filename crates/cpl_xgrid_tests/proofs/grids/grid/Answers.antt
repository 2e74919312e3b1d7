use Rattle.std.proofs.Common.{rules, refl, sym, subst}
use Rattle.cpl_xgrid.specs.Lists.{XGridLists, AreRows, AreOutlets, IsColumn}
use Rattle.cpl_xgrid.specs.Grids.{IsGrid}
use Rattle.cpl_xgrid_tests.proofs.grids.grid.Goals as goal

pub returns : goal.returns
returns c =
    let air = c.in_ok-air.air in
    let land = c.in_ok-land.land in
    let ocean = c.in_ok-ocean.ocean in
    let land_rows = c.in_ok-land_rows.land_rows.items in
    let ocean_rows = c.in_ok-ocean_rows.ocean_rows.items in
    let outlets = c.in_ok-outlets.outlets.items in
    let rows : AreRows land_rows ocean_rows = search rules in
    let ways : AreOutlets outlets = search rules in
    let column : IsColumn (record { layers = 1; categories = 2 }) = search rules in
    subst (λ (x : XGridLists). IsGrid (record { air = air; land = land; ocean = ocean; xgrid = x; column = record { layers = 1; categories = 2 } })) (sym c.in_ok-xgrid.ensures.lists)
    (record {
      air = c.in_ok-air.ensures;
      land = c.in_ok-land.ensures;
      ocean = c.in_ok-ocean.ensures;
      lists = refl;
      rows = rows;
      outlets = ways;
      column = column;
      rules = c.in_ok-xgrid.ensures.rules;
    })
