-- What no run of a plan loses.
use Rattle.std.specs.Prelude.{All}
use Rattle.cpl_mosaic.specs.Contacts.{IsMosaic}
use Rattle.cpl_xgrid.specs.declared.grid.Grid.{Grid}
use Rattle.cpl_plan.specs.Plans.{PlanParts}
use Rattle.cpl_whole.specs.Rows.{Balances, Keeps, exchange_rows, stock_rows}

-- The contacts of the three mosaics keep their rules. `Mosaic::cells` says so of every mosaic.
pub record HasMosaics (grid : Grid) : Type 0 where
  pub air : IsMosaic grid.air.mosaic.tiles grid.air.mosaic.contacts
  pub land : IsMosaic grid.land.mosaic.tiles grid.land.mosaic.contacts
  pub ocean : IsMosaic grid.ocean.mosaic.tiles grid.ocean.mosaic.contacts

-- Nothing is lost in the run of a plan: in each row of its exchanges what was in flight and what was given is what was taken and what
-- is in flight, and each row of its stocks holds what the start held, with the heat that entered, less what left to space.
pub record LosesNothing (plan : PlanParts) : Type 0 where
  pub balances : All Balances (exchange_rows plan.grid plan.names plan.start plan.names.steps)
  pub keeps : All (Keeps plan.grid plan.start) (stock_rows plan.grid plan.names plan.start plan.names.steps)
