use Rattle.cpl_wires.proofs.shared.rows_of.Goals as goal

pub returns : goal.returns
returns c = record { land_rows = c.in_ok-land.ensures; ocean_rows = c.in_ok-ocean.ensures; outlets = c.in_ok-outlets.ensures; cells = c.in_ok-cells.ensures }
