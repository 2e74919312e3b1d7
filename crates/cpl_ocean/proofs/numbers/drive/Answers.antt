use Rattle.std.proofs.Common.{◌∙◌, sym}
use Rattle.cpl_field.specs.Spots.{number_at}
use Rattle.cpl_ocean.proofs.Driven.{drives_all}
use Rattle.cpl_ocean.proofs.numbers.drive.Goals as goal

pub returns : goal.returns
returns c =
    let basin = c.args.basin.now in
    let is = c.requires.basin in
    drives_all c.face_law.ensures basin.area (number_at basin.heights) c.args.slope c.args.faces.now c.drive_eastward.new.faces c.drive_northward.new.faces (is.columns ∙ sym c.requires.columns) (is.rows ∙ sym c.requires.rows) c.drive_eastward.ensures c.drive_northward.ensures
