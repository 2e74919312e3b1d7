use Rattle.cpl_field.specs.Spots.{number_at}
use Rattle.cpl_ocean.proofs.Raised.{sides_all}
use Rattle.cpl_ocean.proofs.loads.load_depth.Goals as goal

pub returns : goal.returns
returns c =
    sides_all c.args.from.now (number_at c.args.from.now) c.args.depth c.args.to.now c.load_side.new.to c.load_side-2.new.to c.load_side-3.new.to c.load_side-4.new.to c.args.nx c.args.ny c.requires.columns c.requires.rows
    c.load_side.ensures c.load_side-2.ensures c.load_side-3.ensures c.load_side-4.ensures
