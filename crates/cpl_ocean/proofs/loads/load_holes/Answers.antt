use Rattle.cpl_ocean.proofs.Loaded.{loads_holes}
use Rattle.cpl_ocean.proofs.loads.load_holes.Goals as goal

pub returns : goal.returns
returns c = loads_holes c.args.from.now c.args.to.now c.load_depth.new.to c.load_depth-2.new.to c.requires.width c.requires.shape c.load_depth.ensures c.load_depth-2.ensures
