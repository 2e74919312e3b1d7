use Rattle.cpl_mosaic.proofs.Spans.{in_range}
use Rattle.cpl_mosaic.proofs.contacts.joined_pair.Goals as goal

pub edge_side-requires-2-clause-tile : goal.edge_side-requires-2-clause-tile
edge_side-requires-2-clause-tile c = (in_range c.args.tiles.now c.args.contact c.requires.range).second.tile
