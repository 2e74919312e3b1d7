-- The ocean's mosaic is lawful.
use Rattle.cpl_made_grid.proofs.Mosaics.{ocean_lawful}
use Rattle.cpl_made_grid.proofs.shapes.ocean_mosaic.Goals as goal

pub lawful_mosaic-requires : goal.lawful_mosaic-requires
lawful_mosaic-requires c = rw (c.ocean_tiles.ensures, c.ocean_contacts.ensures) (ocean_lawful c.args.size c.requires)
