-- The cubed sphere is lawful.
use Rattle.cpl_made_grid.proofs.Mosaics.{sphere_lawful}
use Rattle.cpl_made_grid.proofs.shapes.sphere.Goals as goal

pub lawful_mosaic-requires : goal.lawful_mosaic-requires
lawful_mosaic-requires c = rw (c.sphere_tiles.ensures, c.sphere_contacts.ensures) (sphere_lawful c.args.size c.requires)
