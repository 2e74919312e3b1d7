-- A mosaic as its two lists.
use Rattle.std.specs.Prelude.{List}
use Rattle.cpl_mosaic.specs.declared.parts.Tile.{Tile}
use Rattle.cpl_mosaic.specs.declared.parts.Contact.{Contact}

-- tiles, and the contacts that join them
pub record MosaicLists : Type 0 where
  pub tiles : List Tile
  pub contacts : List Contact
