-- What a grid stands on whose mosaics keep their rules.
use Rattle.cpl_mosaic.specs.declared.mosaic.Mesh.{Mesh}
use Rattle.cpl_mosaic.specs.Contacts.{IsMosaic}
use Rattle.cpl_mosaic.proofs.Agree.{mates_agree}
use Rattle.cpl_mosaic.proofs.Numbers.{numbers_agree}
use Rattle.cpl_faces.proofs.Listed.{are_faces}
use Rattle.cpl_xgrid.specs.declared.grid.Grid.{Grid}
use Rattle.cpl_xgrid.specs.Grids.{IsGrid}
use Rattle.cpl_xgrid.specs.Lists.{IsMesh}
use Rattle.cpl_state.specs.Diffusion.{IsAirMesh}
use Rattle.cpl_sea.specs.Seas.{IsOcean}
use Rattle.cpl_course.specs.Course.{IsGround}
use Rattle.cpl_whole.specs.Laws.{HasMosaics}

ocean_is : (mesh : Mesh) → IsMesh mesh → IsMosaic mesh.mosaic.tiles mesh.mosaic.contacts → IsOcean mesh
ocean_is mesh areas mosaic =
    let numbers = numbers_agree mesh.mosaic.tiles mosaic.sizes in
    let mates = mates_agree mesh.mosaic mosaic in
    record { areas = areas; numbers = numbers; mates = mates; faces = are_faces mesh.mosaic numbers mates }

-- its cells, mates and faces agree
pub ground_is : (grid : Grid) → IsGrid grid → IsAirMesh grid.air → HasMosaics grid → IsGround grid
ground_is grid rules air mosaics = record {
  numbered = record {
    rules = rules;
    air = numbers_agree grid.air.mosaic.tiles mosaics.air.sizes;
    land = numbers_agree grid.land.mosaic.tiles mosaics.land.sizes;
    ocean = numbers_agree grid.ocean.mosaic.tiles mosaics.ocean.sizes;
  };
  air = air;
  mates = mates_agree grid.air.mosaic mosaics.air;
  ocean = ocean_is grid.ocean rules.ocean mosaics.ocean;
}
