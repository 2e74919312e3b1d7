-- Room for the steps of an ocean.
use Rattle.std.specs.Prelude.{◌≡◌, ℕ, ◌*◌, ◌≤◌, length}
use Rattle.cpl_fixed.specs.Ranges.{IsFrom}
use Rattle.cpl_fixed.specs.declared.limits.TheConstants.{MOST_CELLS, MOST_LAYERS}
use Rattle.cpl_mosaic.specs.declared.mosaic.Mesh.{Mesh}
use Rattle.cpl_state.specs.Diffusion.{cell_count}
use Rattle.cpl_state.specs.declared.whole.Whole.{Whole}
use Rattle.cpl_state.specs.Transport.{Sea, face_count}
use Rattle.cpl_sea.specs.Blocks.{AreReady}
use Rattle.cpl_sea.specs.Links.{all_cell_faces, links_of}
use Rattle.cpl_sea.specs.Seas.{IsOcean}
use Rattle.cpl_sea.specs.declared.blocks.TheConstants.{BLOCK}
use Rattle.cpl_sea.specs.declared.room.SeaRoom.{SeaRoom}

-- the ocean that a step works on
abbrev pub sea_in : SeaRoom → Sea
sea_in room = record { water = room.water.items; heat = room.heat.items; salt = room.salt.items; faces = room.faces.items }

-- room for the ocean of this mesh, with so many layers
pub record IsSeaRoom (mesh : Mesh) (layers : ℕ) (room : SeaRoom) : Type 0 where
  pub ocean : IsOcean mesh
  pub few : cell_count mesh ≤ MOST_CELLS
  pub some : IsFrom 1 MOST_LAYERS layers
  pub links : room.links.items ≡ links_of mesh
  pub cell_faces : room.cell_faces.items ≡ all_cell_faces mesh
  pub ready : AreReady (face_count mesh) room.cell_faces.items room.ready.items
  pub heights : length room.heights.items ≡ cell_count mesh
  pub flows : length room.flows.items ≡ layers * face_count mesh
  pub next_water : length room.next_water.items ≡ layers * cell_count mesh
  pub next_heat : length room.next_heat.items ≡ layers * cell_count mesh
  pub next_salt : length room.next_salt.items ≡ layers * cell_count mesh
  pub rest : length room.rest.items ≡ layers * BLOCK

-- a state with another ocean
abbrev pub with_sea : Whole → Sea → Whole
with_sea whole sea = record whole { water = sea.water; heat = sea.heat; salt = sea.salt; faces = sea.faces }

-- two rooms that differ in the ocean they work on alone
pub record HasSameRoom (old new : SeaRoom) : Type 0 where
  pub links : new.links ≡ old.links
  pub cell_faces : new.cell_faces ≡ old.cell_faces
  pub ready : new.ready ≡ old.ready
  pub heights : new.heights ≡ old.heights
  pub flows : new.flows ≡ old.flows
  pub next_water : new.next_water ≡ old.next_water
  pub next_heat : new.next_heat ≡ old.next_heat
  pub next_salt : new.next_salt ≡ old.next_salt
  pub rest : new.rest ≡ old.rest
  pub flights : new.flights ≡ old.flights
