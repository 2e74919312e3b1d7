-- When an ocean is lawful, and what its steps stand on.
use Rattle.std.specs.Prelude.{◌≡◌, ℕ, ◌+◌, ◌*◌, ◌<◌, false, List, length, ℤ, pos, All}
use Rattle.cpl_fixed.specs.Amounts.{at}
use Rattle.cpl_mosaic.specs.declared.mosaic.Mesh.{Mesh}
use Rattle.cpl_mosaic.specs.Cells.{NumbersAgree}
use Rattle.cpl_mosaic.specs.Mates.{MatesAgree}
use Rattle.cpl_xgrid.specs.Lists.{IsMesh}
use Rattle.cpl_faces.specs.Faces.{AreFaces, faces_of}
use Rattle.cpl_transport.specs.Heights.{IsFaceNumber}
use Rattle.cpl_state.specs.Diffusion.{AreAmounts, cell_count}
use Rattle.cpl_state.specs.Transport.{Sea, face_at, face_count, is_open}

-- the mesh of an ocean: its areas, and numbers, mates and faces that agree
pub record IsOcean (mesh : Mesh) : Type 0 where
  pub areas : IsMesh mesh
  pub numbers : NumbersAgree mesh.mosaic.tiles
  pub mates : MatesAgree mesh.mosaic
  pub faces : AreFaces mesh.mosaic (faces_of mesh.mosaic)

-- the numbers of all layers' faces: in range, and 0 at walls
pub record AreNumbers (mesh : Mesh) (layers : ℕ) (numbers : List ℤ) : Type 0 where
  pub count : length numbers ≡ layers * face_count mesh
  pub range : All IsFaceNumber numbers
  pub walls : (layer f : ℕ) → layer < layers → f < face_count mesh → is_open mesh (face_at mesh f).first (face_at mesh f).second ≡ false
      → at numbers (layer * face_count mesh + f) ≡ pos 0

-- A lawful ocean: as many numbers as its layers have cells and faces, no amount below 0, each total within the budget.
pub record IsSea (mesh : Mesh) (layers : ℕ) (sea : Sea) : Type 0 where
  pub water : AreAmounts (layers * cell_count mesh) sea.water
  pub heat : AreAmounts (layers * cell_count mesh) sea.heat
  pub salt : AreAmounts (layers * cell_count mesh) sea.salt
  pub faces : AreNumbers mesh layers sea.faces
