-- The numbers of the faces of a piece's cells.
use Rattle.std.specs.Prelude.{◌≡◌, ◌≢◌, ℕ, ◌+◌, ◌-◌, ◌*◌, ◌^◌, ◌<◌, ◌≤◌, ◌==◌, List, length, ℤ, pos, ◌-ℤ◌, ◌≤ℤ◌, Option, Some, None, IfSome, All, if◌then◌else◌, slice_index_or}
use Rattle.cpl_mosaic.specs.declared.parts.Side.{Side}
use Rattle.cpl_mosaic.specs.declared.parts.Side.TheVariants.{W, E, S, N}

-- a piece's shape, and what crosses its faces: in each row toward higher i, one more than the row has cells, and in each
-- column toward higher j, one more than the column has cells
pub record FaceNumbers : Type 0 where
  pub nx : ℕ
  pub ny : ℕ
  pub eastward : List ℤ
  pub northward : List ℤ

-- a side of a cell, by the cell's column and row in the piece
pub record SideAt : Type 0 where
  pub i : ℕ
  pub j : ℕ
  pub side : Side

pub record IsSideOf (faces : FaceNumbers) (a : SideAt) : Type 0 where
  pub column : a.i < faces.nx
  pub row : a.j < faces.ny

abbrev pub eastward_at : FaceNumbers → (i j : ℕ) → ℤ
eastward_at faces i j = slice_index_or faces.eastward (j * (faces.nx + 1) + i) (pos 0)

abbrev pub northward_at : FaceNumbers → (i j : ℕ) → ℤ
northward_at faces i j = slice_index_or faces.northward (j * faces.nx + i) (pos 0)

-- what crosses a side outward
abbrev pub outward : FaceNumbers → (i j : ℕ) → Side → ℤ
outward faces i j W = pos 0 -ℤ eastward_at faces i j
outward faces i j E = eastward_at faces (i + 1) j
outward faces i j S = pos 0 -ℤ northward_at faces i j
outward faces i j N = northward_at faces i (j + 1)

abbrev pub outward_at : FaceNumbers → SideAt → ℤ
outward_at faces a = outward faces a.i a.j a.side

-- the side that meets this one inside the piece
abbrev pub inner_mate : FaceNumbers → SideAt → Option SideAt
inner_mate faces a = mate_inside faces a.i a.j a.side where
  mate_inside : FaceNumbers → (i j : ℕ) → Side → Option SideAt
  mate_inside faces i j W = if i == 0 then None else Some (record { i = i - 1; j = j; side = E })
  mate_inside faces i j E = if i + 1 == faces.nx then None else Some (record { i = i + 1; j = j; side = W })
  mate_inside faces i j S = if j == 0 then None else Some (record { i = i; j = j - 1; side = N })
  mate_inside faces i j N = if j + 1 == faces.ny then None else Some (record { i = i; j = j + 1; side = S })

-- a number of a face
pub record IsFaceNumber (x : ℤ) : Type 0 where
  pub least : (pos 0 -ℤ pos (2 ^ 40)) ≤ℤ x
  pub most : x ≤ℤ pos (2 ^ 40)

-- one side has a new number, its inner mate the negative, and every other side keeps its own
pub record SetsSide (old new : FaceNumbers) (a : SideAt) (x : ℤ) : Type 0 where
  pub nx : new.nx ≡ old.nx
  pub ny : new.ny ≡ old.ny
  pub there : outward_at new a ≡ x
  pub mate : IfSome (inner_mate old a) (λ b. outward_at new b ≡ pos 0 -ℤ x)
  pub others : (b : SideAt) → IsSideOf old b → b ≢ a → inner_mate old a ≢ Some b → outward_at new b ≡ outward_at old b

pub record AreFaces (faces : FaceNumbers) : Type 0 where
  pub some_columns : 1 ≤ faces.nx
  pub columns : faces.nx ≤ 1024
  pub some_rows : 1 ≤ faces.ny
  pub rows : faces.ny ≤ 1024
  pub eastward : length faces.eastward ≡ (faces.nx + 1) * faces.ny
  pub northward : length faces.northward ≡ faces.nx * (faces.ny + 1)
  pub east : All IsFaceNumber faces.eastward
  pub north : All IsFaceNumber faces.northward
