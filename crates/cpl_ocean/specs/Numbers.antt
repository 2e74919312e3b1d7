-- The numbers of a layer's faces after a step.
use Rattle.std.specs.Prelude.{◌≡◌, ℕ, ◌-◌, ◌<◌, ◌≤◌, ◌==◌, ℤ, pos, ◌-ℤ◌, if◌then◌else◌}
use Rattle.cpl_mosaic.specs.declared.parts.Side.{Side}
use Rattle.cpl_mosaic.specs.declared.parts.Side.TheVariants.{W, E, S, N}
use Rattle.cpl_field.specs.Crossings.{FaceNumbers, eastward_at, northward_at, outward}
use Rattle.cpl_field.specs.Spots.{FieldNumbers, Spot}
use Rattle.cpl_ocean.specs.Flows.{next_number}
use Rattle.cpl_ocean.specs.Layers.{LayerNumbers}

-- what crosses a face eastward after a step, as the cell east of it sees it, or the last one's west of it
abbrev pub next_east : (area : FieldNumbers) → (height : Spot → ℤ) → (slope : ℕ) → FaceNumbers → (i j : ℕ) → ℤ
next_east area height slope faces i j =
    if i == faces.nx then next_number area height slope faces (i - 1) j E else pos 0 -ℤ next_number area height slope faces i j W

-- what crosses a face northward after a step, as the cell north of it sees it, or the last one's south of it
abbrev pub next_north : (area : FieldNumbers) → (height : Spot → ℤ) → (slope : ℕ) → FaceNumbers → (i j : ℕ) → ℤ
next_north area height slope faces i j =
    if j == faces.ny then next_number area height slope faces i (j - 1) N else pos 0 -ℤ next_number area height slope faces i j S

pub record DrivesEast (area : FieldNumbers) (height : Spot → ℤ) (slope : ℕ) (old new : FaceNumbers) : Type 0 where
  pub nx : new.nx ≡ old.nx
  pub ny : new.ny ≡ old.ny
  pub east : (i j : ℕ) → i ≤ old.nx → j < old.ny → eastward_at new i j ≡ next_east area height slope old i j
  pub north : new.northward ≡ old.northward

pub record DrivesNorth (area : FieldNumbers) (height : Spot → ℤ) (slope : ℕ) (old new : FaceNumbers) : Type 0 where
  pub nx : new.nx ≡ old.nx
  pub ny : new.ny ≡ old.ny
  pub east : new.eastward ≡ old.eastward
  pub north : (i j : ℕ) → i < old.nx → j ≤ old.ny → northward_at new i j ≡ next_north area height slope old i j

-- each side of each cell sees the number of its face after a step
pub record Drives (area : FieldNumbers) (height : Spot → ℤ) (slope : ℕ) (old new : FaceNumbers) : Type 0 where
  pub nx : new.nx ≡ old.nx
  pub ny : new.ny ≡ old.ny
  pub each : (i j : ℕ) (side : Side) → i < old.nx → j < old.ny → outward new i j side ≡ next_number area height slope old i j side

-- the faces of a layer have their numbers after a step, and all else stays
pub record DrivesLayer (area : FieldNumbers) (height : Spot → ℤ) (slope : ℕ) (old new : LayerNumbers) : Type 0 where
  pub water : new.fields.water ≡ old.fields.water
  pub heat : new.fields.heat ≡ old.fields.heat
  pub salt : new.fields.salt ≡ old.fields.salt
  pub faces : Drives area height slope old.fields.faces new.fields.faces
  pub left : new.left ≡ old.left
