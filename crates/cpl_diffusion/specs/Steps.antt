-- A step over faces.
use Rattle.std.specs.Prelude.{◌≡◌, ◌<◌, ◌≤◌, ◌-◌, nat_lt, if◌then◌else◌, ◌^◌, ℕ, ℤ, pos, ◌+ℤ◌, ◌-ℤ◌, ◌<ℤ◌, List, length, All}
use Rattle.cpl_fixed.specs.Flows.{IsAirArea, face_divisor, flow}
use Rattle.cpl_state.specs.Diffusion.{at}
use Rattle.cpl_mosaic.specs.declared.parts.Side.TheVariants.{W, E, S, N}
use Rattle.cpl_mosaic.specs.declared.mosaic.Mesh.{Mesh}
use Rattle.cpl_diffusion.specs.Across.{AreFacesAlong, faces_at, next_at}
use Rattle.cpl_diffusion.specs.declared.sweep.Room.{Room}
use Rattle.cpl_diffusion.specs.declared.sweep.Ways.{Ways}
use Rattle.cpl_diffusion.specs.declared.faces.Faces.{Faces}

-- the previous cell of cell n
abbrev pub previous_at : (cells : ℕ) → List Faces → ℕ → ℕ
previous_at cells faces n = if nat_lt (faces_at faces n).previous n then (faces_at faces n).previous else (faces_at faces n).previous - cells

-- faces between cells of these areas
pub record AreFaces (area : List ℤ) (faces : List Faces) : Type 0 where
  pub areas : All IsAirArea area
  pub count : length faces ≡ length area
  pub next : (n : ℕ) → n < length area → next_at faces n < length area
  pub divisor : (n : ℕ) → n < length area → (faces_at faces n).divisor ≡ face_divisor (at area n) (at area (next_at faces n))
  pub kept : (n : ℕ) → n < length area → (faces_at faces n).previous < n → next_at faces (faces_at faces n).previous ≡ n
  pub lone : (n : ℕ) → n < length area → n ≤ (faces_at faces n).previous → (length area ≤ (faces_at faces n).previous) × ((faces_at faces n).previous - length area < length area)

-- what flows out of one cell into another, by their numbers
abbrev pub between : (area xs : List ℤ) → (n other : ℕ) → ℤ
between area xs n other = flow (at xs n) (at area n) (at xs other) (at area other)

-- a flow is below 2^59, either way
abbrev pub IsSmall : ℤ → Type 0
IsSmall f = ((pos 0 -ℤ pos (2 ^ 59)) <ℤ f) × (f <ℤ pos (2 ^ 59))

-- what flows out of a cell into the next
abbrev pub flow_next : (area xs : List ℤ) → List Faces → ℕ → ℤ
flow_next area xs faces n = between area xs n (next_at faces n)

-- and into the previous
abbrev pub flow_previous : (area xs : List ℤ) → List Faces → ℕ → ℤ
flow_previous area xs faces n = between area xs n (previous_at (length area) faces n)

-- what is left in a cell
abbrev pub left_in : (area xs : List ℤ) → (east north : List Faces) → ℕ → ℤ
left_in area xs east north n =
    at xs n -ℤ (flow_next area xs east n +ℤ flow_previous area xs east n +ℤ flow_next area xs north n +ℤ flow_previous area xs north n)

-- the faces of a mesh, both ways
pub record AreWays (mesh : Mesh) (ways : Ways) : Type 0 where
  pub east : AreFacesAlong mesh E W ways.east.items
  pub north : AreFacesAlong mesh N S ways.north.items

-- room for a step over as many cells
pub record IsRoom (cells : ℕ) (room : Room) : Type 0 where
  pub eastward : length room.eastward.items ≡ cells
  pub northward : length room.northward.items ≡ cells
  pub after : length room.after.items ≡ cells
