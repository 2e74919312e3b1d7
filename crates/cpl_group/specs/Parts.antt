-- Buffers that carry the numbers of several fields from a strip's places to its holes.
use Rattle.std.specs.Prelude.{◌≡◌, ◌≢◌, ℕ, ◌+◌, ◌*◌, ◌^◌, ◌<◌, ◌≤◌, ◌⊎◌, List, length, ℤ, pos, All, slice_index_or}
use Rattle.cpl_mosaic.specs.declared.parts.Side.TheVariants.{W}
use Rattle.cpl_field.specs.Spots.{FieldNumbers, Spot, CellAt, HoleAt, IsSpot, IsSameShape, number_at}
use Rattle.cpl_strip.specs.declared.parts.Strip.{Strip}
use Rattle.cpl_strip.specs.declared.parts.Hole.{Hole}

-- strips, and how many fields each of their buffers carries
pub record Strips : Type 0 where
  pub strips : List Strip
  pub fields : ℕ

-- how many places a strip has, and as many holes
abbrev pub size_of : Strip → ℕ
size_of strip = length strip.places

-- the k-th of some places, and of some holes, as spots of a field
abbrev pub place_of : List (ℕ × ℕ) → ℕ → Spot
place_of places k = let place = slice_index_or places k (0, 0) in CellAt place.0 place.1

abbrev pub hole_of : List Hole → ℕ → Spot
hole_of holes k = let hole = slice_index_or holes k (record { side = W; at = 0; depth = 0 }) in HoleAt hole.side hole.at hole.depth

-- a list has the numbers at some places of a field, from an index on, and the rest of it is as it was
pub record Takes (places : List (ℕ × ℕ)) (field : FieldNumbers) (from : ℕ) (old new : List ℤ) : Type 0 where
  pub there : (k : ℕ) → k < length places → slice_index_or new (from + k) (pos 0) ≡ number_at field (place_of places k)
  pub others : (m : ℕ) → (m < from) ⊎ (from + length places ≤ m) → slice_index_or new m (pos 0) ≡ slice_index_or old m (pos 0)

-- some holes of a field have the numbers of a list, from an index on, and every other spot keeps its own
pub record Fills (holes : List Hole) (from : ℕ) (list : List ℤ) (old new : FieldNumbers) : Type 0 where
  pub shape : IsSameShape old new
  pub there : (k : ℕ) → k < length holes → number_at new (hole_of holes k) ≡ slice_index_or list (from + k) (pos 0)
  pub others : (spot : Spot) → IsSpot old spot → ((k : ℕ) → k < length holes → spot ≢ hole_of holes k) → number_at new spot ≡ number_at old spot

-- the k-th place of a strip, and its k-th hole, as spots of a field
abbrev pub source : Strip → ℕ → Spot
source strip k = place_of strip.places k

abbrev pub target : Strip → ℕ → Spot
target strip k = hole_of strip.holes k

-- as many holes as places, and no hole twice
pub record IsStrip (strip : Strip) : Type 0 where
  pub even : length strip.holes ≡ length strip.places
  pub once : (k l : ℕ) → k < size_of strip → l < size_of strip → target strip k ≡ target strip l → k ≡ l

-- one to 32 fields, and a length of each buffer that a machine can count
pub record IsGroup (group : Strips) : Type 0 where
  pub some : 1 ≤ group.fields
  pub few : group.fields ≤ 32
  pub each : All IsStrip group.strips
  pub countable : All (λ strip. size_of strip * group.fields < 2 ^ 64) group.strips

-- the number at a place of the part of field n in a strip's buffer
abbrev pub part_at : Strip → ℕ → List ℤ → ℕ → ℤ
part_at strip n buffer k = slice_index_or buffer (n * size_of strip + k) (pos 0)

-- the part of field n has the field's numbers at the strip's places, and the rest of the buffer is as it was
pub record Packs (strip : Strip) (n : ℕ) (field : FieldNumbers) (old new : List ℤ) : Type 0 where
  pub part : (k : ℕ) → k < size_of strip → part_at strip n new k ≡ number_at field (source strip k)
  pub others : (m : ℕ) → (m < n * size_of strip) ⊎ ((n + 1) * size_of strip ≤ m) → slice_index_or new m (pos 0) ≡ slice_index_or old m (pos 0)

-- the strip's holes have the numbers of the part of field n, and every other spot keeps its own
pub record Unpacks (strip : Strip) (n : ℕ) (buffer : List ℤ) (old new : FieldNumbers) : Type 0 where
  pub shape : IsSameShape old new
  pub holes : (k : ℕ) → k < size_of strip → number_at new (target strip k) ≡ part_at strip n buffer k
  pub others : (spot : Spot) → IsSpot old spot → ((k : ℕ) → k < size_of strip → spot ≢ target strip k) → number_at new spot ≡ number_at old spot

-- the field has the strip's places
abbrev pub HasPlaces : Strip → FieldNumbers → Type 0
HasPlaces strip field = (k : ℕ) → k < size_of strip → IsSpot field (source strip k)

-- the field has the strip's holes
abbrev pub HasHoles : Strip → FieldNumbers → Type 0
HasHoles strip field = (k : ℕ) → k < size_of strip → IsSpot field (target strip k)
