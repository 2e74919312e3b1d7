-- The fields of all pieces, and what strips carry between them.
use Rattle.std.specs.Prelude.{◌≡◌, ◌≢◌, ℕ, ◌<◌, List, [], length, slice_index_or}
use Rattle.cpl_field.specs.Spots.{FieldNumbers, Spot, IsSpot, IsSameShape, number_at}
use Rattle.cpl_strip.specs.declared.parts.Strip.{Strip}
use Rattle.cpl_strip.specs.Strips.{strip_at}
use Rattle.cpl_group.specs.Parts.{size_of, source, target}

-- the field of a piece. Past the end of the list a field has no cells
abbrev pub field_at : List FieldNumbers → ℕ → FieldNumbers
field_at fields p = slice_index_or fields p (record { nx = 0; ny = 0; width = 0; numbers = [] })

-- a number of the places and holes of some strips
pub record IsLinked (strips : List Strip) (m k : ℕ) : Type 0 where
  pub strip : m < length strips
  pub within : k < size_of (strip_at strips m)

-- the fields have the places and the holes of strips, and no hole stands twice
pub record AreJoined (strips : List Strip) (fields : List FieldNumbers) : Type 0 where
  pub from : (m : ℕ) → m < length strips → (strip_at strips m).from < length fields
  pub to : (m : ℕ) → m < length strips → (strip_at strips m).to < length fields
  pub places : (m k : ℕ) → IsLinked strips m k → IsSpot (field_at fields (strip_at strips m).from) (source (strip_at strips m) k)
  pub holes : (m k : ℕ) → IsLinked strips m k → IsSpot (field_at fields (strip_at strips m).to) (target (strip_at strips m) k)
  pub once : (m k n l : ℕ) → IsLinked strips m k → IsLinked strips n l → (strip_at strips m).to ≡ (strip_at strips n).to → target (strip_at strips m) k ≡ target (strip_at strips n) l → (m ≡ n) × (k ≡ l)

-- each hole of a strip has the number of the place beside it, and every other spot keeps its own
pub record Carries (strips : List Strip) (old new : List FieldNumbers) : Type 0 where
  pub count : length new ≡ length old
  pub shapes : (p : ℕ) → IsSameShape (field_at old p) (field_at new p)
  pub holes : (m k : ℕ) → IsLinked strips m k → number_at (field_at new (strip_at strips m).to) (target (strip_at strips m) k) ≡ number_at (field_at old (strip_at strips m).from) (source (strip_at strips m) k)
  pub others : (p : ℕ) (spot : Spot) → IsSpot (field_at old p) spot → ((m k : ℕ) → IsLinked strips m k → (strip_at strips m).to ≡ p → spot ≢ target (strip_at strips m) k) → number_at (field_at new p) spot ≡ number_at (field_at old p) spot
