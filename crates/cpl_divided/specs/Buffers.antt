-- The buffers of strips, one for each.
use Rattle.std.specs.Prelude.{◌≡◌, ℕ, ◌*◌, ◌^◌, ◌<◌, List, [], length, ℤ, slice_index_or}
use Rattle.cpl_strip.specs.declared.parts.Strip.{Strip}
use Rattle.cpl_strip.specs.Strips.{strip_at}
use Rattle.cpl_field.specs.Spots.{FieldNumbers, number_at}
use Rattle.cpl_group.specs.Parts.{Strips, size_of, source, part_at}
use Rattle.cpl_divided.specs.Fields.{field_at, IsLinked}

abbrev pub buffer_at : List (List ℤ) → ℕ → List ℤ
buffer_at buffers m = slice_index_or buffers m []

-- the pieces that a strip joins
abbrev pub ends_at : List (ℕ × ℕ) → ℕ → ℕ × ℕ
ends_at ends m = slice_index_or ends m (0, 0)

pub record AreEnds (strips : List Strip) (ends : List (ℕ × ℕ)) : Type 0 where
  pub count : length ends ≡ length strips
  pub each : (m : ℕ) → m < length strips → ends_at ends m ≡ ((strip_at strips m).from, (strip_at strips m).to)

-- each strip has a buffer for one field
pub record AreBuffers (strips : List Strip) (buffers : List (List ℤ)) : Type 0 where
  pub count : length buffers ≡ length strips
  pub each : (m : ℕ) → m < length strips → length (buffer_at buffers m) ≡ size_of (strip_at strips m) * 1

-- what is kept of strips that are carried one field at a time
pub record AreHalos (group : Strips) (ends : List (ℕ × ℕ)) (buffers : List (List ℤ)) : Type 0 where
  pub few : length group.strips < 2 ^ 32
  pub single : group.fields ≡ 1
  pub joined : AreEnds group.strips ends
  pub carried : AreBuffers group.strips buffers

-- each buffer has the numbers at its strip's places
pub record AreStarted (strips : List Strip) (fields : List FieldNumbers) (buffers : List (List ℤ)) : Type 0 where
  pub sized : AreBuffers strips buffers
  pub each : (m k : ℕ) → IsLinked strips m k → part_at (strip_at strips m) 0 (buffer_at buffers m) k ≡ number_at (field_at fields (strip_at strips m).from) (source (strip_at strips m) k)
