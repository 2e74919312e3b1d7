-- Where numbers stand in lists.
use Rattle.std.specs.Prelude.{◌≡◌, ℕ, ◌<◌, List, [], length, slice_index, slice_index_or}
use Rattle.cpl_rows.specs.declared.place.RowPlace.{RowPlace}
use Rattle.cpl_rows.specs.Rows.{item_at, IsPlaceIn}

-- each number is greater than those before it
abbrev pub IsRising : List ℕ → Type 0
IsRising numbers = (i j : ℕ) → i < j → j < length numbers → slice_index numbers i < slice_index numbers j

-- a number stands in one of the lists
pub record StandsIn (lists : List (List ℕ)) (number : ℕ) : Type 0 where
  pub edge : ℕ
  pub place : ℕ
  pub known : edge < length lists
  pub within : place < length (slice_index_or lists edge [])
  pub is : slice_index (slice_index_or lists edge []) place ≡ number

-- a place of the lists has this number
pub record IsAt (lists : List (List ℕ)) (number : ℕ) (it : RowPlace) : Type 0 where
  pub place : IsPlaceIn lists it
  pub is : item_at lists it ≡ number

-- so has each of some places, of some numbers
pub record AreAt (lists : List (List ℕ)) (numbers : List ℕ) (places : List RowPlace) : Type 0 where
  pub size : length places ≡ length numbers
  pub each : (m : ℕ) (other : RowPlace) → m < length numbers → IsAt lists (slice_index numbers m) (slice_index_or places m other)
