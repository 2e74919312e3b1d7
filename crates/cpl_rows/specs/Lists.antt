-- Lists of numbers that pieces hand to each other.
use Rattle.std.specs.Prelude.{◌≡◌, ℕ, ◌<◌, List, [], length, ℤ, slice_index_or}
use Rattle.std.specs.Global.{Vec}

-- One list for each edge of a purpose, in the order of the piece's edges: each holds the value of the use for what its edge carries.
pub record HoldsLists (items : List (List ℕ)) (value : List ℕ → List ℤ) (lists : List (Vec ℤ)) : Type 0 where
  pub size : length lists ≡ length items
  pub each : (s : ℕ) (list : Vec ℤ) → s < length lists → (slice_index_or lists s list).items ≡ value (slice_index_or items s [])
