-- A finite map from names to bytes, and what the calls on a shelf do to it.
use Rattle.std.specs.Prelude.{◌≡◌, ◌≢◌, ◌↔◌, ℕ, ◌≤◌, List, [], length, take, drop, Some, unwrap_or}
use Rattle.std.specs.Cmp.Lexicographic.{slice_cmp}
use Rattle.std.specs.Ordering.{nat_cmp}
use Rattle.std.specs.FinMap.{FinMap, get, code}
use Rattle.std.specs.Coded.{Coded, coded_ℕ, coded_list}

abbrev pub Files : Type 0
Files = FinMap (slice_cmp nat_cmp) (List ℕ)

abbrev pub coded_files : Coded Files
coded_files = code (coded_list coded_ℕ) (coded_list coded_ℕ)

-- the bytes of a name. A name that isn't there has none
abbrev pub bytes_of : Files → List ℕ → List ℕ
bytes_of files name = unwrap_or (get files name) []

-- the first n bytes of buf are the bytes from that place on, and there are none exactly at the end
pub record ReadsAt (bytes : List ℕ) (from n : ℕ) (buf : List ℕ) : Type 0 where
  pub taken : take n buf ≡ take n (drop from bytes)
  pub at_end : (n ≡ 0) ↔ (length bytes ≤ from)

-- the name has these bytes
abbrev pub Has : Files → List ℕ → List ℕ → Type 0
Has files name bytes = get files name ≡ Some bytes

-- all names but this one stand as they were
abbrev pub OthersStand : Files → Files → List ℕ → Type 0
OthersStand old new name = (other : List ℕ) → other ≢ name → get new other ≡ get old other
