-- What writing a file whole leaves, at every moment.
use Rattle.std.specs.Prelude.{◌≡◌, ◌≢◌, ◌⊎◌, ℕ, zero, suc, true, List, Option, Some, None, IfSome}
use Rattle.cpl_io.specs.Disk.{Thing, Nothing, File, Link, Other, Place, MayLeave}

abbrev pub next : Thing → List ℕ → (List ℕ → Option (List ℕ)) → Option (List ℕ)
next Nothing name on = Some name
next (File bytes is_kept) name on = Some name
next (Link path) name on = on path
next Other name on = None

-- the path of the regular file, or of nothing, that a name leads to by fewer links than this
unfoldable pub behind : ℕ → (List ℕ → Place) → List ℕ → Option (List ℕ)
behind zero place name = None
behind (suc links) place name = next (place name).now name (λ path. behind links place path)

-- the same by as many links as are followed at most, as on Linux
unfoldable pub target : (List ℕ → Place) → List ℕ → Option (List ℕ)
target = behind 40

-- Between two disks a name had at each moment what it had until the first, or a place with P.
abbrev pub AtEachMoment : {D : Type 0} → (D → D → List ℕ → Place → Type 0) → D → D → List ℕ → (Place → Type 0) → Type 0
AtEachMoment since old new name P = (first : _) (had : Place) → since first new name had → since first old name had ⊎ P had

-- The system shows what it showed before, or the new bytes; and a crash leaves what one before may have left, or the new bytes.
pub record OldOrNew (old : Place) (bytes : List ℕ) (place : Place) : Type 0 where
  pub shown : (place.now ≡ old.now) ⊎ (place.now ≡ File bytes true)
  pub left : (left : Option (List ℕ)) → MayLeave place left → MayLeave old left ⊎ (left ≡ Some bytes)

-- the name is as it was, and was so at each moment
pub record Untouched {D : Type 0} (place : D → List ℕ → Place) (since : D → D → List ℕ → Place → Type 0) (old new : D) (name : List ℕ) : Type 0 where
  pub is : place new name ≡ place old name
  pub was : AtEachMoment since old new name (λ had. had ≡ place old name)

abbrev pub OthersUntouched : {D : Type 0} → (D → List ℕ → Place) → (D → D → List ℕ → Place → Type 0) → D → D → List ℕ → Type 0
OthersUntouched place since old new name = (other : List ℕ) → other ≢ name → Untouched place since old new other

-- All names but this one and at most one that was free were at each moment what they were before.
pub record OthersStood {D : Type 0} (place : D → List ℕ → Place) (since : D → D → List ℕ → Place → Type 0) (old new : D) (name : Option (List ℕ)) : Type 0 where
  pub part : Option (List ℕ)
  pub free : IfSome part (λ part. (place old part).now ≡ Nothing)
  pub others : (other : List ℕ) → name ≢ Some other → part ≢ Some other → Untouched place since old new other
