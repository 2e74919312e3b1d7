-- A disk: what its names lead to, what of it is only in memory, what a crash may leave, and what the calls on it do.
use Rattle.std.specs.Prelude.{◌≡◌, ◌≢◌, ◌⊎◌, ℕ, Bool, true, false, List, [], ◌∷◌, ◌++◌, take, Option, Some, None, IsSome, Result, Ok, Err, string_bytes}
use Rattle.cpl_io.specs.declared.shelf.ShelfError.{ShelfError}
use Rattle.cpl_io.specs.declared.disk.Found.{Found}
use Rattle.cpl_io.specs.declared.disk.Found.TheVariants as found

-- What a name leads to: nothing; a regular file with its bytes, as the system shows them, and whether all of them are on the
-- disk; a symbolic link to this path; or anything else.
pub data Thing : Type 0 where
  Nothing : Thing
  File : (bytes : List ℕ) (is_kept : Bool) → Thing
  Link : (path : List ℕ) → Thing
  Other : Thing

-- what a name leads to, and what a crash may bring back in its place
pub record Place : Type 0 where
  pub now : Thing
  pub before : List Thing

-- the bytes that a crash may leave, or no regular file: of bytes that are only in memory it may leave any others
abbrev pub Leaves : Thing → Option (List ℕ) → Type 0
Leaves (File bytes true) left = left ≡ Some bytes
Leaves (File bytes false) left = IsSome left
Leaves Nothing left = left ≡ None
Leaves (Link path) left = left ≡ None
Leaves Other left = left ≡ None

abbrev pub OneLeaves : List Thing → Option (List ℕ) → Type 0
OneLeaves [] left = ⊥
OneLeaves (thing ∷ things) left = Leaves thing left ⊎ OneLeaves things left

-- what a crash may leave of a name
abbrev pub MayLeave : Place → Option (List ℕ) → Type 0
MayLeave place left = OneLeaves (place.now ∷ place.before) left

abbrev pub bytes_in : Thing → List ℕ
bytes_in (File bytes is_kept) = bytes
bytes_in Nothing = []
bytes_in (Link path) = []
bytes_in Other = []

abbrev pub IsFile : Thing → Type 0
IsFile thing = (bytes : List ℕ) × (is_kept : Bool) × (thing ≡ File bytes is_kept)

-- the name leads to another thing, and a crash may bring back what it led to before
abbrev pub turned : Place → Thing → Place
turned place thing = record { now = thing; before = place.now ∷ place.before }

-- its file has other bytes
abbrev pub filled : Place → List ℕ → Bool → Place
filled place bytes is_kept = record { now = File bytes is_kept; before = place.before }

-- a crash brings nothing back
abbrev pub settled : Place → Place
settled place = record { now = place.now; before = [] }

-- all names but this one are as they were
abbrev pub OthersAre : (List ℕ → Place) → (List ℕ → Place) → List ℕ → Type 0
OthersAre old new name = (other : List ℕ) → other ≢ name → new other ≡ old other

-- all names are
abbrev pub AllAre : (List ℕ → Place) → (List ℕ → Place) → Type 0
AllAre old new = (other : List ℕ) → new other ≡ old other

-- only this name has changed, to this place
pub record Only (old new : List ℕ → Place) (name : List ℕ) (place : Place) : Type 0 where
  pub is : new name ≡ place
  pub others : OthersAre old new name

-- what a look answers
abbrev pub Shows : Found → Thing → Type 0
Shows found.Nothing thing = thing ≡ Nothing
Shows found.File thing = IsFile thing
Shows (found.Link path) thing = thing ≡ Link (string_bytes path)
Shows found.Other thing = thing ≡ Other

-- a new file was made, of no bytes, where there was nothing
pub record Made {F : Type 0} (opened : F → List ℕ) (file : F) (name : List ℕ) (old new : List ℕ → Place) : Type 0 where
  pub opened_as : opened file ≡ name
  pub free : (old name).now ≡ Nothing
  pub only : Only old new name (turned (old name) (File [] false))

abbrev pub Makes : {F : Type 0} → (F → List ℕ) → List ℕ → (List ℕ → Place) → (List ℕ → Place) → Result (Option F) ShelfError → Type 0
Makes opened name old new (Ok (Some file)) = Made opened file name old new
Makes opened name old new (Ok None) = AllAre old new
Makes opened name old new (Err error) = AllAre old new

-- some of the bytes were added to the new file; after a failure it may have any
abbrev pub Adds : List ℕ → List ℕ → (List ℕ → Place) → (List ℕ → Place) → Result ℕ ShelfError → Type 0
Adds name bytes old new (Ok count) = Only old new name (filled (old name) (bytes_in (old name).now ++ take count bytes) false)
Adds name bytes old new (Err error) = (any : List ℕ) × Only old new name (filled (old name) any false)

-- all bytes of the new file are on the disk; after a failure it may have any
abbrev pub Keeps : List ℕ → (List ℕ → Place) → (List ℕ → Place) → Result Unit ShelfError → Type 0
Keeps name old new (Ok x) = Only old new name (filled (old name) (bytes_in (old name).now) true)
Keeps name old new (Err error) = (any : List ℕ) × Only old new name (filled (old name) any false)

-- what the first name led to, the second does
pub record Renamed (from to : List ℕ) (old new : List ℕ → Place) : Type 0 where
  pub to_is : new to ≡ turned (old to) (old from).now
  pub from_is : new from ≡ turned (old from) Nothing
  pub others : (other : List ℕ) → other ≢ from → other ≢ to → new other ≡ old other

-- after a failure all of it was done, or nothing
abbrev pub Renames : List ℕ → List ℕ → (List ℕ → Place) → (List ℕ → Place) → Result Unit ShelfError → Type 0
Renames from to old new (Ok x) = Renamed from to old new
Renames from to old new (Err error) = AllAre old new ⊎ Renamed from to old new

abbrev pub Removes : List ℕ → (List ℕ → Place) → (List ℕ → Place) → Result Unit ShelfError → Type 0
Removes name old new (Ok x) = Only old new name (turned (old name) Nothing)
Removes name old new (Err error) = AllAre old new ⊎ Only old new name (turned (old name) Nothing)

-- a crash brings nothing back at this name, where the disk lets one wait for that
abbrev pub Settles : Bool → List ℕ → (List ℕ → Place) → (List ℕ → Place) → Result Unit ShelfError → Type 0
Settles true name old new (Ok x) = Only old new name (settled (old name))
Settles false name old new (Ok x) = AllAre old new ⊎ Only old new name (settled (old name))
Settles waits name old new (Err error) = AllAre old new ⊎ Only old new name (settled (old name))

-- Time goes on: what a name had at some moment since the first is what it had until old, or what it has in new.
pub record Elapses {D : Type 0} (place : D → List ℕ → Place) (since : D → D → List ℕ → Place → Type 0) (old new : D) : Type 0 where
  pub nothing_else : (first : D) (name : List ℕ) (had : Place) → since first new name had → since first old name had ⊎ (had ≡ place new name)
  pub keeps : (first : D) (name : List ℕ) (had : Place) → since first old name had → since first new name had
