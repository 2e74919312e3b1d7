-- A table by pairs of pieces, filled by the pieces that take, one after the other.
use Rattle.std.specs.Prelude.{◌≡◌, ℕ, zero, suc, ◌+◌, ◌*◌, ◌/◌, ◌%◌, ◌<◌, ◌==◌, nat_lt, List, [], ◌∷◌, ◌++◌, length, Option, Some, None, if◌then◌else◌, slice_index_or}
use Rattle.std.specs.List.{range_with_len, flat_map}
use Rattle.std.specs.Option.{option_to_list}

-- what f gives of 0 to k - 1, in order, without those of which it gives nothing
abbrev pub picks : {Y : Type 0} → (ℕ → Option Y) → ℕ → List Y
picks f zero = []
picks f (suc k) = picks f k ++ option_to_list (f k)

-- what f gives of each pair of pieces: by the first piece, then the second
abbrev pub for_pairs : {Y : Type 0} → ℕ → (ℕ → ℕ → Option Y) → List Y
for_pairs pieces f = flat_map (λ from. picks (f from) pieces) (range_with_len 0 pieces)

-- what is taken from a piece, if it is taken from this one
abbrev pub given : {T : Type 0} → ℕ → Option (ℕ × T) → Option T
given from None = None
given from (Some taken) = if taken.0 == from then Some taken.1 else None

-- what piece `from` gives to the first k takers of piece `to`, where each taker takes from one piece or none
abbrev pub gifts : {T : Type 0} → (ℕ → ℕ → Option (ℕ × T)) → ℕ → ℕ → ℕ → List T
gifts taken from to k = picks (λ m. given from (taken to m)) k

-- how many takers of a piece are done, where those of all pieces before `to` are, and the first m of `to`
abbrev pub done : (ℕ → ℕ) → ℕ → ℕ → ℕ → ℕ
done counts to m t = if nat_lt t to then counts t else (if t == to then m else 0)

-- the table holds for each pair of pieces what the one gives to the takers of the other that are done
pub record IsFilled {T : Type 0} (taken : ℕ → ℕ → Option (ℕ × T)) (counts : ℕ → ℕ) (pieces to m : ℕ) (table : List (List T)) : Type 0 where
  pub size : length table ≡ pieces * pieces
  pub each : (from t : ℕ) → from < pieces → t < pieces → slice_index_or table (from * pieces + t) [] ≡ gifts taken from t (done counts to m t)

-- a strip made of what stands at a place of the table, if anything does
abbrev pub if_some : {T R : Type 0} → (List T → R) → List T → Option R
if_some made [] = None
if_some made (x ∷ xs) = Some (made (x ∷ xs))

abbrev pub made_at : {T R : Type 0} → (ℕ → ℕ → List T → R) → ℕ → List (List T) → ℕ → Option R
made_at made pieces table n = if_some (made (n / pieces) (n % pieces)) (slice_index_or table n [])
