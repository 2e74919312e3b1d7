-- What a part of a list has at its places.
use Rattle.std.proofs.Common.{◌≡◌, ◌∙◌, sym, subst, ℕ, ◌+◌, ◌-◌, ◌<◌, ◌≤◌, arith, List, length, drop, slice_index_or, length-drop}
use Rattle.std.specs.Prelude.{All, slice_range}
use Rattle.std.proofs.lemmas.List.{get_or-drop, get_or-take, length-take-le}
use Rattle.std.proofs.lemmas.List.Elements.{All-drop, All-from_get_or, All-take}

module _ {X : Type 0} (d : X) (xs : List X) (from to : ℕ) where
  pub slice_at : (n : ℕ) → from + n < to → slice_index_or (slice_range xs from to) n d ≡ slice_index_or xs (from + n) d
  slice_at n l = get_or-take (to - from) (drop from xs) n d (omega arith) ∙ get_or-drop from xs n d

pub slice_length : {X : Type 0} (xs : List X) (from to : ℕ) → to ≤ length xs → length (slice_range xs from to) ≡ to - from
slice_length xs from to le =
    let left = length-drop from xs in
    length-take-le (to - from) (drop from xs) (omega (arith, left))

pub slice_all : {X : Type 0} (P : X → Type 0) (xs : List X) (from to : ℕ) → All P xs → All P (slice_range xs from to)
slice_all P xs from to all = All-take P (to - from) (drop from xs) (All-drop P from xs all)

-- what holds at each place from one up to another holds of the part between them
pub slice_each : {X : Type 0} (P : X → Type 0) (d : X) (xs : List X) (from to : ℕ) → to ≤ length xs → ((n : ℕ) → from + n < to → P (slice_index_or xs (from + n) d)) → All P (slice_range xs from to)
slice_each P d xs from to le each =
    let long = slice_length xs from to le in
    All-from_get_or P (slice_range xs from to) d
    (λ n l.
    let below : from + n < to = omega (arith, long, l) in
    subst P (sym (slice_at d xs from to n below)) (each n below))
