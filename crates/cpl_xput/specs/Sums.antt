-- Sums of the values of exchange cells.
use Rattle.std.specs.Prelude.{ℕ, ◌==◌, ◌<◌, List, [], ◌∷◌, map, take, ℤ, pos, if◌then◌else◌, slice_index_or, All}
use Rattle.std.specs.List.{range_with_len}
use Rattle.std.specs.Int.RustNames.{FitsSigned}
use Rattle.std.proofs.Common.{w64}
use Rattle.cpl_fixed.specs.Totals.{total_of}

-- the values that belong to a place, in order: the n-th value belongs to the n-th of the places
abbrev pub values_at : ℕ → List ℕ → List ℤ → List ℤ
values_at at (place ∷ places) (value ∷ values) = if place == at then value ∷ values_at at places values else values_at at places values
values_at at _ _ = []

-- the sum of the values of each place
abbrev pub sums_of : ℕ → List ℕ → List ℤ → List ℤ
sums_of count places values = map (λ at. total_of (values_at at places values)) (range_with_len 0 count)

-- each place is below the count
abbrev pub ArePlaces : ℕ → List ℕ → Type 0
ArePlaces count places = All (λ place. place < count) places

-- the sum of the first values of a place fits 64 bits, however many they are
abbrev pub SumsFit : List ℕ → List ℤ → Type 0
SumsFit places values = (n at : ℕ) → FitsSigned w64 (total_of (values_at at (take n places) (take n values)))

-- the values of each place, copied
abbrev pub copied : List ℕ → List ℤ → List ℤ
copied places values = map (λ place. slice_index_or values place (pos 0)) places
