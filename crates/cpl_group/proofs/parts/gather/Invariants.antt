use Rattle.std.proofs.Common.{◌≡◌, ℕ, ◌+◌, ◌<◌, ◌≤◌, ◌⊎◌, length, pos, slice_index_or}
use Rattle.cpl_field.specs.Spots.{number_at}
use Rattle.cpl_group.specs.Parts.{place_of}
use Rattle.cpl_group.proofs.parts.gather.Given as goal

abbrev pub invariant-loop-k : goal.invariant-loop-k
invariant-loop-k l = record {
  count : length l.list ≡ length l.fn.list;
  there : (m : ℕ) → m < l.k → slice_index_or l.list (l.from + m) (pos 0) ≡ number_at l.field (place_of l.places m);
  others : (m : ℕ) → (m < l.from) ⊎ (l.from + l.k ≤ m) → slice_index_or l.list m (pos 0) ≡ slice_index_or l.fn.list m (pos 0);
}
