use Rattle.std.proofs.Common.{◌≡◌, ◌≢◌, ℕ, ◌+◌, ◌<◌, pos, slice_index_or}
use Rattle.cpl_field.specs.Spots.{Spot, IsSpot, IsSameShape, number_at}
use Rattle.cpl_group.specs.Parts.{hole_of}
use Rattle.cpl_group.proofs.parts.scatter.Given as goal

abbrev pub invariant-loop-k : goal.invariant-loop-k
invariant-loop-k l = record {
  shape : IsSameShape l.fn.field l.field;
  there : (m : ℕ) → m < l.k → number_at l.field (hole_of l.holes m) ≡ slice_index_or l.list (l.from + m) (pos 0);
  others : (spot : Spot) → IsSpot l.fn.field spot → ((m : ℕ) → m < l.k → spot ≢ hole_of l.holes m) → number_at l.field spot ≡ number_at l.fn.field spot;
}
