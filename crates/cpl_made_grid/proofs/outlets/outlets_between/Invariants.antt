-- The outlets of the cells so far.
use Rattle.std.proofs.Common.{◌≡◌, map}
use Rattle.std.specs.List.{filter, range_with_len}
use Rattle.cpl_made_grid.specs.Outlets.{is_wet, outlet_at}
use Rattle.cpl_made_grid.proofs.outlets.outlets_between.Given as goal

abbrev pub invariant-loop-a : goal.invariant-loop-a
invariant-loop-a l = l.outlets.items ≡ map (outlet_at l.size l.ocean_areas) (filter (is_wet l.land_areas) (range_with_len 0 l.a))
