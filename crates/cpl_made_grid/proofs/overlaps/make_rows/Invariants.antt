-- So far the exchange cells of the cells of the air before this one.
use Rattle.std.proofs.Common.{◌≡◌}
use Rattle.std.specs.List.{flat_map, range_with_len}
use Rattle.cpl_made_grid.specs.Overlaps.{land_rows_of, ocean_rows_of}
use Rattle.cpl_made_grid.proofs.overlaps.make_rows.Given as goal

abbrev pub invariant-loop-a : goal.invariant-loop-a
invariant-loop-a l = record {
  land : l.rows.land.items ≡ flat_map (land_rows_of l.recipe) (range_with_len 0 l.a);
  ocean : l.rows.ocean.items ≡ flat_map (ocean_rows_of l.recipe) (range_with_len 0 l.a);
}
