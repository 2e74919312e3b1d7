-- So far the exchange cells of the cells of the ocean before this one.
use Rattle.std.proofs.Common.{◌≡◌, ◌-◌, ◌++◌, not, map}
use Rattle.std.specs.List.{filter, range_with_len}
use Rattle.cpl_made_grid.specs.Overlaps.{is_land, land_row, ocean_row}
use Rattle.cpl_made_grid.specs.Outlets.{first_under}
use Rattle.cpl_made_grid.proofs.overlaps.push_rows.Given as goal

abbrev pub invariant-loop-o : goal.invariant-loop-o
invariant-loop-o l = record {
  land : l.rows.land.items ≡ l.initial.rows.land.items ++ map (land_row l.recipe.size l.a) (filter (is_land l.recipe l.a) (range_with_len (first_under l.recipe.size l.a) (l.o - first_under l.recipe.size l.a)));
  ocean : l.rows.ocean.items ≡ l.initial.rows.ocean.items ++ map (ocean_row l.recipe.size l.a) (filter (λ o. not (is_land l.recipe l.a o)) (range_with_len (first_under l.recipe.size l.a) (l.o - first_under l.recipe.size l.a)));
}
