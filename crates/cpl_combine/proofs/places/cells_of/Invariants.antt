use Rattle.std.proofs.Common.{◌≡◌, ◌<◌, ◌^◌}
use Rattle.std.specs.Prelude.{All}
use Rattle.std.specs.List.{flat_map, range_with_len}
use Rattle.cpl_combine.specs.Windows.{row_cells}
use Rattle.cpl_combine.proofs.places.cells_of.Given as goal

abbrev pub invariant-loop-j : goal.invariant-loop-j
invariant-loop-j l = record {
  cells : l.cells.items ≡ flat_map (row_cells l.mosaic.tiles l.window) (range_with_len 0 l.j);
  small : All (λ n. n < 2 ^ 18) l.cells.items;
}
