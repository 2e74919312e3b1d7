use Rattle.std.proofs.Common.{◌≡◌, ap, arith, ◌<◌, ◌^◌}
use Rattle.std.specs.List.{range_with_len}
use Rattle.std.proofs.lemmas.List.Elements.{All-append}
use Rattle.cpl_combine.specs.Windows.{row_cells, window_cells}
use Rattle.cpl_combine.proofs.Steps.{range_below, rows_next}
use Rattle.cpl_combine.proofs.places.cells_of.Goals as goal

pub loop-j-preserved : goal.loop-j-preserved
loop-j-preserved c =
    let nx = c.args.window.nx in
    record {
      cells = rows_next (row_cells c.args.mosaic.now.tiles c.args.window) c.loop-j.cells.items c.push_run.new.out.items (range_with_len c.row_start.result nx) c.loop-j.j c.in_ok-push_run.ensures c.loop-j.invariant.cells (ap (λ s. range_with_len s nx) c.row_start.ensures.start);
      small = rw c.in_ok-push_run.ensures (All-append (λ n. n < 2 ^ 18) c.loop-j.cells.items (range_with_len c.row_start.result nx) c.loop-j.invariant.small (range_below c.row_start.result nx (2 ^ 18) c.row_start.ensures.within));
    }

pub returns-clause-cells : goal.returns-clause-cells
unfolding window_cells
returns-clause-cells c =
    let end : c.loop-j.j ≡ c.args.window.ny = omega arith in
    rw (← end) c.loop-j.invariant.cells
