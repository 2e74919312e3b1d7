use Rattle.std.proofs.Common.{arith}
use Rattle.cpl_combine.proofs.places.ocean_places.Goals as goal

pub by_cells-requires-clause-cells : goal.by_cells-requires-clause-cells
by_cells-requires-clause-cells c = rw c.deref.ensures.value c.in_ok-cells.ensures.small

pub by_cells-requires-2-clause-cells : goal.by_cells-requires-2-clause-cells
by_cells-requires-2-clause-cells c = rw c.deref-2.ensures.value c.in_ok-cells.ensures.small

pub by_layers-requires-clause-items : goal.by_layers-requires-clause-items
by_layers-requires-clause-items c = rw c.deref-3.ensures.value (λ k d h. let s = c.in_ok-cells.ensures.small k d h in omega arith)

pub by_layers-requires-2-clause-items : goal.by_layers-requires-2-clause-items
by_layers-requires-2-clause-items c = rw c.deref-4.ensures.value c.in_ok-own_faces.ensures.small

pub by_cells-requires-3-clause-cells : goal.by_cells-requires-3-clause-cells
by_cells-requires-3-clause-cells c = rw c.deref-5.ensures.value c.in_ok-cells.ensures.small

pub by_cells-requires-4-clause-cells : goal.by_cells-requires-4-clause-cells
by_cells-requires-4-clause-cells c = rw c.deref-6.ensures.value c.in_ok-cells.ensures.small
