use Rattle.std.proofs.Common.{◌+◌, ◌*◌}
use Rattle.cpl_field.specs.Spots.{number_at}
use Rattle.cpl_ocean.proofs.Driven.{NorthTo}
use Rattle.cpl_ocean.proofs.numbers.drive_northward.Given as goal

abbrev pub invariant-loop-j : goal.invariant-loop-j
invariant-loop-j l = NorthTo l.basin.area (number_at l.basin.heights) l.slope (l.j * l.fn.faces.nx) l.fn.faces l.faces

abbrev pub invariant-loop-i : goal.invariant-loop-i
invariant-loop-i l = NorthTo l.basin.area (number_at l.basin.heights) l.slope (l.j * l.fn.faces.nx + l.i) l.fn.faces l.faces

abbrev pub invariant-loop-i-2 : goal.invariant-loop-i-2
invariant-loop-i-2 l = NorthTo l.basin.area (number_at l.basin.heights) l.slope (l.fn.faces.ny * l.fn.faces.nx + l.i) l.fn.faces l.faces
