use Rattle.std.proofs.Common.{◌+◌, ◌*◌}
use Rattle.cpl_field.specs.Spots.{number_at}
use Rattle.cpl_ocean.proofs.Driven.{EastTo}
use Rattle.cpl_ocean.proofs.numbers.drive_eastward.Given as goal

abbrev pub invariant-loop-j : goal.invariant-loop-j
invariant-loop-j l = EastTo l.basin.area (number_at l.basin.heights) l.slope (l.j * (l.fn.faces.nx + 1)) l.fn.faces l.faces

abbrev pub invariant-loop-i : goal.invariant-loop-i
invariant-loop-i l = EastTo l.basin.area (number_at l.basin.heights) l.slope (l.j * (l.fn.faces.nx + 1) + l.i) l.fn.faces l.faces
