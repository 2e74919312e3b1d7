use Rattle.std.proofs.Common.{◌≡◌, drop}
use Rattle.cpl_mosaic.specs.Contacts.{joins_of}
use Rattle.cpl_mosaic.specs.Table.{with_joins}
use Rattle.cpl_mosaic.proofs.table.join.Given as goal

abbrev pub invariant-loop-m : goal.invariant-loop-m
invariant-loop-m l = with_joins l.tiles (drop l.m (joins_of l.tiles l.contact)) l.table ≡ with_joins l.tiles (joins_of l.tiles l.contact) l.fn.table
