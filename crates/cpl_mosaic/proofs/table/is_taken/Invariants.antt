use Rattle.std.proofs.Common.{◌≡◌, false, take}
use Rattle.std.specs.List.{list_any}
use Rattle.cpl_mosaic.specs.Contacts.{joins_of}
use Rattle.cpl_mosaic.specs.Table.{is_taken}
use Rattle.cpl_mosaic.proofs.table.is_taken.Given as goal

abbrev pub invariant-loop-m : goal.invariant-loop-m
invariant-loop-m l = list_any (is_taken l.tiles l.table) (take l.m (joins_of l.tiles l.contact)) ≡ false
