use Rattle.std.proofs.Common.{◌≡◌, false, take}
use Rattle.std.specs.List.{list_any}
use Rattle.cpl_mosaic.specs.Sides.{CellSide, is_same_side}
use Rattle.cpl_mosaic.specs.Contacts.{pairs_of}
use Rattle.cpl_mosaic.proofs.contacts.meets_itself.Given as goal

abbrev pub invariant-loop-k : goal.invariant-loop-k
invariant-loop-k l = list_any (λ (p : CellSide × CellSide). is_same_side p.0 p.1) (take l.k (pairs_of l.tiles l.contact)) ≡ false
