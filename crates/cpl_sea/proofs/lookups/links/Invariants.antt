use Rattle.std.proofs.Common.{◌≡◌, take}
use Rattle.std.specs.Prelude.{map}
use Rattle.cpl_sea.specs.Links.{link_of}
use Rattle.cpl_sea.proofs.lookups.links.Given as goal

abbrev pub invariant-loop-face : goal.invariant-loop-face
invariant-loop-face l = l.links.items ≡ map (link_of l.mesh) (take l.face-index l.faces)
