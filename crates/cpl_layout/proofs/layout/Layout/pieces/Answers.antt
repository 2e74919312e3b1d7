use Rattle.std.proofs.Common.{subst}
use Rattle.cpl_layout.specs.Owners.{OwnersAgree}
use Rattle.cpl_layout.proofs.Numbered.{owners_agree}
use Rattle.cpl_layout.proofs.layout.Layout.pieces.Goals as goal

pub returns-clause-owners : goal.returns-clause-owners
returns-clause-owners c = subst OwnersAgree c.self.view_is (owners_agree (record { tiles = c.self.inside.tiles.items; px = c.self.inside.px; py = c.self.inside.py }) c.self.invariant)
