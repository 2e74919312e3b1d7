use Rattle.std.proofs.Common.{◌∙◌, Some, None}
use Rattle.cpl_wires.specs.Pairs.{ocean_faces}
use Rattle.cpl_wires.proofs.Haloed.{faces_size_is}
use Rattle.cpl_wires.proofs.shared.Shared.face_count.Goals as goal

pub returns-in-Some : goal.returns-in-Some
returns-in-Some c = c.len.ensures ∙ faces_size_is (ocean_faces c.args.self.now c.args.from c.args.to) (Some c.in-Some.strip.now) c.in-Some.ensures

pub returns-in-None : goal.returns-in-None
returns-in-None c = faces_size_is (ocean_faces c.args.self.now c.args.from c.args.to) None c.in-None.ensures
