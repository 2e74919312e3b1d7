use Rattle.cpl_box.specs.Passes.{view_of}
use Rattle.cpl_box.proofs.Answered.{sees_take}
use Rattle.cpl_box.proofs.boxes.BoxUserBoxes.try_take.Goals as goal

pub returns-clause-seen : goal.returns-clause-seen
returns-clause-seen g c = sees_take (view_of c.args.self.now.pass) (view_of c.take.new.pass) c.args.edge c.args.k c.take.result c.take.ensures.view
