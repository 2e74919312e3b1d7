use Rattle.cpl_box.specs.Passes.{view_of}
use Rattle.cpl_box.proofs.Answered.{sees_post}
use Rattle.cpl_box.proofs.boxes.BoxUserBoxes.try_post.Goals as goal

pub returns-clause-seen : goal.returns-clause-seen
returns-clause-seen g c = sees_post (view_of c.args.self.now.pass) (view_of c.post.new.pass) c.args.edge c.args.k c.post.result c.post.ensures.view
