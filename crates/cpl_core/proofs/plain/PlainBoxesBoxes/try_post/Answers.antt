use Rattle.std.proofs.Common.{◌*◌, arith}
use Rattle.cpl_core.specs.Content.{posts_at, takes_at}
use Rattle.cpl_core.proofs.Turns.{has_turns, counts_on, counts_stay, sees}
use Rattle.cpl_core.proofs.plain.PlainBoxesBoxes.try_post.Goals as goal

pub returns-clause-posts : goal.returns-clause-posts
returns-clause-posts g c =
    rw c.exchange.ensures.state (counts_on c.exchange.result posts_at c.args.self.now.turns c.args.edge (2 * c.args.k) _ (omega arith))

pub returns-clause-takes : goal.returns-clause-takes
returns-clause-takes g c =
    let below = has_turns _ c.args.self.now c.args.edge c.self.view_is c.self.invariant.turns_len c.requires.edge in
    rw c.exchange.ensures.state (counts_stay c.exchange.result takes_at c.args.self.now.turns c.args.edge (2 * c.args.k) below (omega arith) c.exchange.ensures.found)

pub returns-clause-seen : goal.returns-clause-seen
returns-clause-seen g c =
    let below = has_turns _ c.args.self.now c.args.edge c.self.view_is c.self.invariant.turns_len c.requires.edge in
    rw c.exchange.ensures.state (sees c.exchange.result c.args.self.now.turns c.args.edge (2 * c.args.k) _ below (omega arith) c.exchange.ensures.found)
