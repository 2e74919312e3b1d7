use Rattle.std.proofs.Common.{sym, ◌∙◌}
use Rattle.cpl_xput.proofs.Shared.{written_none, share_count}
use Rattle.cpl_xput.proofs.shares.share_out.Goals as goal

pub loop-k-init : goal.loop-k-init
loop-k-init c = written_none _ c.args.to.now c.shares-rest.result c.shares-rest.ensures (c.requires.room ∙ sym (share_count _ _ _ c.args.weights.now))
