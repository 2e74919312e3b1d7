use Rattle.std.proofs.Common.{◌∙◌}
use Rattle.cpl_transport.specs.Salts.{joined}
use Rattle.cpl_sea.proofs.moving.moved_out.Goals as goal

pub returns-clause-value : goal.returns-clause-value
returns-clause-value c =
    c.sum_of_sides.ensures.value
    ∙ (λ i. joined (joined (c.seen-west.ensures.value i) (c.seen-east.ensures.value i)) (joined (c.seen-south.ensures.value i) (c.seen-north.ensures.value i)))
