use Rattle.std.proofs.Common.{length}
use Rattle.cpl_diffusion.proofs.Between.{amount_read, area_read, small_read}
use Rattle.cpl_diffusion.proofs.sweep.next_flow.Goals as goal

pub flow_with-requires-clause-amount : goal.flow_with-requires-clause-amount
flow_with-requires-clause-amount c = amount_read (length c.args.area.now) c.args.amounts.now c.requires.amounts c.args.n c.requires.within

pub flow_with-requires-clause-other_amount : goal.flow_with-requires-clause-other_amount
flow_with-requires-clause-other_amount c = amount_read (length c.args.area.now) c.args.amounts.now c.requires.amounts _ (c.requires.faces.next c.args.n c.requires.within)

pub flow_with-requires-clause-other_area : goal.flow_with-requires-clause-other_area
flow_with-requires-clause-other_area c = area_read c.args.area.now c.requires.faces.areas _ (c.requires.faces.next c.args.n c.requires.within)

pub returns-clause-small : goal.returns-clause-small
returns-clause-small c =
    small_read c.args.area.now c.requires.faces.areas c.args.amounts.now c.requires.amounts c.args.n _ c.requires.within (c.requires.faces.next c.args.n c.requires.within) c.flow_with.result c.flow_with.ensures
