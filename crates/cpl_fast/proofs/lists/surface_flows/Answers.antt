use Rattle.std.proofs.Common.{◌∙◌, ◌*◌, ◌^◌, arith, length}
use Rattle.cpl_fast.specs.Stages.{dry}
use Rattle.cpl_fast.proofs.Small.{smaller}
use Rattle.cpl_fast.proofs.ToFlows.{airs, can_flow, cells, few, flown_is, flows_are}
use Rattle.cpl_fast.proofs.lists.surface_flows.Goals as goal

pub list_flows-requires-clause-airs : goal.list_flows-requires-clause-airs
list_flows-requires-clause-airs c = airs _ c.requires.lawful _ _ _ c.requires.tables c.requires.skies

pub list_flows-requires-clause-cells : goal.list_flows-requires-clause-cells
list_flows-requires-clause-cells c = cells _ c.requires.lawful _ _ _ c.requires.tables c.requires.skies _ c.surface_parts-parts.ensures

pub list_flows-requires-clause-can : goal.list_flows-requires-clause-can
list_flows-requires-clause-can c = can_flow _ c.requires.lawful _ _ _ c.requires.tables c.requires.skies _ c.surface_parts-parts.ensures

pub list_flows-requires-clause-few : goal.list_flows-requires-clause-few
list_flows-requires-clause-few c = few _ c.requires.lawful _ _ _ c.requires.tables c.requires.skies

pub returns-clause-flows : goal.returns-clause-flows
returns-clause-flows c =
    flows_are _ c.requires.lawful _ _ _ c.requires.tables c.requires.skies _ c.surface_parts-parts.ensures
    c.args.flows.now c.list_flows.new.flows c.requires.suns (c.list_flows.auto.flows ∙ c.requires.flows) c.list_flows.ensures.flows

pub returns-clause-sums : goal.returns-clause-sums
returns-clause-sums c = flown_is _ c.requires.lawful _ _ _ c.requires.tables c.requires.skies dry c.list_flows.new.flows c.list_flows.result (returns-clause-flows c) c.list_flows.ensures.sums

pub returns-clause-small : goal.returns-clause-small
returns-clause-small c =
    let rows = few _ c.requires.lawful _ _ _ c.requires.tables c.requires.skies in
    smaller (6 * length c.args.tables.now.links.items) (2 ^ 30) c.list_flows.result (omega (arith, rows)) c.list_flows.ensures.small
