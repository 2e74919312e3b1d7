use Rattle.std.proofs.Common.{refl, sym, subst, arith}
use Rattle.std.proofs.lemmas.List.{with_items_is}
use Rattle.cpl_xgrid.specs.declared.parts.Surface.TheVariants.{Land, Ocean}
use Rattle.cpl_fast.specs.Stages.{AreFlows, dry, step_of}
use Rattle.cpl_fast.proofs.Keeping.{keep_flows}
use Rattle.cpl_fast.proofs.room.FastRoom.flow.Goals as goal

pub returns-clause-flows : goal.returns-clause-flows
returns-clause-flows c =
    let s = step_of c.args.view.now in
    let room = c.args.self.now in
    let land_is = with_items_is room.land_flows c.surface_flows-land.new.flows (omega (arith, c.surface_flows-land.auto.flows, c.deref_mut.ensures.len)) in
    let ocean_is = with_items_is room.ocean_flows c.surface_flows-ocean.new.flows (omega (arith, c.surface_flows-ocean.auto.flows, c.deref_mut-2.ensures.len)) in
    keep_flows s dry (λ ref k e. refl) room _ c.requires refl
    (subst (AreFlows s dry Land) (sym land_is) c.surface_flows-land.ensures.flows) (subst (AreFlows s dry Ocean) (sym ocean_is) c.surface_flows-ocean.ensures.flows)
