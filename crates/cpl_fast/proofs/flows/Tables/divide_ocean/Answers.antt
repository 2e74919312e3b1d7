use Rattle.std.proofs.Common.{◌∙◌, sym, ap, subst, arith, length}
use Rattle.std.proofs.lemmas.List.{with_items_is}
use Rattle.cpl_xgrid.specs.declared.parts.Surface.TheVariants.{Ocean}
use Rattle.cpl_fast.specs.Filled.{AreElementAreas}
use Rattle.cpl_fast.proofs.Dividing.{can_share_out, ocean_divided}
use Rattle.cpl_fast.proofs.flows.Tables.divide_ocean.Goals as goal

pub fill_ocean_areas-requires-clause-places : goal.fill_ocean_areas-requires-clause-places
fill_ocean_areas-requires-clause-places c =
    (can_share_out c.args.grid.now c.requires.grid c.args.whole.now c.requires.whole c.deref.result.now c.args.self.now.links.items c.rows-rows.result.now c.as_slice-parts.result.now c.args.self.now.width
    c.requires.tables.links c.deref.ensures.value c.rows-rows.ensures c.as_slice-parts.ensures c.requires.tables.width).places

pub fill_ocean_areas-requires-clause-whole : goal.fill_ocean_areas-requires-clause-whole
fill_ocean_areas-requires-clause-whole c =
    (can_share_out c.args.grid.now c.requires.grid c.args.whole.now c.requires.whole c.deref.result.now c.args.self.now.links.items c.rows-rows.result.now c.as_slice-parts.result.now c.args.self.now.width
    c.requires.tables.links c.deref.ensures.value c.rows-rows.ensures c.as_slice-parts.ensures c.requires.tables.width).all_parts

pub returns-clause-areas : goal.returns-clause-areas
returns-clause-areas c =
    let gone = with_items_is c.args.self.now.areas c.fill_ocean_areas.new.areas (omega (arith, c.deref_mut.ensures.len, c.fill_ocean_areas.ensures.count)) in
    let count = c.fill_ocean_areas.ensures.count ∙ ap length c.deref_mut.ensures.value ∙ c.requires.tables.areas in
    subst (AreElementAreas c.args.grid.now c.args.whole.now Ocean) (sym gone)
    (ocean_divided c.args.grid.now c.requires.grid c.args.whole.now c.requires.whole c.deref.result.now c.args.self.now.links.items c.rows-rows.result.now c.as_slice-parts.result.now c.args.self.now.width
    c.requires.tables.links c.deref.ensures.value c.rows-rows.ensures c.as_slice-parts.ensures c.requires.tables.width
    c.fill_ocean_areas.new.areas count c.fill_ocean_areas.ensures.value)
