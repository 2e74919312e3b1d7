use Rattle.std.proofs.Common.{◌∙◌, sym, ap, subst, arith, length}
use Rattle.std.proofs.lemmas.List.{with_items_is}
use Rattle.cpl_xgrid.specs.declared.parts.Surface.TheVariants.{Land}
use Rattle.cpl_fast.specs.Filled.{AreElementAreas}
use Rattle.cpl_fast.proofs.Dividing.{land_divided}
use Rattle.cpl_fast.proofs.flows.Tables.divide_land.Goals as goal

pub returns-clause-areas : goal.returns-clause-areas
returns-clause-areas c =
    let gone = with_items_is c.args.self.now.areas c.fill_land_areas.new.areas (omega (arith, c.deref_mut.ensures.len, c.fill_land_areas.ensures.count)) in
    let count = c.fill_land_areas.ensures.count ∙ ap length c.deref_mut.ensures.value ∙ c.requires.tables.areas in
    subst (AreElementAreas c.args.grid.now c.args.whole.now Land) (sym gone)
    (land_divided c.args.grid.now c.requires.grid c.args.whole.now c.requires.whole c.rows.result.now c.fill_land_areas.new.areas c.rows.ensures (omega (arith, count)) c.fill_land_areas.ensures.value)
