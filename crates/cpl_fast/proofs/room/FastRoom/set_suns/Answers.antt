use Rattle.std.proofs.Common.{◌∙◌, refl, sym, ap, subst, arith, length}
use Rattle.std.proofs.lemmas.List.{with_items_is}
use Rattle.cpl_xgrid.specs.declared.parts.Surface.TheVariants.{Land, Ocean}
use Rattle.cpl_fast.specs.Rooms.{HaveSuns, before_step}
use Rattle.cpl_fast.specs.Sums.{AreClear}
use Rattle.cpl_fast.proofs.Keeping.{divided}
use Rattle.cpl_fast.proofs.room.FastRoom.set_suns.Goals as goal

pub returns : goal.returns
returns c =
    let s = before_step c.args.grid.now c.args.rates.now c.args.month c.args.mid.now in
    let room = c.args.self.now in
    let is = c.requires.room.room in
    let land_is = with_items_is room.land_flows c.surface_suns.new.flows (omega (arith, c.surface_suns.auto.flows, c.deref_mut.ensures.len)) in
    let ocean_is = with_items_is room.ocean_flows c.surface_suns-2.new.flows (omega (arith, c.surface_suns-2.auto.flows, c.deref_mut-2.ensures.len)) in
    divided s room _ is c.requires.areas refl
    (ap length land_is ∙ c.surface_suns.auto.flows ∙ ap length c.deref_mut.ensures.value ∙ is.land_flows)
    (ap length ocean_is ∙ c.surface_suns-2.auto.flows ∙ ap length c.deref_mut-2.ensures.value ∙ is.ocean_flows)
    (subst (AreClear room.land) (sym land_is) c.surface_suns.ensures.clear) (subst (AreClear room.ocean) (sym ocean_is) c.surface_suns-2.ensures.clear)
    (subst (HaveSuns s Land) (sym land_is) c.surface_suns.ensures.suns) (subst (HaveSuns s Ocean) (sym ocean_is) c.surface_suns-2.ensures.suns)
