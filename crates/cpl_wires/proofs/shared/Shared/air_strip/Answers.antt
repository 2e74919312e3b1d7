use Rattle.std.proofs.Common.{◌∙◌, ap, subst, ◌-◌}
use Rattle.cpl_fixed.specs.declared.words.Component.TheVariants.{Atmos}
use Rattle.cpl_mosaic.specs.Mates.{MatesAgree}
use Rattle.cpl_xgrid.specs.declared.grid.Grid.{Grid}
use Rattle.cpl_wires.specs.Settings.{Setting, IsSetting, base_of}
use Rattle.cpl_wires.specs.Tables.{strip_with, halo_strips}
use Rattle.cpl_wires.proofs.Haloed.{halo_is}
use Rattle.cpl_wires.proofs.shared.Shared.air_strip.Goals as goal

pub returns : goal.returns
returns c =
    let setting = c.args.self.now in
    let mates : MatesAgree setting.grid.air.mosaic = subst (λ (grid : Grid). MatesAgree grid.air.mosaic) (c.grid.ensures.grid ∙ ap (λ (s : Setting). s.grid) c.self.view_is) c.cells-cells.ensures.mates in
    c.strip.ensures
    ∙ (λ t. strip_with (c.self.invariant.halos.air t) (c.place-giver.ensures.place t) (c.place-taker.ensures.place t))
    ∙ ap (λ (s : Setting). strip_with (halo_strips s Atmos 1) (c.args.from - base_of setting Atmos) (c.args.to - base_of setting Atmos)) c.self.view_is
    ∙ halo_is setting Atmos c.args.from c.args.to (subst IsSetting c.self.view_is c.self.invariant.lawful) mates c.requires.from c.requires.to 1
