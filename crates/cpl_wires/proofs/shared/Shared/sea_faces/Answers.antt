use Rattle.std.proofs.Common.{◌∙◌, ap, subst, ◌-◌}
use Rattle.cpl_fixed.specs.declared.words.Component.TheVariants.{Ocean}
use Rattle.cpl_mosaic.specs.Mates.{MatesAgree}
use Rattle.cpl_xgrid.specs.declared.grid.Grid.{Grid}
use Rattle.cpl_wires.specs.Settings.{Setting, IsSetting, base_of}
use Rattle.cpl_wires.specs.Tables.{face_strip_with, sea_faces}
use Rattle.cpl_wires.proofs.Haloed.{faces_are}
use Rattle.cpl_wires.proofs.shared.Shared.sea_faces.Goals as goal

pub returns : goal.returns
returns c =
    let setting = c.args.self.now in
    let mates : MatesAgree setting.grid.ocean.mosaic = subst (λ (grid : Grid). MatesAgree grid.ocean.mosaic) (c.grid.ensures.grid ∙ ap (λ (s : Setting). s.grid) c.self.view_is) c.cells-cells.ensures.mates in
    c.strip.ensures
    ∙ (λ t. face_strip_with (c.self.invariant.halos.seams t) (c.place-giver.ensures.place t) (c.place-taker.ensures.place t))
    ∙ ap (λ (s : Setting). face_strip_with (sea_faces s) (c.args.from - base_of setting Ocean) (c.args.to - base_of setting Ocean)) c.self.view_is
    ∙ faces_are setting Ocean c.args.from c.args.to (subst IsSetting c.self.view_is c.self.invariant.lawful) mates c.requires.from c.requires.to
