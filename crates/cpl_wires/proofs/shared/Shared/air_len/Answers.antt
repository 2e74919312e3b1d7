use Rattle.std.proofs.Common.{◌∙◌, ap, subst, ◌-◌, ◌*◌, ℕ, length}
use Rattle.cpl_fixed.specs.declared.words.Component.TheVariants.{Atmos}
use Rattle.cpl_mosaic.specs.Mates.{MatesAgree}
use Rattle.cpl_xgrid.specs.declared.grid.Grid.{Grid}
use Rattle.cpl_wires.specs.Settings.{Setting, IsSetting, base_of}
use Rattle.cpl_wires.specs.Pairs.{air_halo}
use Rattle.cpl_wires.specs.Tables.{strip_with, strip_size, halo_strips}
use Rattle.cpl_wires.proofs.Haloed.{halo_is, strip_size_is, double}
use Rattle.cpl_wires.proofs.shared.Shared.air_len.Goals as goal

pub returns : goal.returns
returns c =
    let setting = c.args.self.now in
    let mates : MatesAgree setting.grid.air.mosaic = subst (λ (grid : Grid). MatesAgree grid.air.mosaic) (c.grid.ensures.grid ∙ ap (λ (s : Setting). s.grid) c.self.view_is) c.cells-cells.ensures.mates in
    c.len.ensures
    ∙ (λ t. strip_size (strip_with (c.self.invariant.halos.air t) (c.place-giver.ensures.place t) (c.place-taker.ensures.place t)) * c.self.invariant.halos.air_fields t)
    ∙ ap (λ (s : Setting). strip_size (strip_with (halo_strips s Atmos 1) (c.args.from - base_of setting Atmos) (c.args.to - base_of setting Atmos)) * 2) c.self.view_is
    ∙ ap (λ (n : ℕ). n * 2) (ap strip_size (halo_is setting Atmos c.args.from c.args.to (subst IsSetting c.self.view_is c.self.invariant.lawful) mates c.requires.from c.requires.to 1) ∙ strip_size_is (air_halo setting c.args.from c.args.to))
    ∙ double (length (air_halo setting c.args.from c.args.to).places)
