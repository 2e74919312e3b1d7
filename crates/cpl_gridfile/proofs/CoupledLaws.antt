-- The laws of coupled grids.
use Rattle.std.proofs.Common.{◌≡◌, ◌∙◌, refl, ap, subst, ℕ, List, Option, Some, None, Ok}
use Rattle.std.specs.List.{flat_map, position}
use Rattle.cpl_fixed.specs.declared.words.Component.TheVariants.{Atmos, Land, Ocean}
use Rattle.cpl_mosaic.specs.Contacts.{contact_fault}
use Rattle.cpl_xgrid.specs.declared.error.XGridError.{XGridError}
use Rattle.cpl_xgrid.specs.declared.error.XGridError.TheVariants as xgrid
use Rattle.cpl_xgrid.specs.Rules.{xgrid_fault}
use Rattle.cpl_lines.specs.Lines.{line_text}
use Rattle.cpl_lines.proofs.Paths.{text_makes, made_is}
use Rattle.cpl_gridfile.specs.declared.fault.GridError.{GridError}
use Rattle.cpl_gridfile.specs.declared.next_line.GridKind.TheVariants as kind
use Rattle.cpl_gridfile.specs.declared.next_line.NextLine.TheVariants as next
use Rattle.cpl_gridfile.specs.GridFormat.{Parts, grid_format, no_parts}
use Rattle.cpl_gridfile.specs.Within.{AreWithinLimits}
use Rattle.cpl_gridfile.specs.Faults.{of_xgrid}
use Rattle.cpl_gridfile.specs.Rules.{◌then◌, area_fault, mosaic_fault, is_zero}
use Rattle.cpl_gridfile.specs.Grids.{parts_in}
use Rattle.cpl_gridfile.specs.AirGrid.{air_fault}
use Rattle.cpl_gridfile.specs.CoupledGrid.{grid_lines, parts_text, parts_of_grid, at_xgrid, exchange_fault, coupled_fault, coupled_grids}
use Rattle.cpl_gridfile.proofs.CoupledLeads.{grid_leads}
use Rattle.cpl_gridfile.proofs.CoupledOf.{grid_of_lines}
use Rattle.cpl_gridfile.proofs.Laws.{Agrees, IsRule}
use Rattle.cpl_gridfile.proofs.AirLaws.{cell_is_rule, contact_is_rule, then_is_rule}

-- what bytes tell whose lines are those of a coupled grid
record Told (bytes : List ℕ) (parts : Parts) : Type 0 where
  within : AreWithinLimits parts
  text : bytes ≡ parts_text parts

told : (bytes : List ℕ) (parts : Parts) → parts_in kind.Coupled bytes ≡ Ok parts → Told bytes parts
told bytes parts e =
    let made = made_is (grid_format kind.Coupled) next.Head no_parts bytes parts e in
    let found = grid_of_lines made.lines made.order in
    let same : found.grid ≡ parts = made.leads_to (grid_lines found.grid) next.Nothing found.grid found.text (grid_leads found.grid found.limits) in
    record {
      within = subst AreWithinLimits same found.limits;
      text = made.text ∙ ap (flat_map line_text) found.text ∙ ap parts_text same;
    }

xgrid_rule : (fault : XGridError) → IsRule (of_xgrid fault)
xgrid_rule (xgrid.BadIndex list row) = tt
xgrid_rule (xgrid.ZeroArea list row) = tt
xgrid_rule (xgrid.AirSum cell sum area) = tt
xgrid_rule (xgrid.LandSum cell sum area) = tt
xgrid_rule (xgrid.OceanSum cell sum area) = tt
xgrid_rule (xgrid.Outlet outlet) = tt
xgrid_rule (xgrid.NoOutlet cell) = tt
xgrid_rule xgrid.Memory = tt

xgrid_is_rule : (found : Option XGridError) (fault : GridError) → at_xgrid found ≡ Some fault → IsRule fault
xgrid_is_rule (Some found) fault e = let same : of_xgrid found ≡ fault = cc in subst IsRule same (xgrid_rule found)
xgrid_is_rule None fault e = absurd cc

rule_of : (p : Parts) (fault : GridError) → coupled_fault p ≡ Some fault → IsRule fault
rule_of p =
    then_is_rule (air_fault p.air) (mosaic_fault Land p.land then mosaic_fault Ocean p.ocean then exchange_fault p)
    (then_is_rule (area_fault p.air) (mosaic_fault Atmos p.air) (cell_is_rule (position is_zero p.air.area)) (contact_is_rule Atmos (contact_fault p.air.mosaic.tiles p.air.mosaic.contacts)))
    (then_is_rule (mosaic_fault Land p.land) (mosaic_fault Ocean p.ocean then exchange_fault p) (contact_is_rule Land (contact_fault p.land.mosaic.tiles p.land.mosaic.contacts))
    (then_is_rule (mosaic_fault Ocean p.ocean) (exchange_fault p) (contact_is_rule Ocean (contact_fault p.ocean.mosaic.tiles p.ocean.mosaic.contacts))
    (xgrid_is_rule (xgrid_fault p.air p.land p.ocean p.land_rows p.ocean_rows p.outlets))))

pub coupled_agrees : Agrees coupled_grids
coupled_agrees = record {
  spelled = λ grid within. (
    parts_of_grid grid,
    text_makes (grid_format kind.Coupled) next.Head no_parts (grid_lines (parts_of_grid grid)) next.Nothing (parts_of_grid grid) (grid_leads (parts_of_grid grid) within.limits) refl,
    within.whole,
  );
  within = λ bytes parts e. record { limits = (told bytes parts e).within; whole = refl };
  text = λ bytes parts e. (told bytes parts e).text;
  rules = λ grid fault e. rule_of (parts_of_grid grid) fault e;
}
