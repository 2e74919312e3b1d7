use Rattle.std.proofs.Common.{◌∙◌}
use Rattle.cpl_state.specs.Elements.{element_count, part_area}
use Rattle.cpl_laws.proofs.Sums.{total_range}
use Rattle.cpl_laws.proofs.Areas.{air_elements, part_areas}
use Rattle.cpl_laws.proofs.Shares.{share_total}
use Rattle.cpl_laws.proofs.laws.elements_law.Goals as goal

pub returns : goal.returns
returns c = λ grid whole is air lawful. record {
  air = air_elements grid is whole lawful;
  surface = λ list n l. total_range (part_area grid whole list n) (element_count grid list) ∙ part_areas grid is whole lawful list n l;
  shares = λ n amount l least. share_total grid is whole lawful air amount least n l;
}
