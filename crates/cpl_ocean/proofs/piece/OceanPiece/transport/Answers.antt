use Rattle.std.proofs.Common.{◌≡◌, sym, subst, List, arith}
use Rattle.std.specs.Vec.{with_items}
use Rattle.std.proofs.lemmas.List.{with_items_is}
use Rattle.cpl_field.specs.Spots.{IsSpot, Spot, number_at}
use Rattle.cpl_ocean.specs.Columns.{HasColumn, height_at}
use Rattle.cpl_ocean.specs.Layers.{EachLayer, LayerNumbers}
use Rattle.cpl_ocean.specs.Pieces.{HasAmounts, OceanNumbers, Transports}
use Rattle.cpl_ocean.specs.Sweeps.{SweepsLayer}
use Rattle.cpl_ocean.specs.Zones.{IsIn, IsRead}
use Rattle.cpl_ocean.proofs.Steps.{can_sweep, transports}
use Rattle.cpl_ocean.proofs.piece.OceanPiece.transport.Goals as goal

pub raise-requires-clause-columns : goal.raise-requires-clause-columns
raise-requires-clause-columns c =
    let columns = subst (λ (ocean : OceanNumbers). (spot : Spot) → IsSpot ocean.area spot → IsRead c.args.zone spot → HasColumn ocean.layers spot) (sym c.self.view_is) c.requires.columns in
    subst (λ (layers : List LayerNumbers). (spot : Spot) → IsSpot c.self.inside.basin.area spot → IsRead c.args.zone spot → HasColumn layers spot) (sym c.deref.ensures.value) columns

pub transport-requires : goal.transport-requires
transport-requires c =
    let amounts = subst HasAmounts (sym c.self.view_is) c.requires.amounts in
    can_sweep c.self.inside.basin.area c.raise.new.basin c.args.slope c.self.inside.layers.items c.deref_mut.result.now c.raise.ensures.area c.deref_mut.ensures.value c.requires.slope c.raise.ensures.basin c.self.invariant.shapes amounts

pub returns : goal.returns
returns c =
    let basin = c.self.inside.basin in
    let items = c.self.inside.layers.items in
    let raised = c.raise.new.basin in
    let slope = c.args.slope in
    let zone = c.args.zone in
    let swept_layers = c.transport.new.layers in
    let after : OceanNumbers = record { area = raised.area; layers = swept_layers } in
    let is = c.self.invariant.columns in
    let heights = subst (λ (layers : List LayerNumbers). (spot : Spot) → IsSpot basin.area spot → IsRead zone spot → number_at raised.heights spot ≡ height_at basin.area layers spot) c.deref.ensures.value c.raise.ensures.heights in
    let swept = subst (λ (layers : List LayerNumbers). EachLayer (SweepsLayer raised slope (IsIn zone raised.area)) layers swept_layers) c.deref_mut.ensures.value c.transport.ensures in
    let kept : (with_items c.self.inside.layers swept_layers).items ≡ swept_layers = with_items_is c.self.inside.layers swept_layers (omega (arith, c.transport.ensures.count, c.deref_mut.ensures.len)) in
    let stepped =
    subst (λ (ocean : OceanNumbers). Transports slope (IsIn zone ocean.area) ocean after) c.self.view_is
    (transports zone (record { area = basin.area; layers = items }) raised swept_layers slope is.width c.raise.ensures.area swept heights) in
    subst (λ (layers : List LayerNumbers). Transports slope (IsIn zone c.args.self.now.area) c.args.self.now (record { area = raised.area; layers = layers })) (sym kept) stepped
