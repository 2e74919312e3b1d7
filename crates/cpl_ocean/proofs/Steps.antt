-- The parts of a step of a piece.
use Rattle.std.proofs.Common.{◌≡◌, ◌∙◌, refl, sym, ap, subst, ℕ, ◌+◌, ◌-◌, ◌*◌, ◌<◌, ◌≤◌, arith, inl, inr, List, length}
use Rattle.std.specs.Prelude.{ℤ, pos, nat_lt, nat_le, if◌then◌else◌}
use Rattle.std.proofs.lemmas.Bool.{leb-false, ltb-false}
use Rattle.cpl_mosaic.specs.declared.parts.Side.{Side}
use Rattle.cpl_mosaic.specs.declared.parts.Side.TheVariants.{W, E, S, N}
use Rattle.cpl_field.specs.Crossings.{outward}
use Rattle.cpl_field.specs.Spots.{FieldNumbers, Spot, CellAt, HoleAt, IsSpot, number_at, out_from}
use Rattle.cpl_ice.specs.declared.parts.Salty.{Salty}
use Rattle.cpl_transport.specs.Heights.{next_face}
use Rattle.cpl_transport.specs.Moves.{through}
use Rattle.cpl_transport.specs.Salts.{joined, nothing, without}
use Rattle.cpl_ocean.specs.declared.basin.Basin.{Basin}
use Rattle.cpl_ocean.specs.declared.fields.Fields.{Fields}
use Rattle.cpl_ocean.specs.Columns.{IsCell, IsClose, height_at}
use Rattle.cpl_ocean.specs.Flows.{AreSalty, behind, beyond, flow_out, is_open, next_number, transported}
use Rattle.cpl_ocean.specs.Layers.{AreLayersOf, EachLayer, IsLayerOf, LayerNumbers, layer_at, salty_at}
use Rattle.cpl_ocean.specs.Pieces.{OceanNumbers, Transports}
use Rattle.cpl_ocean.specs.Sweeps.{CanSweep, Computes, IsBasin, IsInner, SweepsLayer}
use Rattle.cpl_ocean.specs.Zones.{IsIn, IsRead}
use Rattle.cpl_ocean.specs.declared.zone.Zone.{Zone}
use Rattle.cpl_ocean.specs.declared.zone.Zone.TheVariants.{Inner, Rim}
use Rattle.cpl_ocean.proofs.Around.{choose, out_on}

-- what moves through a side depends on the heights of the two columns beside it alone
same_flow : (area : FieldNumbers) (height other : Spot → ℤ) (slope : ℕ) (fields : Fields) (i j : ℕ) (side : Side) → height (CellAt i j) ≡ other (CellAt i j) → height (out_from area i j side 1) ≡ other (out_from area i j side 1) → flow_out area height slope fields i j side ≡ flow_out area other slope fields i j side
same_flow area height other slope fields i j side here there =
    λ t.
    if is_open area i j side
    then
    through (if is_open area i j side then next_face slope (outward fields.faces i j side) (here t) (there t) else pos 0)
    (salty_at fields (behind area i j side))
    (salty_at fields (CellAt i j))
    (salty_at fields (out_from area i j side 1))
    (salty_at fields (beyond area i j side))
    else nothing

same_transported : (area : FieldNumbers) (height other : Spot → ℤ) (slope : ℕ) (fields : Fields) (i j : ℕ) → height (CellAt i j) ≡ other (CellAt i j) → ((side : Side) → height (out_from area i j side 1) ≡ other (out_from area i j side 1)) → transported area height slope fields i j ≡ transported area other slope fields i j
same_transported area height other slope fields i j here there =
    let west = same_flow area height other slope fields i j W here (there W) in
    let east = same_flow area height other slope fields i j E here (there E) in
    let south = same_flow area height other slope fields i j S here (there S) in
    let north = same_flow area height other slope fields i j N here (there N) in
    λ t. without (salty_at fields (CellAt i j)) (joined (joined (west t) (east t)) (joined (south t) (north t)))

pub same_number : (area : FieldNumbers) (height other : Spot → ℤ) (slope : ℕ) (fields : Fields) (i j : ℕ) (side : Side) → height (CellAt i j) ≡ other (CellAt i j) → height (out_from area i j side 1) ≡ other (out_from area i j side 1) → next_number area height slope fields.faces i j side ≡ next_number area other slope fields.faces i j side
same_number area height other slope fields i j side here there =
    λ t. if is_open area i j side then next_face slope (outward fields.faces i j side) (here t) (there t) else pos 0

computes_as : (area : FieldNumbers) (next other : ℕ → ℕ → Salty) (P : ℕ → ℕ → Type 0) (old new : List Salty) → Computes area next P old new → ((i j : ℕ) → IsSpot area (CellAt i j) → P i j → next i j ≡ other i j) → Computes area other P old new
computes_as area next other P old new is same = record {
  count = is.count;
  meant = λ i j on p. is.meant i j on p ∙ same i j on p;
  others = is.others;
}

-- what lies across a side of a cell is a cell, or a hole next to the piece
pub close_out : (area : FieldNumbers) (i j : ℕ) (side : Side) → IsSpot area (CellAt i j) → IsClose (out_from area i j side 1)
close_out area i j W on =
    choose IsClose (nat_le 1 i) (CellAt (i - 1) j) (HoleAt W j (1 - i)) (λ e. inl (i - 1, j, refl)) (λ e. let l = leb-false 1 i e in inr (W, j, ap (HoleAt W j) (omega arith)))
close_out area i j E on =
    choose IsClose (nat_lt (i + 1) area.nx) (CellAt (i + 1) j) (HoleAt E j (i + 1 + 1 - area.nx)) (λ e. inl (i + 1, j, refl)) (λ e. let l = ltb-false (i + 1) area.nx e in inr (E, j, ap (HoleAt E j) (omega arith)))
close_out area i j S on =
    choose IsClose (nat_le 1 j) (CellAt i (j - 1)) (HoleAt S i (1 - j)) (λ e. inl (i, j - 1, refl)) (λ e. let l = leb-false 1 j e in inr (S, i, ap (HoleAt S i) (omega arith)))
close_out area i j N on =
    choose IsClose (nat_lt (j + 1) area.ny) (CellAt i (j + 1)) (HoleAt N i (j + 1 + 1 - area.ny)) (λ e. inl (i, j + 1, refl)) (λ e. let l = ltb-false (j + 1) area.ny e in inr (N, i, ap (HoleAt N i) (omega arith)))

-- across a side of an inner cell it is a cell
inner_out : (area : FieldNumbers) (i j : ℕ) (side : Side) → IsInner area i j → IsCell (out_from area i j side 1)
inner_out area i j W is =
    choose IsCell (nat_le 1 i) (CellAt (i - 1) j) (HoleAt W j (1 - i)) (λ e. (i - 1, j, refl)) (λ e. let l = leb-false 1 i e in let west = is.west in absurd (omega arith))
inner_out area i j E is =
    choose IsCell (nat_lt (i + 1) area.nx) (CellAt (i + 1) j) (HoleAt E j (i + 1 + 1 - area.nx)) (λ e. (i + 1, j, refl)) (λ e. let l = ltb-false (i + 1) area.nx e in let east = is.east in absurd (omega arith))
inner_out area i j S is =
    choose IsCell (nat_le 1 j) (CellAt i (j - 1)) (HoleAt S i (1 - j)) (λ e. (i, j - 1, refl)) (λ e. let l = leb-false 1 j e in let south = is.south in absurd (omega arith))
inner_out area i j N is =
    choose IsCell (nat_lt (j + 1) area.ny) (CellAt i (j + 1)) (HoleAt N i (j + 1 + 1 - area.ny)) (λ e. (i, j + 1, refl)) (λ e. let l = ltb-false (j + 1) area.ny e in let north = is.north in absurd (omega arith))

-- the heights of a cell of a zone and of what lies across its sides are read
cell_read : (zone : Zone) (i j : ℕ) → IsRead zone (CellAt i j)
cell_read Inner i j = (i, j, refl)
cell_read Rim i j = inl (i, j, refl)

out_read : (zone : Zone) (area : FieldNumbers) (i j : ℕ) (side : Side) → IsSpot area (CellAt i j) → IsIn zone area i j → IsRead zone (out_from area i j side 1)
out_read Inner area i j side on is = inner_out area i j side is
out_read Rim area i j side on is = close_out area i j side on

-- the layers are swept with heights that are those of the columns
pub transports : (zone : Zone) (old : OceanNumbers) (basin : Basin) (layers : List LayerNumbers) (slope : ℕ) → old.area.width ≡ 2 → basin.area ≡ old.area → EachLayer (SweepsLayer basin slope (IsIn zone basin.area)) old.layers layers
    → ((spot : Spot) → IsSpot old.area spot → IsRead zone spot → number_at basin.heights spot ≡ height_at old.area old.layers spot)
    → Transports slope (IsIn zone old.area) old (record { area = basin.area; layers = layers })
transports zone old basin layers slope width same swept heights = record {
  area = same;
  count = swept.count;
  fields = λ l less. let to = swept.each l less in to.fields;
  left = λ l less.
      let to = swept.each l less in
      let fields = (layer_at old.layers l).fields in
      let left = subst (λ (area : FieldNumbers). Computes area (transported area (number_at basin.heights) slope fields) (IsIn zone area) (layer_at old.layers l).left (layer_at layers l).left) same to.left in
      computes_as old.area (transported old.area (number_at basin.heights) slope fields) (transported old.area (height_at old.area old.layers) slope fields) (IsIn zone old.area) (layer_at old.layers l).left (layer_at layers l).left left
      (λ i j on is. same_transported old.area (number_at basin.heights) (height_at old.area old.layers) slope fields i j (heights (CellAt i j) on (cell_read zone i j))
      (λ side. heights (out_from old.area i j side 1) (out_on old.area i j side 1 on (omega arith) (omega arith)) (out_read zone old.area i j side on is)));
}

-- what is asked of the layers, by other names of the areas and of the list
pub can_sweep : (area : FieldNumbers) (basin : Basin) (slope : ℕ) (items layers : List LayerNumbers) → basin.area ≡ area → layers ≡ items → slope ≤ 40 → IsBasin basin → AreLayersOf area items → ((l : ℕ) → l < length items → AreSalty area (layer_at items l).fields)
    → (l : ℕ) → l < length layers → CanSweep basin slope (layer_at layers l)
can_sweep area basin slope items layers same is low of shapes amounts =
    subst (λ (list : List LayerNumbers). (l : ℕ) → l < length list → CanSweep basin slope (layer_at list l)) (sym is)
    (λ l less.
    let layer = layer_at items l in
    let shape = subst (λ (a : FieldNumbers). IsLayerOf a layer) (sym same) (shapes l less) in record {
      from = record { low = low; columns = of; shapes = shape.fields; salty = subst (λ (a : FieldNumbers). AreSalty a layer.fields) (sym same) (amounts l less) };
      count = shape.count ∙ (λ t. of.columns t * of.rows t);
    })
