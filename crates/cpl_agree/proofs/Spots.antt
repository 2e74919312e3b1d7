-- Around the cells of a piece that holds the whole ocean's numbers lies what lies around them in the whole.
use Rattle.std.proofs.Common.{◌≡◌, ◌∙◌, refl, sym, ap, ℕ, ◌-◌, ◌<◌, ◌≤◌, arith, length}
use Rattle.std.specs.Prelude.{ℤ}
use Rattle.cpl_fixed.specs.Amounts.{at}
use Rattle.cpl_mosaic.specs.declared.mosaic.Mesh.{Mesh}
use Rattle.cpl_mosaic.specs.declared.parts.Side.{Side}
use Rattle.cpl_mosaic.specs.Mates.{walk_of}
use Rattle.cpl_layout.specs.declared.piece.Piece.{Piece}
use Rattle.cpl_layout.specs.Owners.{IsPieceOf, IsPlaceOf, cell_in}
use Rattle.cpl_field.specs.Spots.{FieldNumbers, Spot, CellAt, HoleAt, IsSameShape, number_at, out_from, stepped}
use Rattle.cpl_field.proofs.Walks.{Sees, out_sees, walk_inside}
use Rattle.cpl_ice.specs.declared.parts.Salty.{Salty}
use Rattle.cpl_ocean.specs.Layers.{AreLayersOf, AreOf, salty_at}
use Rattle.cpl_ocean.specs.Pieces.{OceanNumbers, fields_at}
use Rattle.cpl_ocean.specs.Sweeps.{IsInner}
use Rattle.cpl_ocean.proofs.Around.{out_same, spot_same}
use Rattle.cpl_state.specs.Transport.{Sea}
use Rattle.cpl_agree.specs.Fields.{beyond}
use Rattle.cpl_agree.specs.Oceans.{HoldsCells, HoldsFaces, HoldsHoles, IsAny, IsWithin, layer_beyond}
use Rattle.cpl_agree.proofs.Around.{Around}
use Rattle.cpl_agree.proofs.Inside.{both_shapes, far_from, other_way, out_cell, place_out}

module _ (mesh : Mesh) (layers : ℕ) (sea : Sea) (piece : Piece) (is : IsPieceOf mesh.mosaic.tiles piece) (ocean : OceanNumbers) (shapes : AreLayersOf ocean.area ocean.layers) (holds : HoldsCells mesh layers sea piece ocean) where
  area_sees : Sees mesh.mosaic piece (beyond mesh.mosaic.tiles (at mesh.area)) ocean.area
  area_sees = record { nx = holds.areas.shape.nx; ny = holds.areas.shape.ny; cells = λ i j side place. holds.areas.cells i j place; holes = holds.areas.holes }

  area_out : (i j : ℕ) → IsPlaceOf piece (i, j) → (side : Side) (d : ℕ) → 1 ≤ d → d ≤ 2 → number_at ocean.area (out_from ocean.area i j side d) ≡ beyond mesh.mosaic.tiles (at mesh.area) (walk_of mesh.mosaic (d - 1) (cell_in piece (i, j), side))
  area_out i j place side d some most =
      let width = holds.areas.shape.width in
      out_sees mesh.mosaic piece is (beyond mesh.mosaic.tiles (at mesh.area)) ocean.area area_sees i j side d place some (omega arith)

  layer_shape : (l : ℕ) → l < layers → AreOf ocean.area (fields_at ocean l)
  layer_shape l h = let count = holds.count in (shapes l (omega arith)).fields

  -- BY ITS OWN CELLS

  pub inner_around : HoldsFaces mesh layers sea piece (IsWithin ocean.area) ocean → (i j : ℕ) → IsPlaceOf piece (i, j) → IsInner ocean.area i j → Around mesh layers sea piece ocean i j
  inner_around faces i j place inner =
      let nx = holds.areas.shape.nx in
      let ny = holds.areas.shape.ny in
      record {
        area_here = holds.areas.cells i j place;
        area_out = area_out i j place;
        here = λ l h. holds.cells l i j h place;
        out = λ l side d h some most.
            ap (salty_at (fields_at ocean l)) (out_cell 2 ocean.area i j side d inner most)
            ∙ holds.cells l (stepped i j side d).0 (stepped i j side d).1 h (place_out 2 piece ocean.area nx ny i j place inner side d most)
            ∙ ap (layer_beyond mesh sea l) (sym (walk_inside mesh.mosaic piece is i j side d place some (far_from 2 piece ocean.area nx ny i j place inner side d most)));
        faces = λ l side h. faces l i j side h place ((stepped i j side 1).0, (stepped i j side 1).1, out_cell 2 ocean.area i j side 1 inner (omega arith));
      }

  -- WITH ITS HOLES

  module _ (holes : HoldsHoles mesh layers sea piece ocean) where
    module _ (l : ℕ) (h : l < layers) (part : Salty → ℤ) (f : FieldNumbers) (shape : IsSameShape ocean.area f) (same : (spot : Spot) → number_at f spot ≡ part (salty_at (fields_at ocean l) spot)) where
      part_sees : Sees mesh.mosaic piece (λ o. part (layer_beyond mesh sea l o)) f
      part_sees = record {
        nx = shape.nx ∙ holds.areas.shape.nx;
        ny = shape.ny ∙ holds.areas.shape.ny;
        cells = λ i j side place. same (CellAt i j) ∙ ap part (holds.cells l i j h place);
        holes = λ side k d on. same (HoleAt side k d) ∙ ap part (holes l side k d h (spot_same f ocean.area (other_way ocean.area f shape) (HoleAt side k d) on));
      }

      part_out : (i j : ℕ) → IsPlaceOf piece (i, j) → (side : Side) (d : ℕ) → 1 ≤ d → d ≤ 2
          → part (salty_at (fields_at ocean l) (out_from ocean.area i j side d)) ≡ part (layer_beyond mesh sea l (walk_of mesh.mosaic (d - 1) (cell_in piece (i, j), side)))
      part_out i j place side d some most =
          let width = holds.areas.shape.width in
          let own = shape.width in
          sym (same (out_from ocean.area i j side d))
          ∙ ap (number_at f) (sym (out_same ocean.area f shape i j side d))
          ∙ out_sees mesh.mosaic piece is (λ o. part (layer_beyond mesh sea l o)) f part_sees i j side d place some (omega arith)

    pub each_around : HoldsFaces mesh layers sea piece IsAny ocean → (i j : ℕ) → IsPlaceOf piece (i, j) → Around mesh layers sea piece ocean i j
    each_around faces i j place = record {
      area_here = holds.areas.cells i j place;
      area_out = area_out i j place;
      here = λ l h. holds.cells l i j h place;
      out = λ l side d h some most.
          let shape = layer_shape l h in
          let fields = fields_at ocean l in
          let water = part_out l h (λ (it : Salty). it.water) fields.water shape.shape (λ spot. refl) i j place side d some most in
          let heat = part_out l h (λ (it : Salty). it.heat) fields.heat (both_shapes ocean.area fields.water fields.heat shape.shape shape.alike.heat) (λ spot. refl) i j place side d some most in
          let salt = part_out l h (λ (it : Salty). it.salt) fields.salt (both_shapes ocean.area fields.water fields.salt shape.shape shape.alike.salt) (λ spot. refl) i j place side d some most in
          λ t. record { water = water t; heat = heat t; salt = salt t };
      faces = λ l side h. faces l i j side h place tt;
    }
