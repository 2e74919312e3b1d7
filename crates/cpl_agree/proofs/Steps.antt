-- A step of a piece of the ocean is the step of the whole at its cells and their faces.
use Rattle.std.proofs.Common.{◌≡◌, ◌∙◌, refl, sym, ap, subst, ℕ, ◌+◌, ◌*◌, ◌<◌, arith, inl, inr, Option, Some, None, List, length, get_or}
use Rattle.std.specs.Prelude.{ℤ, neg_ℤ}
use Rattle.std.specs.List.{position}
use Rattle.std.proofs.lemmas.List.Quantifiers.{position-Some}
use Rattle.cpl_fixed.specs.Amounts.{at}
use Rattle.cpl_fixed.specs.declared.rates.Rates.{Rates}
use Rattle.cpl_mosaic.specs.declared.mosaic.Mesh.{Mesh}
use Rattle.cpl_mosaic.specs.declared.parts.Side.{Side}
use Rattle.cpl_mosaic.specs.Lists.{MosaicLists}
use Rattle.cpl_faces.specs.Faces.{faces_of}
use Rattle.cpl_layout.specs.declared.piece.Piece.{Piece}
use Rattle.cpl_layout.specs.Owners.{IsPieceOf, IsPlaceOf, cell_in}
use Rattle.cpl_field.specs.Crossings.{outward as outward_here}
use Rattle.cpl_field.specs.Spots.{FieldNumbers, CellAt, IsSpot, number_at, out_from}
use Rattle.cpl_field.specs.Sweeps.{in_rows}
use Rattle.cpl_field.proofs.Swept.{is_inside}
use Rattle.cpl_ice.specs.declared.parts.Salty.{Salty}
use Rattle.cpl_ocean.specs.declared.fields.Fields.{Fields}
use Rattle.cpl_transport.specs.Cells.{mixed_cell}
use Rattle.cpl_transport.specs.Mixing.{mixed}
use Rattle.cpl_transport.specs.Salts.{nothing}
use Rattle.cpl_ocean.specs.Columns.{column_left}
use Rattle.cpl_ocean.specs.Layers.{AreLayersOf, layer_at, salty_at}
use Rattle.cpl_ocean.specs.Pieces.{OceanNumbers, fields_at}
use Rattle.cpl_ocean.specs.Sweeps.{IsInner}
use Rattle.cpl_state.specs.Diffusion.{cell_count}
use Rattle.cpl_state.specs.Transport.{Sea, cell_in as whole_cell, face_count, is_first, is_second, next_number, no_face, outward, seen, stepped, transported}
use Rattle.cpl_rounds.specs.Rounds.{outward_in}
use Rattle.cpl_sea.specs.Seas.{IsOcean}
use Rattle.cpl_sea.proofs.Mixed.{cells_same}
use Rattle.cpl_sea.proofs.Rows.{layered_at}
use Rattle.cpl_agree.specs.Fields.{whole_number}
use Rattle.cpl_agree.specs.Oceans.{HasAreas, HoldsCells, HoldsFaces, HoldsHoles, IsAny, IsWithin}
use Rattle.cpl_agree.specs.OceanSteps.{OceanAgrees, Steps}
use Rattle.cpl_agree.proofs.Around.{Around, next_is, transported_is}
use Rattle.cpl_agree.proofs.Spots.{each_around, inner_around}

-- THE WHOLE AFTER A STEP

step_cell : (mesh : Mesh) (layers : ℕ) (rates : Rates) (sea : Sea) (layer n : ℕ) → layer < layers → n < cell_count mesh
    → whole_cell mesh (stepped mesh layers rates sea) layer n ≡ mixed_cell rates.mix layers (λ l. transported mesh layers rates sea l n) layer
unfolding stepped
step_cell mesh layers rates sea layer n l h = λ t. record {
  water = layered_at layers (cell_count mesh) (λ m c. mixed rates.mix layers (λ k. (transported mesh layers rates sea k c).water) m) layer n l h t;
  heat = layered_at layers (cell_count mesh) (λ m c. mixed rates.mix layers (λ k. (transported mesh layers rates sea k c).heat) m) layer n l h t;
  salt = layered_at layers (cell_count mesh) (λ m c. mixed rates.mix layers (λ k. (transported mesh layers rates sea k c).salt) m) layer n l h t;
}

-- a side sees only numbers of faces
seen_same : (p q : ℕ → ℤ) (a b : Option ℕ) → ((f : ℕ) → a ≡ Some f → p f ≡ q f) → ((f : ℕ) → b ≡ Some f → p f ≡ q f) → seen p a b ≡ seen q a b
seen_same p q (Some f) b one other = one f refl
seen_same p q None (Some f) one other = ap neg_ℤ (other f refl)
seen_same p q None None one other = refl

outward_same : (mosaic : MosaicLists) (p q : ℕ → ℤ) (n : ℕ) (side : Side) → ((f : ℕ) → f < length (faces_of mosaic) → p f ≡ q f) → outward mosaic p n side ≡ outward mosaic q n side
unfolding outward
outward_same mosaic p q n side each =
    seen_same p q (position (is_first n side) (faces_of mosaic)) (position (is_second n side) (faces_of mosaic))
    (λ f e. each f (position-Some (is_first n side) (faces_of mosaic) f no_face e).0)
    (λ f e. each f (position-Some (is_second n side) (faces_of mosaic) f no_face e).0)

step_face : (mesh : Mesh) (layers : ℕ) (rates : Rates) (sea : Sea) (layer n : ℕ) (side : Side) → layer < layers
    → outward_in mesh (stepped mesh layers rates sea) layer n side ≡ outward mesh.mosaic (next_number mesh layers rates sea layer) n side
unfolding stepped
step_face mesh layers rates sea layer n side l =
    outward_same mesh.mosaic (λ f. at (stepped mesh layers rates sea).faces (layer * face_count mesh + f)) (next_number mesh layers rates sea layer) n side
    (λ f h. layered_at layers (face_count mesh) (next_number mesh layers rates sea) layer f l h)

module _ (mesh : Mesh) (layers : ℕ) (rates : Rates) (sea : Sea) (piece : Piece) (oceanic : IsOcean mesh) (is : IsPieceOf mesh.mosaic.tiles piece) where
  -- what lies around a cell goes with the fields
  around_same : (old new : OceanNumbers) (i j : ℕ) → new.area ≡ old.area → ((l : ℕ) → l < layers → fields_at new l ≡ fields_at old l) → Around mesh layers sea piece old i j → Around mesh layers sea piece new i j
  around_same old new i j area fields around = record {
    area_here = (λ t. number_at (area t) (CellAt i j)) ∙ around.area_here;
    area_out = λ side d some most. (λ t. number_at (area t) (out_from (area t) i j side d)) ∙ around.area_out side d some most;
    here = λ l h. (λ t. salty_at (fields l h t) (CellAt i j)) ∙ around.here l h;
    out = λ l side d h some most. (λ t. salty_at (fields l h t) (out_from (area t) i j side d)) ∙ around.out l side d h some most;
    faces = λ l side h. (λ t. outward_here (fields l h t).faces i j side) ∙ around.faces l side h;
  }

  module _ (first last : OceanNumbers) (shapes : AreLayersOf first.area first.layers) (holds : HoldsCells mesh layers sea piece first) (within : HoldsFaces mesh layers sea piece (IsWithin first.area) first) (steps : Steps mesh layers rates sea piece first last) where
    abbrev swept : OceanNumbers
    swept = steps.swept

    abbrev taken : OceanNumbers
    taken = steps.taken

    abbrev whole : OceanNumbers
    whole = steps.whole

    taken_area : taken.area ≡ first.area
    taken_area = steps.takes.area ∙ steps.interior.area

    swept_count : length swept.layers ≡ layers
    swept_count = steps.interior.count ∙ holds.count

    taken_count : length taken.layers ≡ layers
    taken_count = steps.takes.count ∙ swept_count

    whole_count : length whole.layers ≡ layers
    whole_count = steps.rim.count ∙ taken_count

    whole_area : whole.area ≡ first.area
    whole_area = steps.rim.area ∙ taken_area

    abbrev IsHere : (i j : ℕ) → Type 0
    IsHere i j = IsPlaceOf piece (i, j)

    spot : (area : FieldNumbers) → area ≡ first.area → (i j : ℕ) → IsHere i j → IsSpot area (CellAt i j)
    spot area e i j place =
        let nx : area.nx ≡ piece.nx = ap (λ (a : FieldNumbers). a.nx) e ∙ holds.areas.shape.nx in
        let ny : area.ny ≡ piece.ny = ap (λ (a : FieldNumbers). a.ny) e ∙ holds.areas.shape.ny in
        let column = place.column in
        let row = place.row in
        (omega arith, omega arith)

    taken_holds : HoldsCells mesh layers sea piece taken
    taken_holds = record {
      areas = subst (λ (a : FieldNumbers). HasAreas mesh piece a) (sym taken_area) holds.areas;
      count = taken_count;
      cells = λ l i j h place.
          let swept_is = swept_count in
          let first_is = holds.count in
          steps.takes.cells l i j (omega arith) (spot swept.area steps.interior.area i j place)
          ∙ ap (λ (f : Fields). salty_at f (CellAt i j)) (steps.interior.fields l (omega arith))
          ∙ holds.cells l i j h place;
    }

    -- around each cell before the rim, and before the end
    taken_around : (i j : ℕ) → IsHere i j → Around mesh layers sea piece taken i j
    taken_around i j place = each_around mesh layers sea piece is taken steps.takes.shapes taken_holds steps.takes.holes steps.takes.faces i j place

    whole_around : (i j : ℕ) → IsHere i j → Around mesh layers sea piece whole i j
    whole_around i j place = around_same taken whole i j steps.rim.area (λ l h. let count = taken_count in steps.rim.fields l (omega arith)) (taken_around i j place)

    -- WHAT IS LEFT

    abbrev n : (i j : ℕ) → ℕ
    n i j = whole_number mesh.mosaic.tiles piece i j

    abbrev left : OceanNumbers → (l i j : ℕ) → Salty
    left ocean l i j = in_rows nothing ocean.area.nx (layer_at ocean.layers l).left i j

    inner_left : (l i j : ℕ) → l < layers → IsHere i j → IsInner first.area i j → left taken l i j ≡ transported mesh layers rates sea l (n i j)
    inner_left l i j h place inner =
        let first_is = holds.count in
        let swept_is = swept_count in
        (λ t. in_rows nothing (taken_area t).nx (steps.takes.left l (omega arith) t) i j)
        ∙ (steps.interior.left l (omega arith)).meant i j (spot first.area refl i j place) inner
        ∙ transported_is mesh layers sea piece rates oceanic is first holds.count i j place (inner_around mesh layers sea piece is first shapes holds within i j place inner) l h

    whole_left : (l i j : ℕ) → l < layers → IsHere i j → left whole l i j ≡ transported mesh layers rates sea l (n i j)
    whole_left l i j h place =
        let count = taken_count in
        let computed = steps.rim.left l (omega arith) in
        let on = spot taken.area taken_area i j place in
        let same : left whole l i j ≡ in_rows nothing taken.area.nx (layer_at whole.layers l).left i j = ap (λ (a : FieldNumbers). in_rows nothing a.nx (layer_at whole.layers l).left i j) steps.rim.area in
        elim (is_inside 2 taken.area i j) [
          | inl inner ↦ same ∙ computed.others i j on (λ rim. rim inner) ∙ inner_left l i j h place (subst (λ (a : FieldNumbers). IsInner a i j) taken_area inner)
          | inr rim ↦ same ∙ computed.meant i j on rim ∙ transported_is mesh layers sea piece rates oceanic is taken taken_count i j place (taken_around i j place) l h
        ]

    below : (i j : ℕ) → IsHere i j → n i j < cell_count mesh
    below i j place =
        let column = place.column in
        let row = place.row in
        let east = is.east in
        let north = is.north in
        oceanic.numbers.below (cell_in piece (i, j)) (record { column = omega arith; row = omega arith })

    last_cells : (l i j : ℕ) → l < layers → IsHere i j → salty_at (fields_at last l) (CellAt i j) ≡ whole_cell mesh (stepped mesh layers rates sea) l (n i j)
    last_cells l i j h place =
        let count = whole_count in
        steps.finish.cells l i j (omega arith) (spot whole.area whole_area i j place)
        ∙ ap (λ k. mixed_cell rates.mix k (column_left whole.layers (j * whole.area.nx + i)) l) whole_count
        ∙ cells_same rates.mix layers (column_left whole.layers (j * whole.area.nx + i)) (λ m. transported mesh layers rates sea m (n i j)) (λ m k. whole_left m i j k place) l h
        ∙ sym (step_cell mesh layers rates sea l (n i j) h (below i j place))

    last_faces : HoldsFaces mesh layers (stepped mesh layers rates sea) piece IsAny last
    last_faces l i j side h place any =
        let count = whole_count in
        steps.finish.faces l i j side (omega arith) (spot whole.area whole_area i j place)
        ∙ next_is mesh layers sea piece rates oceanic is whole whole_count i j place (whole_around i j place) side l h
        ∙ sym (step_face mesh layers rates sea l (n i j) side h)

    last_holds : HoldsCells mesh layers (stepped mesh layers rates sea) piece last
    last_holds = record {
      areas = subst (λ (a : FieldNumbers). HasAreas mesh piece a) (sym (steps.finish.area ∙ whole_area)) holds.areas;
      count = steps.finish.count ∙ whole_count;
      cells = last_cells;
    }

  pub agrees : OceanAgrees mesh layers rates sea piece
  agrees = record {
    inner = λ ocean shapes holds faces l i j h place inner.
        transported_is mesh layers sea piece rates oceanic is ocean holds.count i j place (inner_around mesh layers sea piece is ocean shapes holds faces i j place inner) l h;
    each = λ ocean shapes holds holes faces l i j h place.
        transported_is mesh layers sea piece rates oceanic is ocean holds.count i j place (each_around mesh layers sea piece is ocean shapes holds holes faces i j place) l h;
    faces = λ ocean shapes holds holes faces l i j side h place.
        next_is mesh layers sea piece rates oceanic is ocean holds.count i j place (each_around mesh layers sea piece is ocean shapes holds holes faces i j place) side l h;
    step = λ first last shapes holds within steps. (last_holds first last shapes holds within steps, last_faces first last shapes holds within steps);
  }
