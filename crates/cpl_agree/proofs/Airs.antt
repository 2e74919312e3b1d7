-- The diffusion of a piece of the air is that of the whole at its cells.
use Rattle.std.proofs.Common.{◌≡◌, ◌∙◌, refl, sym, ap, ℕ, ◌-◌, ◌<◌, arith, inl, inr, List, Option, Some, None}
use Rattle.std.specs.Prelude.{ℤ, pos, ◌+ℤ◌, ◌-ℤ◌}
use Rattle.cpl_fixed.specs.Flows.{IsAirArea}
use Rattle.cpl_mosaic.specs.declared.mosaic.Mesh.{Mesh}
use Rattle.cpl_mosaic.specs.declared.parts.CellId.{CellId}
use Rattle.cpl_mosaic.specs.declared.parts.Side.{Side}
use Rattle.cpl_mosaic.specs.declared.parts.Side.TheVariants.{W, E, S, N}
use Rattle.cpl_mosaic.specs.Sides.{CellSide, IsCellOf}
use Rattle.cpl_mosaic.specs.Cells.{NumbersAgree, number_of}
use Rattle.cpl_mosaic.specs.Mates.{MatesAgree, mate_of}
use Rattle.cpl_layout.specs.declared.piece.Piece.{Piece}
use Rattle.cpl_layout.specs.Owners.{IsPieceOf, IsPlaceOf, cell_in}
use Rattle.cpl_field.specs.Spots.{FieldNumbers, CellAt, IsSpot, number_at, out_from, stepped}
use Rattle.cpl_field.specs.Sweeps.{IsInside}
use Rattle.cpl_field.proofs.Swept.{is_inside}
use Rattle.cpl_field.proofs.Walks.{Sees, out_sees, walk_inside}
use Rattle.cpl_atmos.specs.Sweeps.{AirNumbers, IsInner, flow_beside, flow_out, next_at, value_in}
use Rattle.cpl_atmos.proofs.Stored.{beside_some}
use Rattle.cpl_state.specs.Diffusion.{AreAmounts, IsAirMesh, at, cell_count, diffused, flow_through, flow_to}
use Rattle.cpl_diffusion.proofs.Conserved.{area_at, diffused_at}
use Rattle.cpl_agree.specs.Fields.{HasCells, HasHoles, IsFieldOf, beyond, whole_number}
use Rattle.cpl_agree.specs.Airs.{AirAgrees, AirSteps, HasAirAreas, HoldsAir}
use Rattle.cpl_agree.proofs.Inside.{far_from, out_cell, place_out}

module _ (mesh : Mesh) (air : IsAirMesh mesh) (mates : MatesAgree mesh.mosaic) (numbers : NumbersAgree mesh.mosaic.tiles) (piece : Piece) (is : IsPieceOf mesh.mosaic.tiles piece) where
  abbrev n : (i j : ℕ) → ℕ
  n i j = whole_number mesh.mosaic.tiles piece i j

  abbrev mate : (i j : ℕ) → Side → Option CellSide
  mate i j side = mate_of mesh.mosaic (cell_in piece (i, j), side)

  is_cell : (i j : ℕ) → IsPlaceOf piece (i, j) → IsCellOf mesh.mosaic.tiles (cell_in piece (i, j))
  is_cell i j place = let column = place.column in let row = place.row in let east = is.east in let north = is.north in record { column = omega arith; row = omega arith }

  -- AROUND A CELL

  -- what a field has beside a cell is what the list has there
  abbrev Around : List ℤ → FieldNumbers → (i j : ℕ) → Type 0
  Around xs f i j = (side : Side) → number_at f (out_from f i j side 1) ≡ beyond mesh.mosaic.tiles (at xs) (mate i j side)

  inner_around : (xs : List ℤ) (f : FieldNumbers) → IsFieldOf piece 1 f → HasCells mesh.mosaic.tiles (at xs) piece f → (i j : ℕ) → IsPlaceOf piece (i, j) → IsInside 1 f i j → Around xs f i j
  inner_around xs f shape cells i j place inner side =
      ap (number_at f) (out_cell 1 f i j side 1 inner (omega arith))
      ∙ cells (stepped i j side 1).0 (stepped i j side 1).1 (place_out 1 piece f shape.nx shape.ny i j place inner side 1 (omega arith))
      ∙ ap (beyond mesh.mosaic.tiles (at xs)) (sym (walk_inside mesh.mosaic piece is i j side 1 place (omega arith) (far_from 1 piece f shape.nx shape.ny i j place inner side 1 (omega arith))))

  each_around : (xs : List ℤ) (f : FieldNumbers) → IsFieldOf piece 1 f → HasCells mesh.mosaic.tiles (at xs) piece f → HasHoles mesh.mosaic (at xs) piece f → (i j : ℕ) → IsPlaceOf piece (i, j) → Around xs f i j
  each_around xs f shape cells holes i j place side =
      let sees : Sees mesh.mosaic piece (beyond mesh.mosaic.tiles (at xs)) f = record { nx = shape.nx; ny = shape.ny; cells = λ i j side place. cells i j place; holes = holes } in
      let width = shape.width in
      out_sees mesh.mosaic piece is (beyond mesh.mosaic.tiles (at xs)) f sees i j side 1 place (omega arith) (omega arith)

  -- THE FLOWS

  module _ (xs : List ℤ) (are : AreAmounts (cell_count mesh) xs) where
    flow_cases : (m : ℕ) (o : Option CellSide) → ((b : CellSide) → o ≡ Some b → IsCellOf mesh.mosaic.tiles b.0)
        → flow_beside (at xs m) (at mesh.area m) (beyond mesh.mosaic.tiles (at xs) o) (beyond mesh.mosaic.tiles (at mesh.area) o) ≡ flow_to mesh xs m o
    flow_cases m None within = refl
    flow_cases m (Some b) within =
        let other = number_of mesh.mosaic.tiles b.0 in
        let a : IsAirArea (at mesh.area other) = area_at mesh air other (numbers.below b.0 (within b refl)) in
        beside_some (at xs m) (at mesh.area m) (at xs other) (at mesh.area other) a.0

    module _ (area x : FieldNumbers) (areas : HasAirAreas mesh piece area) (holds : HoldsAir mesh xs piece x) (i j : ℕ) (place : IsPlaceOf piece (i, j)) (around : Around xs x i j) where
      flow_is : (side : Side) → flow_out area x i j side ≡ flow_through mesh xs (n i j) side
      flow_is side =
          let here = holds.cells i j place in
          let area_here = areas.cells i j place in
          let out = around side in
          let area_out = each_around mesh.area area areas.shape areas.cells areas.holes i j place side in
          (λ t. flow_beside (here t) (area_here t) (out t) (area_out t))
          ∙ flow_cases (n i j) (mate i j side) (λ b e. mates.within (cell_in piece (i, j), side) b (is_cell i j place) e)
          ∙ ap (λ (c : CellId). flow_to mesh xs (n i j) (mate_of mesh.mosaic (c, side))) (sym (numbers.cell_number (cell_in piece (i, j)) (is_cell i j place)))

      next_is : next_at area x i j ≡ at (diffused mesh xs) (n i j)
      next_is =
          let here = holds.cells i j place in
          let w = flow_is W in
          let e = flow_is E in
          let s = flow_is S in
          let no = flow_is N in
          (λ t. here t -ℤ (w t +ℤ e t +ℤ s t +ℤ no t))
          ∙ sym (diffused_at mesh air mates numbers xs are (n i j) (numbers.below (cell_in piece (i, j)) (is_cell i j place)))

    inner_next : (area x : FieldNumbers) → HasAirAreas mesh piece area → HoldsAir mesh xs piece x → (i j : ℕ) → IsPlaceOf piece (i, j) → IsInner area i j → next_at area x i j ≡ at (diffused mesh xs) (n i j)
    inner_next area x areas holds i j place inner =
        let nx = areas.shape.nx in
        let ny = areas.shape.ny in
        let own_nx = holds.shape.nx in
        let own_ny = holds.shape.ny in
        let west = inner.west in
        let east = inner.east in
        let south = inner.south in
        let north = inner.north in
        let inside : IsInside 1 x i j = record { west = west; east = omega arith; south = south; north = omega arith } in
        next_is area x areas holds i j place (inner_around xs x holds.shape holds.cells i j place inside)

    each_next : (area x : FieldNumbers) → HasAirAreas mesh piece area → HoldsAir mesh xs piece x → HasHoles mesh.mosaic (at xs) piece x → (i j : ℕ) → IsPlaceOf piece (i, j) → next_at area x i j ≡ at (diffused mesh xs) (n i j)
    each_next area x areas holds holes i j place = next_is area x areas holds i j place (each_around xs x holds.shape holds.cells holes i j place)

    -- THE STEP

    module _ (air_piece : AirNumbers) (first last : FieldNumbers) (areas : HasAirAreas mesh piece air_piece.area) (holds : HoldsAir mesh xs piece first) (steps : AirSteps mesh xs piece air_piece first last) where
      spot : (f : FieldNumbers) → IsFieldOf piece 1 f → (i j : ℕ) → IsPlaceOf piece (i, j) → IsSpot f (CellAt i j)
      spot f shape i j place = let nx = shape.nx in let ny = shape.ny in let column = place.column in let row = place.row in (omega arith, omega arith)

      taken_holds : HoldsAir mesh xs piece steps.taken
      taken_holds = record {
        shape = record { nx = steps.takes.shape.nx ∙ holds.shape.nx; ny = steps.takes.shape.ny ∙ holds.shape.ny; width = steps.takes.shape.width ∙ holds.shape.width };
        cells = λ i j place. steps.takes.cells i j (spot first holds.shape i j place) ∙ holds.cells i j place;
      }

      value_is : (i j : ℕ) → IsPlaceOf piece (i, j) → value_in air_piece.area.nx steps.whole i j ≡ at (diffused mesh xs) (n i j)
      value_is i j place =
          let on = spot air_piece.area areas.shape i j place in
          elim (is_inside 1 air_piece.area i j) [
            | inl inner ↦ steps.rim.others i j on (λ rim. rim inner) ∙ steps.interior.meant i j on inner ∙ inner_next air_piece.area first areas holds i j place inner
            | inr rim ↦ steps.rim.meant i j on rim ∙ each_next air_piece.area steps.taken areas taken_holds steps.takes.holes i j place
          ]

      last_holds : HoldsAir mesh (diffused mesh xs) piece last
      last_holds = record {
        shape = record {
          nx = steps.finish.shape.nx ∙ taken_holds.shape.nx;
          ny = steps.finish.shape.ny ∙ taken_holds.shape.ny;
          width = steps.finish.shape.width ∙ taken_holds.shape.width;
        };
        cells = λ i j place. steps.finish.cells i j (spot steps.taken taken_holds.shape i j place) ∙ value_is i j place;
      }

  pub agrees : AirAgrees mesh piece
  agrees = record {
    inner = λ xs area x are areas holds i j place inner. inner_next xs are area x areas holds i j place inner;
    each = λ xs area x are areas holds holes i j place. each_next xs are area x areas holds holes i j place;
    step = λ xs air_piece first last are areas holds steps. last_holds xs are air_piece first last areas holds steps;
  }
