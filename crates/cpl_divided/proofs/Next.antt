-- A step of a piece with filled holes is the step of the whole list at its cells.
use Rattle.std.proofs.Common.{◌≡◌, ◌∙◌, refl, sym, ap, subst, ℕ, ◌-◌, ◌<◌, ◌^◌, arith, List, Option, Some, None}
use Rattle.std.specs.Prelude.{ℤ, pos, ◌+ℤ◌, ◌-ℤ◌, ◌≤ℤ◌}
use Rattle.std.proofs.lemmas.Int.{ints}
use Rattle.cpl_mosaic.specs.declared.parts.Side.{Side}
use Rattle.cpl_mosaic.specs.declared.parts.Side.TheVariants.{W, E, S, N}
use Rattle.cpl_mosaic.specs.declared.parts.CellId.{CellId}
use Rattle.cpl_mosaic.specs.declared.mosaic.Mesh.{Mesh}
use Rattle.cpl_mosaic.specs.Sides.{CellSide, IsCellOf}
use Rattle.cpl_mosaic.specs.Mates.{MatesAgree, mate_of}
use Rattle.cpl_mosaic.specs.Cells.{NumbersAgree, number_of}
use Rattle.cpl_layout.specs.declared.piece.Piece.{Piece}
use Rattle.cpl_layout.specs.Owners.{IsPlaceOf, IsPieceOf, cell_in}
use Rattle.cpl_fixed.specs.Flows.{IsAirAmount, IsAirArea}
use Rattle.cpl_strip.specs.Holes.{edge_of, side_at}
use Rattle.cpl_field.specs.Spots.{FieldNumbers, Spot, CellAt, HoleAt, IsSpot, number_at}
use Rattle.cpl_atmos.specs.Sweeps.{flow_beside, flow_out, next_at, AreAirAreas, AreAmounts}
use Rattle.cpl_atmos.proofs.Stored.{beside_some}
use Rattle.cpl_state.specs.Diffusion.{IsAirMesh, AreAmounts as AreTotalled, at, cell_count, diffused, flow_to, flow_through}
use Rattle.cpl_diffusion.proofs.Conserved.{area_at, amount_at, diffused_at}
use Rattle.cpl_divided.specs.Whole.{IsFieldOf, HasCells, HasHoles, beyond, hole_beside}
use Rattle.cpl_divided.proofs.Around.{out_is}

module _ (mesh : Mesh) (air : IsAirMesh mesh) (mates : MatesAgree mesh.mosaic) (numbers : NumbersAgree mesh.mosaic.tiles) (piece : Piece) (is : IsPieceOf mesh.mosaic.tiles piece) where
  pub place_cell : (i j : ℕ) → IsPlaceOf piece (i, j) → IsCellOf mesh.mosaic.tiles (cell_in piece (i, j))
  place_cell i j place = let column = place.column in let row = place.row in let east = is.east in let north = is.north in record { column = omega arith; row = omega arith }

  edge_cell : (side : Side) (k : ℕ) → k < edge_of piece side → IsCellOf mesh.mosaic.tiles (side_at piece (hole_beside side k)).0
  edge_cell W k along = let shape = is.shape in place_cell 0 k (record { column = omega arith; row = along })
  edge_cell E k along = let shape = is.shape in place_cell (piece.nx - 1) k (record { column = omega arith; row = along })
  edge_cell S k along = let shape = is.shape in place_cell k 0 (record { column = along; row = omega arith })
  edge_cell N k along = let shape = is.shape in place_cell k (piece.ny - 1) (record { column = along; row = omega arith })

  -- what holds of each number of a list, and of 0, holds of what lies beyond a side
  beyond_each : (P : ℤ → Type 0) (xs : List ℤ) → P (pos 0) → ((n : ℕ) → n < cell_count mesh → P (at xs n)) → (o : Option CellSide) → ((b : CellSide) → o ≡ Some b → IsCellOf mesh.mosaic.tiles b.0) → P (beyond mesh.mosaic.tiles xs o)
  beyond_each P xs none each None within = none
  beyond_each P xs none each (Some b) within = each (number_of mesh.mosaic.tiles b.0) (numbers.below b.0 (within b refl))

  hole_at : (P : ℤ → Type 0) (xs : List ℤ) (f : FieldNumbers) → IsFieldOf piece f → HasHoles mesh.mosaic xs piece f → P (pos 0) → ((n : ℕ) → n < cell_count mesh → P (at xs n)) → (side : Side) (k depth : ℕ) → k < edge_of piece side → 1 ≡ depth → P (number_at f (HoleAt side k depth))
  hole_at P xs f sized holes none each side k depth along one =
      let Q : ℕ → Type 0 = λ d. P (number_at f (HoleAt side k d)) in
      subst Q one (subst P (sym (holes side k along)) (beyond_each P xs none each (mate_of mesh.mosaic (side_at piece (hole_beside side k))) (λ b e. mates.within (side_at piece (hole_beside side k)) b (edge_cell side k along) e)))

  -- and of each spot of a field with filled holes
  pub each_spot : (P : ℤ → Type 0) (xs : List ℤ) (f : FieldNumbers) → IsFieldOf piece f → HasCells mesh.mosaic.tiles xs piece f → HasHoles mesh.mosaic xs piece f → P (pos 0) → ((n : ℕ) → n < cell_count mesh → P (at xs n)) → (spot : Spot) → IsSpot f spot → P (number_at f spot)
  each_spot P xs f sized cells holes none each (CellAt i j) on =
      let nx = sized.nx in
      let ny = sized.ny in
      let place : IsPlaceOf piece (i, j) = record { column = omega arith; row = omega arith } in
      subst P (sym (cells i j place)) (each (number_of mesh.mosaic.tiles (cell_in piece (i, j))) (numbers.below (cell_in piece (i, j)) (place_cell i j place)))
  each_spot P xs f sized cells holes none each (HoleAt W k depth) on = let ny = sized.ny in hole_at P xs f sized holes none each W k depth (omega arith) (omega (arith, on.1, on.2, sized.width))
  each_spot P xs f sized cells holes none each (HoleAt E k depth) on = let ny = sized.ny in hole_at P xs f sized holes none each E k depth (omega arith) (omega (arith, on.1, on.2, sized.width))
  each_spot P xs f sized cells holes none each (HoleAt S k depth) on = let nx = sized.nx in hole_at P xs f sized holes none each S k depth (omega arith) (omega (arith, on.1, on.2, sized.width))
  each_spot P xs f sized cells holes none each (HoleAt N k depth) on = let nx = sized.nx in hole_at P xs f sized holes none each N k depth (omega arith) (omega (arith, on.1, on.2, sized.width))

  pub areas_are : (f : FieldNumbers) → IsFieldOf piece f → HasCells mesh.mosaic.tiles mesh.area piece f → HasHoles mesh.mosaic mesh.area piece f → AreAirAreas f
  areas_are f sized cells holes = record {
    cells = λ i j on.
        let nx = sized.nx in
        let ny = sized.ny in
        let place : IsPlaceOf piece (i, j) = record { column = omega arith; row = omega arith } in
        subst IsAirArea (sym (cells i j place)) (area_at mesh air (number_of mesh.mosaic.tiles (cell_in piece (i, j))) (numbers.below (cell_in piece (i, j)) (place_cell i j place)));
    least = each_spot (λ a. pos 0 ≤ℤ a) mesh.area f sized cells holes (omega (arith, ints)) (λ n l. let a = area_at mesh air n l in omega (arith, ints, a.0));
    most = each_spot (λ a. a ≤ℤ pos (2 ^ 40)) mesh.area f sized cells holes (omega (arith, ints)) (λ n l. let a = area_at mesh air n l in omega (arith, ints, a.1));
  }

  module _ (xs : List ℤ) (are : AreTotalled (cell_count mesh) xs) where
    pub amounts_are : (f : FieldNumbers) → IsFieldOf piece f → HasCells mesh.mosaic.tiles xs piece f → HasHoles mesh.mosaic xs piece f → AreAmounts f
    amounts_are f sized cells holes = each_spot IsAirAmount xs f sized cells holes (omega (arith, ints), omega (arith, ints)) (amount_at (cell_count mesh) xs are)

    flow_cases : (n : ℕ) (o : Option CellSide) → ((b : CellSide) → o ≡ Some b → IsCellOf mesh.mosaic.tiles b.0) → flow_beside (at xs n) (at mesh.area n) (beyond mesh.mosaic.tiles xs o) (beyond mesh.mosaic.tiles mesh.area o) ≡ flow_to mesh xs n o
    flow_cases n None within = refl
    flow_cases n (Some b) within =
        let m = number_of mesh.mosaic.tiles b.0 in
        let a : IsAirArea (at mesh.area m) = area_at mesh air m (numbers.below b.0 (within b refl)) in
        beside_some (at xs n) (at mesh.area n) (at xs m) (at mesh.area m) a.0

    module _ (area f : FieldNumbers) (area_sized : IsFieldOf piece area) (area_cells : HasCells mesh.mosaic.tiles mesh.area piece area) (area_holes : HasHoles mesh.mosaic mesh.area piece area) (sized : IsFieldOf piece f) (cells : HasCells mesh.mosaic.tiles xs piece f) (holes : HasHoles mesh.mosaic xs piece f) (i j : ℕ) (place : IsPlaceOf piece (i, j)) where
      flow_is : (side : Side) → flow_out area f i j side ≡ flow_through mesh xs (number_of mesh.mosaic.tiles (cell_in piece (i, j))) side
      flow_is side =
          let n = number_of mesh.mosaic.tiles (cell_in piece (i, j)) in
          let mate = mate_of mesh.mosaic (cell_in piece (i, j), side) in
          let x = cells i j place in
          let a = area_cells i j place in
          let y = out_is mesh.mosaic piece is xs f sized cells holes i j place side in
          let b = out_is mesh.mosaic piece is mesh.area area area_sized area_cells area_holes i j place side in
          (λ t. flow_beside (x t) (a t) (y t) (b t))
          ∙ flow_cases n mate (λ c e. mates.within (cell_in piece (i, j), side) c (place_cell i j place) e)
          ∙ ap (λ (c : CellId). flow_to mesh xs n (mate_of mesh.mosaic (c, side))) (sym (numbers.cell_number (cell_in piece (i, j)) (place_cell i j place)))

      pub next_is : next_at area f i j ≡ at (diffused mesh xs) (number_of mesh.mosaic.tiles (cell_in piece (i, j)))
      next_is =
          let n = number_of mesh.mosaic.tiles (cell_in piece (i, j)) in
          let x = cells i j place in
          let w = flow_is W in
          let e = flow_is E in
          let s = flow_is S in
          let t = flow_is N in
          (λ r. x r -ℤ (w r +ℤ e r +ℤ s r +ℤ t r))
          ∙ sym (diffused_at mesh air mates numbers xs are n (numbers.below (cell_in piece (i, j)) (place_cell i j place)))
