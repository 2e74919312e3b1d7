-- What lies around a cell of a piece of the ocean, and what follows where that is what lies around it in the whole.
use Rattle.std.proofs.Common.{◌≡◌, ◌∙◌, refl, sym, ap, subst, ℕ, zero, suc, ◌-◌, ◌<◌, ◌≤◌, arith, inl, inr, Bool, true, false, ◌&&◌, Option, Some, None, length, nat_lt}
use Rattle.std.specs.Prelude.{ℤ, pos, ◌+ℤ◌, if◌then◌else◌}
use Rattle.std.proofs.lemmas.Bool.{cases_Bool}
use Rattle.cpl_fixed.specs.Amounts.{amount, at}
use Rattle.cpl_fixed.specs.declared.rates.Rates.{Rates}
use Rattle.cpl_mosaic.specs.declared.mosaic.Mesh.{Mesh}
use Rattle.cpl_mosaic.specs.declared.parts.CellId.{CellId}
use Rattle.cpl_mosaic.specs.declared.parts.Side.{Side}
use Rattle.cpl_mosaic.specs.declared.parts.Side.TheVariants.{W, E, S, N}
use Rattle.cpl_mosaic.specs.Sides.{CellSide, IsCellOf, opposite}
use Rattle.cpl_mosaic.specs.Cells.{cell_of, number_of}
use Rattle.cpl_mosaic.specs.Mates.{mate_of, one_further, walk_of}
use Rattle.cpl_layout.specs.declared.piece.Piece.{Piece}
use Rattle.cpl_layout.specs.Owners.{IsPieceOf, IsPlaceOf, cell_in}
use Rattle.cpl_field.specs.Crossings.{outward as outward_here}
use Rattle.cpl_field.specs.Spots.{Spot, CellAt, number_at, out_from}
use Rattle.cpl_ice.specs.declared.parts.Salty.{Salty}
use Rattle.cpl_transport.specs.Heights.{height_of, next_face}
use Rattle.cpl_transport.specs.Mixing.{sum_of}
use Rattle.cpl_transport.specs.Moves.{through}
use Rattle.cpl_transport.specs.Salts.{joined, nothing, without}
use Rattle.cpl_ocean.specs.Columns.{column_water as water_here, height_at as height_here}
use Rattle.cpl_ocean.specs.Flows.{behind as behind_here, beyond as beyond_here, flow_out, is_open as is_open_here, is_wet as is_wet_here, next_number as next_here, open_or as open_or_here}
use Rattle.cpl_ocean.specs.Layers.{salty_at}
use Rattle.cpl_ocean.specs.Pieces.{OceanNumbers, fields_at, transported_at}
use Rattle.cpl_state.specs.Diffusion.{cell_count, cell_number}
use Rattle.cpl_state.specs.Transport.{Sea, behind, cell_in as whole_cell, column_water, flow_through, flow_to, height_at, is_open, is_wet, next_number, open_or, outward, transported}
use Rattle.cpl_rounds.specs.Rounds.{outward_in}
use Rattle.cpl_sea.specs.Seas.{IsOcean}
use Rattle.cpl_sea.proofs.Flows.{through_none}
use Rattle.cpl_agree.specs.Fields.{beyond, whole_number}
use Rattle.cpl_agree.specs.Oceans.{layer_beyond}
use Rattle.cpl_agree.proofs.Faces.{alone, next_seen}

-- TESTS

if_true : (b : Bool) (x : ℤ) → b ≡ true → (if b then x else pos 0) ≡ x
if_true true x e = refl
if_true false x e = absurd (cc e)

if_false : (b : Bool) (x : ℤ) → b ≡ false → (if b then x else pos 0) ≡ pos 0
if_false true x e = absurd (cc e)
if_false false x e = refl

flow_if : (b : Bool) (x : Salty) → b ≡ true → (if b then x else nothing) ≡ x
flow_if true x e = refl
flow_if false x e = absurd (cc e)

none_if : (b : Bool) (x : Salty) → b ≡ false → (if b then x else nothing) ≡ nothing
none_if true x e = absurd (cc e)
none_if false x e = refl

not_both : (b : Bool) → (b && false) ≡ false
not_both true = refl
not_both false = refl

first_of_both : (a b : Bool) → (a && b) ≡ true → a ≡ true
first_of_both true b e = refl
first_of_both false b e = e

second_of_both : (a b : Bool) → (a && b) ≡ true → b ≡ true
second_of_both true b e = e
second_of_both false b e = absurd (cc e)

-- sums of columns that agree in their layers
sum_each : (f g : ℕ → ℤ) (n : ℕ) → ((l : ℕ) → l < n → f l ≡ g l) → sum_of n f ≡ sum_of n g
sum_each f g zero same = refl
sum_each f g (suc n) same =
    let before = sum_each f g n (λ l h. same l (omega arith)) in
    let last = same n (omega arith) in
    λ t. before t +ℤ last t

module _ (mesh : Mesh) (layers : ℕ) (sea : Sea) (piece : Piece) where
  -- what lies around a cell of a piece is what lies around it in the whole
  pub record Around (ocean : OceanNumbers) (i j : ℕ) : Type 0 where
    pub area_here : number_at ocean.area (CellAt i j) ≡ at mesh.area (whole_number mesh.mosaic.tiles piece i j)
    pub area_out : (side : Side) (d : ℕ) → 1 ≤ d → d ≤ 2 → number_at ocean.area (out_from ocean.area i j side d) ≡ beyond mesh.mosaic.tiles (at mesh.area) (walk_of mesh.mosaic (d - 1) (cell_in piece (i, j), side))
    pub here : (l : ℕ) → l < layers → salty_at (fields_at ocean l) (CellAt i j) ≡ whole_cell mesh sea l (whole_number mesh.mosaic.tiles piece i j)
    pub out : (l : ℕ) (side : Side) (d : ℕ) → l < layers → 1 ≤ d → d ≤ 2 → salty_at (fields_at ocean l) (out_from ocean.area i j side d) ≡ layer_beyond mesh sea l (walk_of mesh.mosaic (d - 1) (cell_in piece (i, j), side))
    pub faces : (l : ℕ) (side : Side) → l < layers → outward_here (fields_at ocean l).faces i j side ≡ outward_in mesh sea l (whole_number mesh.mosaic.tiles piece i j) side

  -- whether the cell that a walk leads to is wet
  abbrev wet_beyond : Option CellSide → Bool
  wet_beyond None = false
  wet_beyond (Some entered) = is_wet mesh (cell_number mesh entered)

  wet_of : (o : Option CellSide) → nat_lt 0 (amount (beyond mesh.mosaic.tiles (at mesh.area) o)) ≡ wet_beyond o
  wet_of None = refl
  wet_of (Some entered) = refl

  module _ (rates : Rates) (oceanic : IsOcean mesh) (is : IsPieceOf mesh.mosaic.tiles piece) (ocean : OceanNumbers) (count : length ocean.layers ≡ layers) (i j : ℕ) (place : IsPlaceOf piece (i, j)) (around : Around ocean i j) where
    abbrev n : ℕ
    n = whole_number mesh.mosaic.tiles piece i j

    abbrev cell : CellId
    cell = cell_in piece (i, j)

    abbrev mate : Side → Option CellSide
    mate side = mate_of mesh.mosaic (cell, side)

    is_cell : IsCellOf mesh.mosaic.tiles cell
    is_cell = let column = place.column in let row = place.row in let east = is.east in let north = is.north in record { column = omega arith; row = omega arith }

    below : n < cell_count mesh
    below = oceanic.numbers.below cell is_cell

    same_cell : cell_of mesh.mosaic.tiles n ≡ cell
    same_cell = oceanic.numbers.cell_number cell is_cell

    wet_here : is_wet_here ocean.area (CellAt i j) ≡ is_wet mesh n
    wet_here = ap (λ (x : ℤ). nat_lt 0 (amount x)) around.area_here

    wet_spot : (spot : Spot) (o : Option CellSide) → number_at ocean.area spot ≡ beyond mesh.mosaic.tiles (at mesh.area) o → is_wet_here ocean.area spot ≡ wet_beyond o
    wet_spot spot o e = ap (λ (x : ℤ). nat_lt 0 (amount x)) e ∙ wet_of o

    open_is : (side : Side) (o : Option CellSide) → mate side ≡ o → is_open_here ocean.area i j side ≡ (is_wet mesh n && wet_beyond o)
    open_is side o e =
        let there = wet_spot (out_from ocean.area i j side 1) (mate side) (around.area_out side 1 (omega arith) (omega arith)) in
        λ t. wet_here t && (there ∙ ap wet_beyond e) t

    -- HEIGHTS

    water_is : water_here ocean.layers (CellAt i j) ≡ column_water mesh layers sea n
    water_is =
        ap (λ (k : ℕ). sum_of k (λ l. number_at (fields_at ocean l).water (CellAt i j))) count
        ∙ sum_each (λ l. number_at (fields_at ocean l).water (CellAt i j)) (λ l. (whole_cell mesh sea l n).water) layers (λ l h. ap (λ (s : Salty). s.water) (around.here l h))

    height_is : is_wet mesh n ≡ true → height_here ocean.area ocean.layers (CellAt i j) ≡ height_at mesh layers sea n
    height_is wet =
        if_true (is_wet_here ocean.area (CellAt i j)) _ (wet_here ∙ wet)
        ∙ (λ t. height_of (water_is t) (around.area_here t))

    module _ (side : Side) (b : CellSide) (e : mate side ≡ Some b) where
      abbrev m : ℕ
      m = cell_number mesh b

      abbrev across : Spot
      across = out_from ocean.area i j side 1

      is_other : IsCellOf mesh.mosaic.tiles b.0
      is_other = oceanic.mates.within (cell, side) b is_cell e

      mate_there : mate_of mesh.mosaic (cell_of mesh.mosaic.tiles n, side) ≡ Some b
      mate_there = ap (λ (c : CellId). mate_of mesh.mosaic (c, side)) same_cell ∙ e

      there : (l : ℕ) → l < layers → salty_at (fields_at ocean l) across ≡ whole_cell mesh sea l m
      there l h = around.out l side 1 h (omega arith) (omega arith) ∙ ap (layer_beyond mesh sea l) e

      area_there : number_at ocean.area across ≡ at mesh.area m
      area_there = around.area_out side 1 (omega arith) (omega arith) ∙ ap (beyond mesh.mosaic.tiles (at mesh.area)) e

      water_there : water_here ocean.layers across ≡ column_water mesh layers sea m
      water_there =
          ap (λ (k : ℕ). sum_of k (λ l. number_at (fields_at ocean l).water across)) count
          ∙ sum_each (λ l. number_at (fields_at ocean l).water across) (λ l. (whole_cell mesh sea l m).water) layers (λ l h. ap (λ (s : Salty). s.water) (there l h))

      height_there : is_wet mesh m ≡ true → height_here ocean.area ocean.layers across ≡ height_at mesh layers sea m
      height_there wet =
          if_true (is_wet_here ocean.area across) _ (ap (λ (x : ℤ). nat_lt 0 (amount x)) area_there ∙ wet)
          ∙ (λ t. height_of (water_there t) (area_there t))

      -- FACES

      next_some : (l : ℕ) → l < layers
          → next_here ocean.area (height_here ocean.area ocean.layers) rates.slope (fields_at ocean l).faces i j side ≡ outward mesh.mosaic (next_number mesh layers rates sea l) n side
      next_some l h = elim (cases_Bool (is_open mesh n m)) [
        | inl clear ↦
            let here_high = height_is (first_of_both (is_wet mesh n) (is_wet mesh m) clear) in
            let there_high = height_there (second_of_both (is_wet mesh n) (is_wet mesh m) clear) in
            let number = around.faces l side h in
            if_true (is_open_here ocean.area i j side) _ (open_is side (Some b) e ∙ clear)
            ∙ (λ t. next_face rates.slope (number t) (here_high t) (there_high t))
            ∙ sym (next_seen mesh oceanic layers rates sea l n side b below mate_there ∙ if_true (is_open mesh n m) _ clear)
        | inr closed ↦
            if_false (is_open_here ocean.area i j side) _ (open_is side (Some b) e ∙ closed)
            ∙ sym (next_seen mesh oceanic layers rates sea l n side b below mate_there ∙ if_false (is_open mesh n m) _ closed)
      ]

    next_none : (side : Side) (l : ℕ) → mate side ≡ None
        → next_here ocean.area (height_here ocean.area ocean.layers) rates.slope (fields_at ocean l).faces i j side ≡ outward mesh.mosaic (next_number mesh layers rates sea l) n side
    next_none side l e =
        if_false (is_open_here ocean.area i j side) _ (open_is side None e ∙ not_both (is_wet mesh n))
        ∙ sym (alone mesh oceanic (next_number mesh layers rates sea l) n side (ap (λ (c : CellId). mate_of mesh.mosaic (c, side)) same_cell ∙ e))

    next_by : (side : Side) (l : ℕ) → l < layers → (o : Option CellSide) → mate side ≡ o
        → next_here ocean.area (height_here ocean.area ocean.layers) rates.slope (fields_at ocean l).faces i j side ≡ outward mesh.mosaic (next_number mesh layers rates sea l) n side
    next_by side l h None e = next_none side l e
    next_by side l h (Some b) e = next_some side b e l h

    -- each side sees the next number of its face
    pub next_is : (side : Side) (l : ℕ) → l < layers
        → next_here ocean.area (height_here ocean.area ocean.layers) rates.slope (fields_at ocean l).faces i j side ≡ outward mesh.mosaic (next_number mesh layers rates sea l) n side
    next_is side l h = next_by side l h (mate side) refl

    -- FLOWS

    -- the farther of two spots is picked as in the whole
    picked : (l : ℕ) (b : Bool) (far near : Spot) (x y : ℕ) → (b ≡ true → salty_at (fields_at ocean l) far ≡ whole_cell mesh sea l x) → salty_at (fields_at ocean l) near ≡ whole_cell mesh sea l y
        → salty_at (fields_at ocean l) (if b then far else near) ≡ whole_cell mesh sea l (if b then x else y)
    picked l true far near x y one other = one refl
    picked l false far near x y one other = other

    near_or : (l : ℕ) (b : Bool) (far near : Spot) (y : ℕ) → b ≡ false → salty_at (fields_at ocean l) near ≡ whole_cell mesh sea l y
        → salty_at (fields_at ocean l) (if b then far else near) ≡ whole_cell mesh sea l y
    near_or l true far near y e other = absurd (cc e)
    near_or l false far near y e other = other

    or_is : (l m : ℕ) (o : Option CellSide) (far near : Spot) → is_wet mesh m ≡ true → number_at ocean.area far ≡ beyond mesh.mosaic.tiles (at mesh.area) o
        → salty_at (fields_at ocean l) far ≡ layer_beyond mesh sea l o → salty_at (fields_at ocean l) near ≡ whole_cell mesh sea l m
        → salty_at (fields_at ocean l) (open_or_here ocean.area far near) ≡ whole_cell mesh sea l (open_or mesh m o)
    or_is l m None far near wet area one other = near_or l (is_wet_here ocean.area far) far near m (wet_spot far None area) other
    or_is l m (Some b) far near wet area one other =
        let x = cell_number mesh b in
        let test : is_wet_here ocean.area far ≡ is_open mesh m x = wet_spot far (Some b) area ∙ (λ t. sym wet t && is_wet mesh x) in
        ap (λ (w : Bool). salty_at (fields_at ocean l) (if w then far else near)) test
        ∙ picked l (is_open mesh m x) far near x m (λ t. one) other

    behind_is : (side : Side) (l : ℕ) → l < layers → is_wet mesh n ≡ true → salty_at (fields_at ocean l) (behind_here ocean.area i j side) ≡ whole_cell mesh sea l (behind mesh n side)
    unfolding behind
    behind_is side l h wet =
        or_is l n (mate (opposite side)) (out_from ocean.area i j (opposite side) 1) (CellAt i j) wet
        (around.area_out (opposite side) 1 (omega arith) (omega arith)) (around.out l (opposite side) 1 h (omega arith) (omega arith)) (around.here l h)
        ∙ ap (λ (c : CellId). whole_cell mesh sea l (open_or mesh n (mate_of mesh.mosaic (c, opposite side)))) (sym same_cell)

    module _ (side : Side) (b : CellSide) (e : mate side ≡ Some b) where
      -- two steps out
      further : walk_of mesh.mosaic 1 (cell, side) ≡ mate_of mesh.mosaic (b.0, opposite b.1)
      further = ap (one_further mesh.mosaic) e

      beyond_is : (l : ℕ) → l < layers → is_wet mesh (cell_number mesh b) ≡ true → salty_at (fields_at ocean l) (beyond_here ocean.area i j side) ≡ whole_cell mesh sea l (behind mesh (cell_number mesh b) b.1)
      unfolding behind
      beyond_is l h wet =
          or_is l (cell_number mesh b) (mate_of mesh.mosaic (b.0, opposite b.1)) (out_from ocean.area i j side 2) (out_from ocean.area i j side 1) wet
          (around.area_out side 2 (omega arith) (omega arith) ∙ ap (beyond mesh.mosaic.tiles (at mesh.area)) further)
          (around.out l side 2 h (omega arith) (omega arith) ∙ ap (layer_beyond mesh sea l) further)
          (there side b e l h)
          ∙ ap (λ (c : CellId). whole_cell mesh sea l (open_or mesh (cell_number mesh b) (mate_of mesh.mosaic (c, opposite b.1)))) (sym (oceanic.numbers.cell_number b.0 (is_other side b e)))

      flow_some : (l : ℕ) → l < layers
          → flow_out ocean.area (height_here ocean.area ocean.layers) rates.slope (fields_at ocean l) i j side
          ≡ flow_to mesh sea (outward mesh.mosaic (next_number mesh layers rates sea l) n side) l n side (Some b)
      flow_some l h = elim (cases_Bool (is_open mesh n (cell_number mesh b))) [
        | inl clear ↦
            let number = next_is side l h in
            let first = behind_is side l h (first_of_both (is_wet mesh n) (is_wet mesh (cell_number mesh b)) clear) in
            let second = around.here l h in
            let third = there side b e l h in
            let last = beyond_is l h (second_of_both (is_wet mesh n) (is_wet mesh (cell_number mesh b)) clear) in
            flow_if (is_open_here ocean.area i j side) _ (open_is side (Some b) e ∙ clear)
            ∙ (λ t. through (number t) (first t) (second t) (third t) (last t))
        | inr closed ↦
            let wall = next_seen mesh oceanic layers rates sea l n side b below (mate_there side b e) ∙ if_false (is_open mesh n (cell_number mesh b)) _ closed in
            none_if (is_open_here ocean.area i j side) _ (open_is side (Some b) e ∙ closed)
            ∙ sym (ap (λ (u : ℤ). flow_to mesh sea u l n side (Some b)) wall
            ∙ through_none (whole_cell mesh sea l (behind mesh n side)) (whole_cell mesh sea l n) (whole_cell mesh sea l (cell_number mesh b)) (whole_cell mesh sea l (behind mesh (cell_number mesh b) b.1)))
      ]

    flow_by : (side : Side) (l : ℕ) → l < layers → (o : Option CellSide) → mate side ≡ o
        → flow_out ocean.area (height_here ocean.area ocean.layers) rates.slope (fields_at ocean l) i j side
        ≡ flow_to mesh sea (outward mesh.mosaic (next_number mesh layers rates sea l) n side) l n side o
    flow_by side l h None e = none_if (is_open_here ocean.area i j side) _ (open_is side None e ∙ not_both (is_wet mesh n))
    flow_by side l h (Some b) e = flow_some side b e l h

    flow_is : (side : Side) (l : ℕ) → l < layers
        → flow_out ocean.area (height_here ocean.area ocean.layers) rates.slope (fields_at ocean l) i j side ≡ flow_through mesh layers rates sea l n side
    unfolding flow_through
    flow_is side l h =
        flow_by side l h (mate side) refl
        ∙ ap (λ (c : CellId). flow_to mesh sea (outward mesh.mosaic (next_number mesh layers rates sea l) n side) l n side (mate_of mesh.mosaic (c, side))) (sym same_cell)

    -- and the transport leaves in the cell what it leaves there in the whole
    pub transported_is : (l : ℕ) → l < layers → transported_at ocean rates.slope l i j ≡ transported mesh layers rates sea l n
    unfolding transported
    transported_is l h =
        let here = around.here l h in
        let w = flow_is W l h in
        let e = flow_is E l h in
        let s = flow_is S l h in
        let no = flow_is N l h in
        λ t. without (here t) (joined (joined (w t) (e t)) (joined (s t) (no t)))
