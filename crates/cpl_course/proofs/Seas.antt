-- The ocean of a lawful state is a lawful ocean, and the other way round.
use Rattle.std.proofs.Common.{◌≡◌, refl, ap, subst, Bool, true, false, ◌&&◌, ℕ, ◌+◌, ◌*◌, ◌/◌, ◌%◌, ◌<◌, ◌⊎◌, arith, inl, inr, List, length}
use Rattle.std.specs.Prelude.{ℤ, pos, ◌≤ℤ◌, nat_lt, All}
use Rattle.std.proofs.lemmas.Nat.{div-add-mod'}
use Rattle.std.proofs.lemmas.List.Elements.{All-from_get_or, All-get_or, Contains-get_or}
use Rattle.cpl_fixed.specs.Amounts.{amount, at}
use Rattle.cpl_fixed.specs.Totals.{total_of}
use Rattle.cpl_fixed.specs.declared.limits.TheConstants.{MOST_TOTAL}
use Rattle.cpl_xgrid.specs.declared.grid.Grid.{Grid}
use Rattle.cpl_faces.specs.declared.face.Face.{Face}
use Rattle.cpl_faces.specs.Faces.{faces_of}
use Rattle.cpl_state.specs.declared.whole.Whole.{Whole}
use Rattle.cpl_state.specs.Stored.{IsStored}
use Rattle.cpl_state.specs.Diffusion.{AreAmounts, cell_count}
use Rattle.cpl_state.specs.States.{ocean_cells, layers, in_layer, IsWhole, IsDry, IsDryFace, IsFaceNumber}
use Rattle.cpl_state.specs.Transport.{Sea, face_at, face_count, is_open, is_wet}
use Rattle.cpl_state.specs.CouplingStep.{sea_of}
use Rattle.cpl_sea.specs.Seas.{IsOcean, IsSea}
use Rattle.cpl_diffusion.proofs.Conserved.{amount_at}
use Rattle.cpl_laws.proofs.Held.{stored}
use Rattle.cpl_laws.proofs.IceCells.{natural_zero}
use Rattle.cpl_sea.proofs.Rows.{place_below}
use Rattle.cpl_sea.proofs.Kept.{of_layer}
use Rattle.cpl_sea.proofs.Dry.{HasNothing}

either_false : (a b : Bool) → (a && b) ≡ false → (a ≡ false) ⊎ (b ≡ false)
either_false false b e = inl refl
either_false true b e = inr e

second_false : (a b : Bool) → b ≡ false → (a && b) ≡ false
second_false true b e = e
second_false false b e = refl

module _ (grid : Grid) (ocean : IsOcean grid.ocean) where
  -- a cell is wet where it isn't dry
  pub not_wet : (n : ℕ) → IsDry grid.ocean n → is_wet grid.ocean n ≡ false
  not_wet n dry = ap (λ (a : ℤ). nat_lt 0 (amount a)) dry.1

  dry_cell : (n : ℕ) → n < ocean_cells grid → is_wet grid.ocean n ≡ false → IsDry grid.ocean n
  dry_cell n l e = (l, natural_zero (at grid.ocean.area n) (ocean.areas.each n (pos 0) (let long = ocean.areas.count in omega arith)).0 e)

  -- the cells of a face
  face_cells : (f : ℕ) → f < face_count grid.ocean → ((face_at grid.ocean f).first < ocean_cells grid) × ((face_at grid.ocean f).second < ocean_cells grid)
  face_cells f l =
      let is = ocean.faces.only (face_at grid.ocean f) (Contains-get_or (faces_of grid.ocean.mosaic) f _ l) in
      let other = ocean.mates.within is.0 is.1 is.2.cell is.2.mate in
      let first = ap (λ (face : Face). face.first) is.3 in
      let second = ap (λ (face : Face). face.second) is.3 in
      let a = ocean.numbers.below is.0.0 is.2.cell in
      let b = ocean.numbers.below is.1.0 other in
      (omega (arith, first, a), omega (arith, second, b))

  -- a face is closed where one of its cells is dry
  closed_face : (f : ℕ) → IsDryFace grid f → is_open grid.ocean (face_at grid.ocean f).first (face_at grid.ocean f).second ≡ false
  closed_face f (inl first) = ap (λ (b : Bool). b && is_wet grid.ocean (face_at grid.ocean f).second) (not_wet (face_at grid.ocean f).first first)
  closed_face f (inr second) = second_false (is_wet grid.ocean (face_at grid.ocean f).first) (is_wet grid.ocean (face_at grid.ocean f).second) (not_wet (face_at grid.ocean f).second second)

  dry_face : (f : ℕ) → f < face_count grid.ocean → is_open grid.ocean (face_at grid.ocean f).first (face_at grid.ocean f).second ≡ false → IsDryFace grid f
  dry_face f l e = elim (either_false (is_wet grid.ocean (face_at grid.ocean f).first) (is_wet grid.ocean (face_at grid.ocean f).second) e) [
    | inl first ↦ inl (dry_cell (face_at grid.ocean f).first (face_cells f l).0 first)
    | inr second ↦ inr (dry_cell (face_at grid.ocean f).second (face_cells f l).1 second)
  ]

  -- the ocean of a lawful state, whose totals are in range
  amounts_of : (xs : List ℤ) → length xs ≡ layers grid * ocean_cells grid → All IsStored xs → total_of xs ≤ℤ pos MOST_TOTAL → AreAmounts (layers grid * cell_count grid.ocean) xs
  amounts_of xs long all most = record { count = long; each = λ k d l. (all k d l).0; total = most }

  pub sea_is : (whole : Whole) → IsWhole grid whole → total_of whole.water ≤ℤ pos MOST_TOTAL → total_of whole.heat ≤ℤ pos MOST_TOTAL → total_of whole.salt ≤ℤ pos MOST_TOTAL → IsSea grid.ocean (layers grid) (sea_of whole)
  sea_is whole lawful water heat salt =
      let F = face_count grid.ocean in
      record {
        water = amounts_of whole.water lawful.lengths.water lawful.stored.water water;
        heat = amounts_of whole.heat lawful.lengths.heat lawful.stored.heat heat;
        salt = amounts_of whole.salt lawful.lengths.salt lawful.stored.salt salt;
        faces = record {
          count = lawful.lengths.faces;
          range = All-from_get_or IsFaceNumber whole.faces (pos 0) (λ place l.
              let within : place < layers grid * F = omega (arith, lawful.lengths.faces) in
              let of = of_layer (layers grid) F place within in
              subst (λ (j : ℕ). IsFaceNumber (at whole.faces j)) (div-add-mod' place F) (lawful.faces.range (place / F) (place % F) of.0 of.1));
          walls = λ layer f l k closed. lawful.faces.dry layer f l k (dry_face f k closed);
        };
      }

  -- the faces' numbers of a lawful ocean
  pub face_range : (sea : Sea) → IsSea grid.ocean (layers grid) sea → (layer f : ℕ) → layer < layers grid → f < face_count grid.ocean → IsFaceNumber (in_layer (face_count grid.ocean) layer f sea.faces)
  face_range sea is layer f l k = All-get_or IsFaceNumber sea.faces (layer * face_count grid.ocean + f) (pos 0) (let long = is.faces.count in let below = place_below (layers grid) (face_count grid.ocean) layer f l k in omega arith) is.faces.range

  pub face_dry : (sea : Sea) → IsSea grid.ocean (layers grid) sea → (layer f : ℕ) → layer < layers grid → f < face_count grid.ocean → IsDryFace grid f → in_layer (face_count grid.ocean) layer f sea.faces ≡ pos 0
  face_dry sea is layer f l k dry = is.faces.walls layer f l k (closed_face f dry)

  -- nothing is in a dry cell of a lawful state
  pub nothing_in : (whole : Whole) → IsWhole grid whole → (n : ℕ) → IsDry grid.ocean n → HasNothing grid.ocean (layers grid) (sea_of whole) n
  nothing_in whole lawful n dry = (let own = lawful.dry_ocean n dry in record { water = own.water; heat = own.heat; salt = own.salt })

  -- the amounts of a lawful ocean can be stored
  pub amounts_stored : (xs : List ℤ) → AreAmounts (layers grid * cell_count grid.ocean) xs → All IsStored xs
  amounts_stored xs are = All-from_get_or IsStored xs (pos 0) (λ n l. stored (at xs n) (amount_at (layers grid * cell_count grid.ocean) xs are n (let long = are.count in omega arith)))
