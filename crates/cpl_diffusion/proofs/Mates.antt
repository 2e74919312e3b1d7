-- The sides of a mosaic's cells, numbered 4 * cell + direction, and their mates.
use Rattle.std.proofs.Common.{◌≡◌, ◌∙◌, refl, ap, subst, ℕ, zero, suc, ◌+◌, ◌*◌, ◌/◌, ◌%◌, ◌<◌, arith, Option, Some, None, List}
use Rattle.std.proofs.lemmas.Nat.{div-mul-add, mod-mul-add, div_below, mod_below, div-add-mod'}
use Rattle.std.specs.Option.{option_map}
use Rattle.cpl_mosaic.specs.declared.parts.Tile.{Tile}
use Rattle.cpl_mosaic.specs.declared.parts.Side.{Side}
use Rattle.cpl_mosaic.specs.declared.parts.Side.TheVariants.{W, E, S, N}
use Rattle.cpl_mosaic.specs.Lists.{MosaicLists}
use Rattle.cpl_mosaic.specs.Sides.{CellSide, IsCellOf}
use Rattle.cpl_mosaic.specs.Contacts.{cells_of}
use Rattle.cpl_mosaic.specs.Mates.{mate_of, MatesAgree}
use Rattle.cpl_mosaic.specs.Cells.{number_of, cell_of, NumbersAgree}
use Rattle.cpl_diffusion.proofs.Exchange.{AreMates}

abbrev pub direction : Side → ℕ
direction W = 0
direction E = 1
direction S = 2
direction N = 3

abbrev pub side_of : ℕ → Side
side_of zero = W
side_of (suc zero) = E
side_of (suc (suc zero)) = S
side_of (suc (suc (suc n))) = N

direction_below : (side : Side) → direction side < 4
direction_below W = omega arith
direction_below E = omega arith
direction_below S = omega arith
direction_below N = omega arith

side_of-direction : (side : Side) → side_of (direction side) ≡ side
side_of-direction W = refl
side_of-direction E = refl
side_of-direction S = refl
side_of-direction N = refl

direction-side_of : (d : ℕ) → d < 4 → direction (side_of d) ≡ d
direction-side_of zero l = refl
direction-side_of (suc zero) l = refl
direction-side_of (suc (suc zero)) l = refl
direction-side_of (suc (suc (suc zero))) l = refl
direction-side_of (suc (suc (suc (suc d)))) l = absurd (omega arith)

-- a side of the cell of this number
abbrev pub numbered : ℕ → Side → ℕ
numbered n side = n * 4 + direction side

pub cell-numbered : (n : ℕ) (side : Side) → numbered n side / 4 ≡ n
cell-numbered n side = div-mul-add n 4 (direction side) (direction_below side)

side-numbered : (n : ℕ) (side : Side) → side_of (numbered n side % 4) ≡ side
side-numbered n side = ap side_of (mod-mul-add n 4 (direction side) (direction_below side)) ∙ side_of-direction side

-- the number of a side
abbrev pub side_number : List Tile → CellSide → ℕ
side_number tiles a = numbered (number_of tiles a.0) a.1

-- the side of a number
abbrev pub side_at : List Tile → ℕ → CellSide
side_at tiles p = (cell_of tiles (p / 4), side_of (p % 4))

pub side_at-numbered : (tiles : List Tile) (n : ℕ) (side : Side) → ◌≡◌ {A = CellSide} (side_at tiles (numbered n side)) (cell_of tiles n, side)
side_at-numbered tiles n side = λ i. (cell_of tiles (cell-numbered n side i), side-numbered n side i)

-- the number of the side that the side of this number meets
abbrev pub joined : MosaicLists → ℕ → Option ℕ
joined mosaic p = option_map (side_number mosaic.tiles) (mate_of mosaic (side_at mosaic.tiles p))

module _ (mosaic : MosaicLists) (mates : MatesAgree mosaic) (numbers : NumbersAgree mosaic.tiles) where
  side_at-side_number : (b : CellSide) → IsCellOf mosaic.tiles b.0 → side_at mosaic.tiles (side_number mosaic.tiles b) ≡ b
  side_at-side_number b is =
      side_at-numbered mosaic.tiles (number_of mosaic.tiles b.0) b.1 ∙ (λ i. (numbers.cell_number b.0 is i, b.1))

  side_number-side_at : (p : ℕ) → p < cells_of mosaic.tiles * 4 → side_number mosaic.tiles (side_at mosaic.tiles p) ≡ p
  side_number-side_at p l =
      let n = numbers.number_cell (p / 4) (div_below p 4 (cells_of mosaic.tiles) (omega arith) l) in
      let d = direction-side_of (p % 4) (mod_below p 4 (omega arith)) in
      let whole = div-add-mod' p 4 in
      omega arith

  joined_back : (p : ℕ) (b : CellSide) → p < cells_of mosaic.tiles * 4 → mate_of mosaic (side_at mosaic.tiles p) ≡ Some b → (joined mosaic (side_number mosaic.tiles b) ≡ Some p) × (side_number mosaic.tiles b < cells_of mosaic.tiles * 4)
  joined_back p b l e =
      let a = side_at mosaic.tiles p in
      let is = numbers.is_cell (p / 4) (div_below p 4 (cells_of mosaic.tiles) (omega arith) l) in
      let other = mates.within a b is e in
      let back = mates.back a b is e in
      let below = numbers.below b.0 other in
      let small = direction_below b.1 in (
        ap (λ (s : CellSide). option_map (side_number mosaic.tiles) (mate_of mosaic s)) (side_at-side_number b other)
            ∙ ap (option_map (side_number mosaic.tiles)) back
            ∙ ap Some (side_number-side_at p l),
        omega arith,
      )

  joined_by : (p q : ℕ) (o : Option CellSide) → p < cells_of mosaic.tiles * 4 → mate_of mosaic (side_at mosaic.tiles p) ≡ o → option_map (side_number mosaic.tiles) o ≡ Some q → (joined mosaic q ≡ Some p) × (q < cells_of mosaic.tiles * 4)
  joined_by p q None l e h = absurd (cc h)
  joined_by p q (Some b) l e h =
      let same : side_number mosaic.tiles b ≡ q = cc h in
      let P : ℕ → Type 0 = λ q. (joined mosaic q ≡ Some p) × (q < cells_of mosaic.tiles * 4) in
      subst P same (joined_back p b l e)

  pub joined_mates : AreMates (joined mosaic) (cells_of mosaic.tiles * 4)
  joined_mates p q l h = joined_by p q (mate_of mosaic (side_at mosaic.tiles p)) l refl h
