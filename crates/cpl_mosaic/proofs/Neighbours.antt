-- The cell behind a side, in the same tile.
use Rattle.std.proofs.Common.{◌≡◌, refl, ◌∙◌, ap, subst, Bool, true, false, eqb, ℕ, ◌+◌, ◌-◌, ◌<◌, arith, Some, None}
use Rattle.std.specs.Prelude.{◌≢◌, if◌then◌else◌}
use Rattle.std.proofs.lemmas.Bool.{eqb-false, ne_eqb, cond-false}
use Rattle.cpl_mosaic.specs.declared.parts.Side.{Side}
use Rattle.cpl_mosaic.specs.declared.parts.Side.TheVariants.{W, E, S, N}
use Rattle.cpl_mosaic.specs.declared.parts.CellId.{CellId}
use Rattle.cpl_mosaic.specs.declared.parts.Tile.{Tile}
use Rattle.cpl_mosaic.specs.Sides.{opposite, neighbour}

pub opposite_twice : (side : Side) → opposite (opposite side) ≡ side
opposite_twice W = refl
opposite_twice E = refl
opposite_twice S = refl
opposite_twice N = refl

-- a cell in column i and row j of the tile of another
abbrev beside : CellId → ℕ → ℕ → CellId
beside cell i j = record { tile = cell.tile; i = i; j = j }

-- a choice that gives something made it
chosen : (b : Bool) (cell next : CellId) → if b then None else Some cell ≡ Some next → (b ≡ false) × (cell ≡ next)
chosen true cell next e = absurd (cc)
chosen false cell next e = (refl, cc)

-- what the cell behind a side is
pub record Behind (tile : Tile) (cell next : CellId) (side : Side) : Type 0 where
  pub same_tile : next.tile ≡ cell.tile
  pub column : next.i < tile.nx
  pub row : next.j < tile.ny
  pub back : neighbour tile next (opposite side) ≡ Some cell
  pub apart : cell ≢ next

-- the cell behind a side lies in the tile, is another one, and has the first behind the opposite side
pub behind : (tile : Tile) (cell next : CellId) (side : Side) → cell.i < tile.nx → cell.j < tile.ny → neighbour tile cell side ≡ Some next → Behind tile cell next side
behind tile cell next W column row e =
    let past = chosen (eqb cell.i 0) (beside cell (cell.i - 1) cell.j) next e in
    let more = eqb-false cell.i 0 past.0 in
    let back : cell.i - 1 + 1 ≡ cell.i = omega arith in
    subst (λ (n : CellId). Behind tile cell n W) past.1 (record {
      same_tile = refl;
      column = omega arith;
      row = row;
      back = cond-false _ _ _ (ne_eqb (cell.i - 1 + 1) tile.nx (λ e. omega arith)) ∙ ap (λ i. Some (beside cell i cell.j)) back;
      apart = λ e. let same = ap (λ (c : CellId). c.i) e in omega arith;
    })
behind tile cell next E column row e =
    let past = chosen (eqb (cell.i + 1) tile.nx) (beside cell (cell.i + 1) cell.j) next e in
    let more = eqb-false (cell.i + 1) tile.nx past.0 in
    let back : cell.i + 1 - 1 ≡ cell.i = omega arith in
    subst (λ (n : CellId). Behind tile cell n E) past.1 (record {
      same_tile = refl;
      column = omega arith;
      row = row;
      back = cond-false _ _ _ (ne_eqb (cell.i + 1) 0 (λ e. omega arith)) ∙ ap (λ i. Some (beside cell i cell.j)) back;
      apart = λ e. let same = ap (λ (c : CellId). c.i) e in omega arith;
    })
behind tile cell next S column row e =
    let past = chosen (eqb cell.j 0) (beside cell cell.i (cell.j - 1)) next e in
    let more = eqb-false cell.j 0 past.0 in
    let back : cell.j - 1 + 1 ≡ cell.j = omega arith in
    subst (λ (n : CellId). Behind tile cell n S) past.1 (record {
      same_tile = refl;
      column = column;
      row = omega arith;
      back = cond-false _ _ _ (ne_eqb (cell.j - 1 + 1) tile.ny (λ e. omega arith)) ∙ ap (λ j. Some (beside cell cell.i j)) back;
      apart = λ e. let same = ap (λ (c : CellId). c.j) e in omega arith;
    })
behind tile cell next N column row e =
    let past = chosen (eqb (cell.j + 1) tile.ny) (beside cell cell.i (cell.j + 1)) next e in
    let more = eqb-false (cell.j + 1) tile.ny past.0 in
    let back : cell.j + 1 - 1 ≡ cell.j = omega arith in
    subst (λ (n : CellId). Behind tile cell n N) past.1 (record {
      same_tile = refl;
      column = column;
      row = omega arith;
      back = cond-false _ _ _ (ne_eqb (cell.j + 1) 0 (λ e. omega arith)) ∙ ap (λ j. Some (beside cell cell.i j)) back;
      apart = λ e. let same = ap (λ (c : CellId). c.j) e in omega arith;
    })
