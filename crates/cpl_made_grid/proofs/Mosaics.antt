-- The mosaics of made grids are lawful.
use Rattle.std.proofs.Common.{◌≡◌, refl, ℕ, ◌+◌, ◌*◌, ◌≤◌, arith, true, false, None}
use Rattle.std.proofs.Math.Nat.{mul-le-mul}
use Rattle.std.proofs.lemmas.List.Elements.{All-from_recursion}
use Rattle.cpl_mosaic.specs.declared.parts.Side.TheVariants.{W, E, S, N}
use Rattle.cpl_mosaic.specs.Contacts.{IsTile, AreTiles, IsMosaic, cells_of, contact_fault}
use Rattle.cpl_made_grid.specs.Shares.{IsSized}
use Rattle.cpl_made_grid.specs.Shapes.{sphere_tiles, sphere_contacts, air_count, ocean_tiles, ocean_contacts, ocean_count, ocean_columns, ocean_rows}
use Rattle.cpl_made_grid.proofs.Joins.{good_contacts, good_edges, good_fold}

-- THE CUBED SPHERE

pub sphere_rules : (size : ℕ) → 1 ≤ size → contact_fault (sphere_tiles size) (sphere_contacts size) ≡ None
unfolding sphere_tiles sphere_contacts
sphere_rules size some =
    good_contacts (sphere_tiles size) (sphere_contacts size) (
      good_edges (sphere_tiles size) size 0 E 1 W false some refl refl refl,
      (
        good_edges (sphere_tiles size) size 0 N 2 W true some refl refl refl,
        (
          good_edges (sphere_tiles size) size 0 W 4 N true some refl refl refl,
          (
            good_edges (sphere_tiles size) size 0 S 5 N false some refl refl refl,
            (
              good_edges (sphere_tiles size) size 1 N 2 S false some refl refl refl,
              (
                good_edges (sphere_tiles size) size 1 E 3 S true some refl refl refl,
                (
                  good_edges (sphere_tiles size) size 1 S 5 E true some refl refl refl,
                  (
                    good_edges (sphere_tiles size) size 2 E 3 W false some refl refl refl,
                    (
                      good_edges (sphere_tiles size) size 2 N 4 W true some refl refl refl,
                      (
                        good_edges (sphere_tiles size) size 3 N 4 S false some refl refl refl,
                        (
                          good_edges (sphere_tiles size) size 3 E 5 S true some refl refl refl,
                          (
                            good_edges (sphere_tiles size) size 4 E 5 W false some refl refl refl,
                            tt,
                          ),
                        ),
                      ),
                    ),
                  ),
                ),
              ),
            ),
          ),
        ),
      ),
    ) refl

pub sphere_cells : (size : ℕ) → cells_of (sphere_tiles size) ≡ air_count size
unfolding sphere_tiles air_count
sphere_cells size = omega arith

square : (size : ℕ) → size ≤ 64 → size * size ≤ 4096
square size most = mul-le-mul {n₁ = size} {m₁ = size} {n₂ = 64} {m₂ = 64} most most

pub air_few : (size : ℕ) → size ≤ 64 → air_count size ≤ 24576
unfolding air_count
air_few size most = let h = square size most in omega arith

sphere_tile : (size : ℕ) → IsSized size → IsTile (record { nx = size; ny = size })
sphere_tile size sized =
    let least = sized.least in
    let most = sized.most in
    record { nx_least = least; nx_most = omega arith; ny_least = least; ny_most = omega arith }

pub sphere_sizes : (size : ℕ) → IsSized size → AreTiles (sphere_tiles size)
unfolding sphere_tiles
sphere_sizes size sized =
    let tile = sphere_tile size sized in
    let few = air_few size sized.most in
    let cells = sphere_cells size in
    record {
      least = omega arith;
      most = omega arith;
      each = All-from_recursion IsTile (sphere_tiles size) (tile, (tile, (tile, (tile, (tile, (tile, tt))))));
      cells = omega arith;
    }

pub sphere_lawful : (size : ℕ) → IsSized size → IsMosaic (sphere_tiles size) (sphere_contacts size)
unfolding sphere_contacts
sphere_lawful size sized = record { sizes = sphere_sizes size sized; few = omega arith; rules = sphere_rules size sized.least }

-- THE OCEAN'S TILE

pub ocean_rules : (size : ℕ) → contact_fault (ocean_tiles size) (ocean_contacts size) ≡ None
unfolding ocean_tiles ocean_contacts
ocean_rules size =
    good_contacts (ocean_tiles size) (ocean_contacts size) (
      good_edges (ocean_tiles size) (ocean_rows size) 0 W 0 E false (omega arith) refl refl refl,
      (
        good_fold (ocean_tiles size) (ocean_columns size) (3 * size + 36) 0 N (omega arith) (omega arith) refl,
        tt,
      ),
    ) refl

pub ocean_cells : (size : ℕ) → cells_of (ocean_tiles size) ≡ ocean_count size
unfolding ocean_tiles ocean_count
ocean_cells size = omega arith

pub ocean_few : (size : ℕ) → size ≤ 64 → ocean_count size ≤ 120384
unfolding ocean_count
ocean_few size most = let h = square size most in omega arith

pub ocean_sizes : (size : ℕ) → IsSized size → AreTiles (ocean_tiles size)
unfolding ocean_tiles
ocean_sizes size sized =
    let upto = sized.most in
    let few = ocean_few size sized.most in
    let cells = ocean_cells size in
    let tile : IsTile (record { nx = ocean_columns size; ny = ocean_rows size }) = record { nx_least = omega arith; nx_most = omega arith; ny_least = omega arith; ny_most = omega arith } in
    record {
      least = omega arith;
      most = omega arith;
      each = All-from_recursion IsTile (ocean_tiles size) (tile, tt);
      cells = omega arith;
    }

pub ocean_lawful : (size : ℕ) → IsSized size → IsMosaic (ocean_tiles size) (ocean_contacts size)
unfolding ocean_contacts
ocean_lawful size sized = record { sizes = ocean_sizes size sized; few = omega arith; rules = ocean_rules size }

-- how the counts of cells compare
pub record AreCounts (airs oceans : ℕ) : Type 0 where
  pub some : 1 ≤ airs
  pub more : airs ≤ oceans
  pub airs_few : airs ≤ 24576
  pub oceans_few : oceans ≤ 120384

pub counts : (size : ℕ) → IsSized size → AreCounts (air_count size) (ocean_count size)
unfolding air_count ocean_count
counts size sized =
    let least = sized.least in
    let square : 1 * 1 ≤ size * size = mul-le-mul {n₁ = 1} {m₁ = 1} {n₂ = size} {m₂ = size} least least in
    let airs = air_few size sized.most in
    let oceans = ocean_few size sized.most in
    record { some = omega arith; more = omega arith; airs_few = omega arith; oceans_few = omega arith }
