-- Small tiles are tiles within the limits.
use Rattle.std.proofs.Common.{suc, ◌*◌, ◌≤◌, arith, List, [], ◌∷◌, length}
use Rattle.std.specs.Prelude.{All}
use Rattle.std.proofs.lemmas.Nat.{mul-le}
use Rattle.cpl_mosaic.specs.declared.parts.Tile.{Tile}
use Rattle.cpl_mosaic.specs.Contacts.{AreTiles, cells_of}
use Rattle.cpl_samples.specs.Small.{IsSmall}

few_cells : (tiles : List Tile) → All IsSmall tiles → cells_of tiles ≤ 4096 * length tiles
few_cells [] small = omega arith
few_cells (tile ∷ tiles) small =
    let first : IsSmall tile = small 0 tile (omega arith) in
    let rest = few_cells tiles (λ k d below. small (suc k) d (omega arith)) in
    let own = mul-le tile.nx tile.ny 64 64 first.nx_most first.ny_most in
    omega arith

pub small_tiles : (tiles : List Tile) → 1 ≤ length tiles → length tiles ≤ 16 → All IsSmall tiles → AreTiles tiles
small_tiles tiles least most small =
    let cells = few_cells tiles small in
    record {
      least = least;
      most = most;
      each = λ k d below.
          let tile = small k d below in
          let nx = tile.nx_most in
          let ny = tile.ny_most in
          record { nx_least = tile.nx_least; nx_most = omega arith; ny_least = tile.ny_least; ny_most = omega arith };
      cells = omega arith;
    }
