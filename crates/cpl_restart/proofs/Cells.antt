-- Cells and faces of a mesh, and the numbers of a cell.
use Rattle.std.proofs.Common.{◌≡◌, ℕ, ◌+◌, ◌*◌, ◌/◌, ◌%◌, ◌<◌, ◌≤◌, List, [], ◌∷◌, length, take, drop, ℤ, pos, ap, sym, ◌∙◌, arith}
use Rattle.std.specs.Prelude.{map}
use Rattle.std.specs.List.{range_with_len}
use Rattle.std.proofs.lemmas.List.{length-take, length-drop, get_or_default, get_or-take, get_or-drop, ext_get_or}
use Rattle.std.proofs.lemmas.List.Elements.{recursion_from_All}
use Rattle.std.proofs.lemmas.List.FromFn.{length-map-range_with_len, get_or-map-range_with_len}
use Rattle.std.proofs.Math.Nat.{mul-le-mul_left, mul_comm}
use Rattle.std.proofs.lemmas.Nat.{mod_below, mul-add-lt}
use Rattle.cpl_mosaic.specs.declared.mosaic.Mesh.{Mesh}
use Rattle.cpl_mosaic.specs.declared.parts.Tile.{Tile}
use Rattle.cpl_mosaic.specs.declared.parts.Side.TheVariants.{W}
use Rattle.cpl_mosaic.specs.Contacts.{AreTiles, IsTile, cells_of}
use Rattle.cpl_mosaic.specs.Cells.{NumbersAgree}
use Rattle.cpl_mosaic.specs.Mates.{MatesAgree}
use Rattle.cpl_faces.specs.declared.face.Face.{Face}
use Rattle.cpl_faces.specs.Faces.{AreFaces, face_in}
use Rattle.cpl_restart.specs.Lawful.{IsFaceOn, spot_at}
use Rattle.cpl_state.specs.States.{all_of_cell, of_cell}
use Rattle.cpl_restart.specs.declared.lawful.Spot.{Spot}
use Rattle.cpl_restart.proofs.Spots.{div_is}

-- a mosaic has cells
pub some_cells : (tiles : List Tile) → AreTiles tiles → 0 < cells_of tiles
some_cells [] are = absurd (let h = are.least in omega arith)
some_cells (tile ∷ tiles) are =
    let first = (recursion_from_All IsTile (tile ∷ tiles) are.each).0 in
    let nx = first.nx_least in
    let ny = first.ny_least in
    omega (arith, mul-add-lt 0 tile.nx 0 tile.ny (omega arith) (omega arith))

pub cell_below : (width cells place : ℕ) (it : Spot) → 0 < cells → it ≡ spot_at width cells place → it.cell < cells
cell_below width cells place it some is =
    let cell : it.cell ≡ place / width % cells = ap (λ (s : Spot). s.cell) is in
    rw cell (mod_below (place / width) cells some)

pub one_each : (place : ℕ) → place / 1 ≡ place
one_each place = div_is place 1 place 0 (omega arith) (omega arith)

abbrev no_face : Face
no_face = record { first = 0; first_side = W; second = 0; second_side = W }

-- the cells of a listed face are of the mosaic
pub face_on : (mesh : Mesh) (faces : List Face) (n : ℕ) → NumbersAgree mesh.mosaic.tiles → MatesAgree mesh.mosaic → AreFaces mesh.mosaic faces → n < length faces → IsFaceOn mesh (face_in faces n)
face_on mesh faces n numbers mates are lt =
    let face = face_in faces n in
    let is = are.only face (n, lt, get_or_default faces n face no_face lt) in
    let first = numbers.below is.0.0 is.2.cell in
    let second = numbers.below is.1.0 (mates.within is.0 is.1 is.2.cell is.2.mate) in
    rw is.3 (first, second)

-- the numbers of a cell are a stretch of the list
pub all_is_front : (width n : ℕ) (xs : List ℤ) → n * width + width ≤ length xs → all_of_cell width n xs ≡ take width (drop (n * width) xs)
all_is_front width n xs le =
    let f : ℕ → ℤ = λ k. of_cell width n k xs in
    let size : length (map f (range_with_len 0 width)) ≡ width = length-map-range_with_len f 0 width in
    let room : length (take width (drop (n * width) xs)) ≡ width = omega (arith, length-take width (drop (n * width) xs), length-drop (n * width) xs) in
    ext_get_or (pos 0) (map f (range_with_len 0 width)) (take width (drop (n * width) xs)) (size ∙ sym room) (λ k lt.
    let within : k < width = omega arith in
    get_or-map-range_with_len f 0 width k k (pos 0) within (omega arith)
    ∙ sym (get_or-take width (drop (n * width) xs) k (pos 0) within ∙ get_or-drop (n * width) xs k (pos 0)))

-- a cell's numbers lie in the list
pub cell_room : (width n cells size : ℕ) → n < cells → size ≡ width * cells → n * width + width ≤ size
cell_room width n cells size lt is = omega (arith, mul-le-mul_left {m = n + 1} {n = cells} width (omega arith), mul_comm n width)
