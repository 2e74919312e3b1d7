-- A state that keeps the rules is lawful, and a lawful state keeps the rules.
use Rattle.std.proofs.Common.{◌≡◌, ℕ, zero, suc, ◌+◌, ◌*◌, ◌/◌, ◌%◌, ◌<◌, Bool, true, false, List, [], ◌∷◌, length, Option, Some, None, Result, Ok, ℤ, pos, negsuc, refl, sym, ap, ◌∙◌, arith, inl, inr}
use Rattle.std.specs.Prelude.{All, ◌&&◌, ◌||◌, not, ◌≤ℤ◌, neg_ℤ}
use Rattle.std.specs.Int.Signed.{lt_z}
use Rattle.std.specs.Int.{w64}
use Rattle.std.specs.Int.RustNames.{FitsSigned}
use Rattle.std.specs.List.{AllByRecursion}
use Rattle.std.specs.Ordering.{int_eq}
use Rattle.std.proofs.lemmas.Bool.{cases_Bool, both_ways}
use Rattle.std.proofs.lemmas.Bool.Decides.{Decides-int_eq}
use Rattle.std.proofs.lemmas.Int.{ints}
use Rattle.std.proofs.lemmas.List.Elements.{All-from_recursion, All-from_get_or, recursion_from_All}
use Rattle.std.proofs.lemmas.Nat.{mod_below, div_below, mod-mul-add, div-mul-add, mul-add-lt}
use Rattle.std.proofs.Math.Nat.{mul_comm}
use Rattle.cpl_fixed.specs.Amounts.{at}
use Rattle.cpl_fixed.specs.Results.{◌>>=◌}
use Rattle.cpl_fixed.specs.Totals.{total_of}
use Rattle.cpl_fixed.specs.declared.limits.TheConstants.{MOST_FACE, PARTS}
use Rattle.cpl_mosaic.specs.declared.mosaic.Mesh.{Mesh}
use Rattle.cpl_mosaic.specs.Cells.{NumbersAgree}
use Rattle.cpl_mosaic.specs.Mates.{MatesAgree}
use Rattle.cpl_xgrid.specs.declared.grid.Grid.{Grid}
use Rattle.cpl_faces.specs.Faces.{AreFaces, face_in}
use Rattle.cpl_state.specs.Stored.{IsStored}
use Rattle.cpl_restart.specs.Sections.{no_negative}
use Rattle.cpl_state.specs.States.{cells_in, ocean_faces, face_count, layers, categories, part_count, HasLengths, AreStored, IsDry, IsWet, HasNone, HasNoneInLayers, IsDryFace, AreFaceNumbers, face_at, face_number, all_of_cell, IsWhole}
use Rattle.cpl_restart.specs.Lawful.{least, if_none, in_turn, signed_sections, no_negatives, spreads, is_dry, is_left, is_stray, no_stray, no_strays, spread, has_other_parts, whole_parts, is_walled, is_wrong, is_wrong_at, right_faces, judged}
use Rattle.cpl_restart.specs.declared.start_error.StartError.{StartError}
use Rattle.cpl_restart.specs.declared.start_error.StartError.TheVariants.{Parts, Dry, Wall}
use Rattle.cpl_state.specs.declared.whole.Whole.{Whole}
use Rattle.cpl_restart.proofs.AirLaws.{amounts, words}
use Rattle.cpl_restart.proofs.Cells.{face_on, one_each}
use Rattle.cpl_restart.proofs.Least.{least_none, none_least}
use Rattle.cpl_restart.proofs.Parts.{bind_at, bind_ok, not_true, signs_take, signs_again}
use Rattle.cpl_restart.proofs.Spots.{mod_is, split}
use Rattle.cpl_restart.proofs.Tests.{first_holds, one_fails, second_holds, neither_fails, all_fail, none_holds, holds_left, holds_right, not_less, from_not_less}

-- ---- tests in turn

pub turn_all : {T : Type 0} (test : T → Result (Unit {0}) StartError) (items : List T) → in_turn test items ≡ Ok tt → AllByRecursion (λ item. test item ≡ Ok tt) items
turn_all test [] e = tt
turn_all test (item ∷ items) e =
    let a = bind_ok (test item) (λ passed. in_turn test items) tt e in
    (a.1, turn_all test items a.2)

pub all_turn : {T : Type 0} (test : T → Result (Unit {0}) StartError) (items : List T) → AllByRecursion (λ item. test item ≡ Ok tt) items → in_turn test items ≡ Ok tt
all_turn test [] all = refl
all_turn test (item ∷ items) all = bind_at (test item) tt (λ passed. in_turn test items) all.0 ∙ all_turn test items all.1

none_found : (fault : ℕ → StartError) (o : Option ℕ) → if_none fault o ≡ Ok tt → o ≡ None
none_found fault None e = refl
none_found fault (Some n) e = absurd cc

passes : (fault : ℕ → StartError) (test : ℕ → Bool) (count : ℕ) → ((k : ℕ) → k < count → test k ≡ false) → if_none fault (least test count) ≡ Ok tt
passes fault test count all = ap (if_none fault) (least_none test count all)

passed : (fault : ℕ → StartError) (test : ℕ → Bool) (count k : ℕ) → if_none fault (least test count) ≡ Ok tt → k < count → test k ≡ false
passed fault test count k e lt = none_least test count k (none_found fault (least test count) e) lt

-- ---- signs

pub stored_take : (section : ℕ) (xs : List ℤ) → AllByRecursion (FitsSigned w64) xs → no_negative section xs ≡ Ok tt → All IsStored xs
stored_take section xs fits e = All-from_recursion IsStored xs (amounts xs fits (signs_take section xs e))

pub stored_again : (section : ℕ) (xs : List ℤ) → All IsStored xs → no_negative section xs ≡ Ok tt
stored_again section xs stored = signs_again section xs (words xs (recursion_from_All IsStored xs stored)).1

pub stored_fits : (xs : List ℤ) → All IsStored xs → AllByRecursion (FitsSigned w64) xs
stored_fits xs stored = (words xs (recursion_from_All IsStored xs stored)).0

-- ---- cells without an area

dry_is : (mesh : Mesh) (n : ℕ) → at mesh.area n ≡ pos 0 → is_dry mesh n ≡ true
dry_is mesh n e = (Decides-int_eq (at mesh.area n) (pos 0)).1 e

is_dry_at : (mesh : Mesh) (n : ℕ) → is_dry mesh n ≡ true → at mesh.area n ≡ pos 0
is_dry_at mesh n e = (Decides-int_eq (at mesh.area n) (pos 0)).0 e

zero_if_dry : (mesh : Mesh) (n : ℕ) (x : ℤ) → is_left mesh n x ≡ false → at mesh.area n ≡ pos 0 → x ≡ pos 0
zero_if_dry mesh n x e dry = (Decides-int_eq x (pos 0)).0 (first_holds (int_eq x (pos 0)) (is_dry mesh n) e (dry_is mesh n dry))

not_left : (mesh : Mesh) (n : ℕ) (x : ℤ) → (at mesh.area n ≡ pos 0 → x ≡ pos 0) → is_left mesh n x ≡ false
not_left mesh n x none = one_fails (int_eq x (pos 0)) (is_dry mesh n) (λ dry. (Decides-int_eq x (pos 0)).1 (none (is_dry_at mesh n dry)))

-- where a number of a cell stands
cell_place : (width cells n k : ℕ) → n < cells → k < width → (n * width + k) / width % cells ≡ n
cell_place width cells n k lt within = ap (λ (q : ℕ). q % cells) (div-mul-add n width k within) ∙ mod_is n cells 0 n lt (omega arith)

place_within : (width cells n k size : ℕ) → n < cells → k < width → size ≡ width * cells → n * width + k < size
place_within width cells n k size lt within is = rw is (mul-add-lt n width k cells lt within)

layer_place : (cells layer n : ℕ) → n < cells → (layer * cells + n) / 1 % cells ≡ n
layer_place cells layer n lt = ap (λ (q : ℕ). q % cells) (one_each (layer * cells + n)) ∙ mod-mul-add layer cells n lt

-- by cells: no stray number is left
cells_take : (section : ℕ) (mesh : Mesh) (width : ℕ) (xs : List ℤ) (n : ℕ) → length xs ≡ width * cells_in mesh → no_stray (spread section mesh width xs) ≡ Ok tt → IsDry mesh n → HasNone width n xs
cells_take section mesh width xs n size e dry = λ k within.
    let place = n * width + k in
    let test : is_stray mesh width xs place ≡ false = passed (Dry section) (is_stray mesh width xs) (length xs) place e (place_within width (cells_in mesh) n k (length xs) dry.0 within size) in
    let cell = cell_place width (cells_in mesh) n k dry.0 within in
    zero_if_dry mesh n (at xs place) (sym (ap (λ (m : ℕ). is_left mesh m (at xs place)) cell) ∙ test) dry.1

some_of : (n a b : ℕ) → n < a * b → 0 < a
some_of n zero b lt = absurd (omega arith)
some_of n (suc a) b lt = omega arith

cells_again : (section : ℕ) (mesh : Mesh) (width : ℕ) (xs : List ℤ) → length xs ≡ width * cells_in mesh → ((n : ℕ) → IsDry mesh n → HasNone width n xs) → no_stray (spread section mesh width xs) ≡ Ok tt
cells_again section mesh width xs size none = passes (Dry section) (is_stray mesh width xs) (length xs) (λ place lt.
    let cells = cells_in mesh in
    let n = place / width in
    let k = place % width in
    let within : place < width * cells = omega arith in
    let some : 0 < width = some_of place width cells within in
    let below : n < cells = div_below place width cells some (rw (mul_comm cells width) within) in
    let cell : n % cells ≡ n = mod_is n cells 0 n below (omega arith) in
    let inside : k < width = mod_below place width some in
    ap (λ (m : ℕ). is_left mesh m (at xs place)) cell ∙ not_left mesh n (at xs place) (λ dry. ap (at xs) (split place width) ∙ none n (below, dry) k inside))

-- by layers
layers_take : (section : ℕ) (mesh : Mesh) (layers : ℕ) (xs : List ℤ) (n : ℕ) → length xs ≡ layers * cells_in mesh → no_stray (spread section mesh 1 xs) ≡ Ok tt → IsDry mesh n → HasNoneInLayers layers (cells_in mesh) n xs
layers_take section mesh layers xs n size e dry = λ layer within.
    let cells = cells_in mesh in
    let place = layer * cells + n in
    let below : place < length xs = place_within cells layers layer n (length xs) within dry.0 (size ∙ mul_comm layers cells) in
    let test : is_stray mesh 1 xs place ≡ false = passed (Dry section) (is_stray mesh 1 xs) (length xs) place e below in
    zero_if_dry mesh n (at xs place) (sym (ap (λ (m : ℕ). is_left mesh m (at xs place)) (layer_place cells layer n dry.0)) ∙ test) dry.1

layers_again : (section : ℕ) (mesh : Mesh) (layers : ℕ) (xs : List ℤ) → length xs ≡ layers * cells_in mesh → ((n : ℕ) → IsDry mesh n → HasNoneInLayers layers (cells_in mesh) n xs) → no_stray (spread section mesh 1 xs) ≡ Ok tt
layers_again section mesh layers xs size none = passes (Dry section) (is_stray mesh 1 xs) (length xs) (λ place lt.
    let cells = cells_in mesh in
    let n = place % cells in
    let layer = place / cells in
    let within : place < layers * cells = omega arith in
    let some : 0 < cells = some_of place cells layers (rw (mul_comm cells layers) within) in
    let below : n < cells = mod_below place cells some in
    let inside : layer < layers = div_below place cells layers some within in
    let cell : place / 1 % cells ≡ n = ap (λ (q : ℕ). q % cells) (one_each place) in
    ap (λ (m : ℕ). is_left mesh m (at xs place)) cell ∙ not_left mesh n (at xs place) (λ dry. ap (at xs) (split place cells) ∙ none n (below, dry) layer inside))

-- a number for each cell
each_take : (section : ℕ) (mesh : Mesh) (xs : List ℤ) (n : ℕ) → length xs ≡ cells_in mesh → no_stray (spread section mesh 1 xs) ≡ Ok tt → IsDry mesh n → at xs n ≡ pos 0
each_take section mesh xs n size e dry =
    let all = layers_take section mesh 1 xs n (omega arith) e dry in
    let place : n ≡ 0 * cells_in mesh + n = omega arith in
    ap (at xs) place ∙ all 0 (omega arith)

each_again : (section : ℕ) (mesh : Mesh) (xs : List ℤ) → length xs ≡ cells_in mesh → ((n : ℕ) → IsDry mesh n → at xs n ≡ pos 0) → no_stray (spread section mesh 1 xs) ≡ Ok tt
each_again section mesh xs size none = layers_again section mesh 1 xs (omega arith) (λ n dry layer lt.
    let place : layer * cells_in mesh + n ≡ n = layer_zero layer (cells_in mesh) n lt in
    ap (at xs) place ∙ none n dry)
  where
    layer_zero : (layer cells n : ℕ) → layer < 1 → layer * cells + n ≡ n
    layer_zero zero cells n lt = omega arith
    layer_zero (suc layer) cells n lt = absurd (omega arith)

-- ---- parts

parts_take : (mesh : Mesh) (width : ℕ) (parts : List ℤ) (n : ℕ) → whole_parts mesh width parts ≡ Ok tt → IsWet mesh n → total_of (all_of_cell width n parts) ≡ PARTS
parts_take mesh width parts n e wet =
    let sum = total_of (all_of_cell width n parts) in
    let test : has_other_parts mesh width parts n ≡ false = passed Parts (has_other_parts mesh width parts) (cells_in mesh) n e wet.0 in
    let not_dry : is_dry mesh n ≡ false = not_true (is_dry mesh n) (λ d. wet.1 (is_dry_at mesh n d)) in
    (Decides-int_eq sum PARTS).0 (second_holds (is_dry mesh n) (int_eq sum PARTS) test not_dry)

parts_again : (mesh : Mesh) (width : ℕ) (parts : List ℤ) → ((n : ℕ) → IsWet mesh n → total_of (all_of_cell width n parts) ≡ PARTS) → whole_parts mesh width parts ≡ Ok tt
parts_again mesh width parts sums = passes Parts (has_other_parts mesh width parts) (cells_in mesh) (λ n lt.
    let sum = total_of (all_of_cell width n parts) in
    neither_fails (is_dry mesh n) (int_eq sum PARTS) (λ d. (Decides-int_eq sum PARTS).1 (sums n (lt, λ z. both_ways (is_dry mesh n) d (dry_is mesh n z)))))

-- ---- faces

walled_is : (grid : Grid) (face : ℕ) → IsDryFace grid face → is_walled grid.ocean (face_at grid face) ≡ true
walled_is grid face (inl dry) = holds_left (is_dry grid.ocean (face_at grid face).first) (is_dry grid.ocean (face_at grid face).second) (dry_is grid.ocean (face_at grid face).first dry.1)
walled_is grid face (inr dry) = holds_right (is_dry grid.ocean (face_at grid face).first) (is_dry grid.ocean (face_at grid face).second) (dry_is grid.ocean (face_at grid face).second dry.1)

second_of : (a b : Bool) → (a || b) ≡ true → a ≡ false → b ≡ true
second_of true b e f = absurd cc
second_of false b e f = e

is_dry_face : (grid : Grid) (face : ℕ) → (face_at grid face).first < cells_in grid.ocean → (face_at grid face).second < cells_in grid.ocean → is_walled grid.ocean (face_at grid face) ≡ true → IsDryFace grid face
is_dry_face grid face first second e = elim (cases_Bool (is_dry grid.ocean (face_at grid face).first)) [
  | inl dry ↦ inl (first, is_dry_at grid.ocean (face_at grid face).first dry)
  | inr wet ↦ inr (second, is_dry_at grid.ocean (face_at grid face).second (second_of (is_dry grid.ocean (face_at grid face).first) (is_dry grid.ocean (face_at grid face).second) e wet))
]

abbrev Fails : Grid → Whole → ℕ → ℕ → Type 0
Fails grid whole layer face =
    (lt_z (face_number grid whole layer face) (neg_ℤ MOST_FACE) ≡ false)
    × (lt_z MOST_FACE (face_number grid whole layer face) ≡ false)
    × ((not (int_eq (face_number grid whole layer face) (pos 0)) && is_walled grid.ocean (face_at grid face)) ≡ false)

face_fails : (grid : Grid) (whole : Whole) (layer face : ℕ) → length whole.faces ≡ layers grid * face_count grid → right_faces grid.ocean (ocean_faces grid) whole.faces ≡ Ok tt
    → layer < layers grid → face < face_count grid → Fails grid whole layer face
face_fails grid whole layer face size e within below =
    let faces = ocean_faces grid in
    let count = face_count grid in
    let place = layer * count + face in
    let inside : place < length whole.faces = place_within count (layers grid) layer face (length whole.faces) within below (size ∙ mul_comm (layers grid) count) in
    let test : is_wrong_at grid.ocean faces whole.faces place ≡ false = passed Wall (is_wrong_at grid.ocean faces whole.faces) (length whole.faces) place e inside in
    let here : is_wrong (is_walled grid.ocean (face_at grid face)) (at whole.faces place) ≡ false = sym (ap (λ (f : ℕ). is_wrong (is_walled grid.ocean (face_in faces f)) (at whole.faces place)) (mod-mul-add layer count face below)) ∙ test in
    all_fail _ _ _ here

faces_take : (grid : Grid) (whole : Whole) → length whole.faces ≡ layers grid * face_count grid → right_faces grid.ocean (ocean_faces grid) whole.faces ≡ Ok tt → AreFaceNumbers grid whole
faces_take grid whole size e = record {
  range = λ layer face within below.
      let u = face_number grid whole layer face in
      let fails = face_fails grid whole layer face size e within below in
      (not_less u (neg_ℤ MOST_FACE) fails.0, not_less MOST_FACE u fails.1);
  dry = λ layer face within below is.
      let u = face_number grid whole layer face in
      let fails = face_fails grid whole layer face size e within below in
      (Decides-int_eq u (pos 0)).0 (first_holds (int_eq u (pos 0)) (is_walled grid.ocean (face_at grid face)) fails.2 (walled_is grid face is));
}

faces_again : (grid : Grid) (whole : Whole) → NumbersAgree grid.ocean.mosaic.tiles → MatesAgree grid.ocean.mosaic → AreFaces grid.ocean.mosaic (ocean_faces grid)
    → length whole.faces ≡ layers grid * face_count grid → AreFaceNumbers grid whole → right_faces grid.ocean (ocean_faces grid) whole.faces ≡ Ok tt
faces_again grid whole numbers mates are size right = passes Wall (is_wrong_at grid.ocean (ocean_faces grid) whole.faces) (length whole.faces) (λ place lt.
    let count = face_count grid in
    let face = place % count in
    let layer = place / count in
    let within : place < layers grid * count = omega arith in
    let some : 0 < count = some_of place count (layers grid) (rw (mul_comm count (layers grid)) within) in
    let below : face < count = mod_below place count some in
    let inside : layer < layers grid = div_below place count (layers grid) some within in
    let u = at whole.faces place in
    let same : u ≡ face_number grid whole layer face = ap (at whole.faces) (split place count) in
    let range = right.range layer face inside below in
    let on = face_on grid.ocean (ocean_faces grid) face numbers mates are below in
    none_holds _ _ _
    (from_not_less u (neg_ℤ MOST_FACE) (rw same range.0))
    (from_not_less MOST_FACE u (rw same range.1))
    (one_fails (int_eq u (pos 0)) (is_walled grid.ocean (face_at grid face)) (λ walled. (Decides-int_eq u (pos 0)).1 (same ∙ right.dry layer face inside below (is_dry_face grid face on.0 on.1 walled)))))

number_fits : (u : ℤ) → neg_ℤ MOST_FACE ≤ℤ u → u ≤ℤ MOST_FACE → FitsSigned w64 u
number_fits (pos n) low high = let h : pos n ≤ℤ pos 1_099_511_627_776 = high in record { sfits = omega (arith, ints, h) }
number_fits (negsuc n) low high = let h : negsuc 1_099_511_627_775 ≤ℤ negsuc n = low in record { sfits = omega (arith, ints, h) }

faces_fit : (grid : Grid) (whole : Whole) → length whole.faces ≡ layers grid * face_count grid → AreFaceNumbers grid whole → AllByRecursion (FitsSigned w64) whole.faces
faces_fit grid whole size right = recursion_from_All (FitsSigned w64) whole.faces (All-from_get_or (FitsSigned w64) whole.faces (pos 0) (λ place lt.
    let count = face_count grid in
    let within : place < layers grid * count = omega arith in
    let some : 0 < count = some_of place count (layers grid) (rw (mul_comm count (layers grid)) within) in
    let range = right.range (place / count) (place % count) (div_below place count (layers grid) some within) (mod_below place count some) in
    let same : at whole.faces place ≡ face_number grid whole (place / count) (place % count) = ap (at whole.faces) (split place count) in
    rw same (number_fits (face_number grid whole (place / count) (place % count)) range.0 range.1)))

-- ---- the whole state

-- what is known of a grid
pub record Knows (grid : Grid) : Type 0 where
  pub numbers : NumbersAgree grid.ocean.mosaic.tiles
  pub mates : MatesAgree grid.ocean.mosaic
  pub faces : AreFaces grid.ocean.mosaic (ocean_faces grid)

-- the numbers of a state keep to 64 bits
pub record AllFit (whole : Whole) : Type 0 where
  pub elapsed : FitsSigned w64 whole.elapsed
  pub air_heat : AllByRecursion (FitsSigned w64) whole.air_heat
  pub air_vapour : AllByRecursion (FitsSigned w64) whole.air_vapour
  pub air_sun : AllByRecursion (FitsSigned w64) whole.air_sun
  pub land_heat : AllByRecursion (FitsSigned w64) whole.land_heat
  pub land_water : AllByRecursion (FitsSigned w64) whole.land_water
  pub parts : AllByRecursion (FitsSigned w64) whole.parts
  pub ice : AllByRecursion (FitsSigned w64) whole.ice
  pub ice_heat : AllByRecursion (FitsSigned w64) whole.ice_heat
  pub water : AllByRecursion (FitsSigned w64) whole.water
  pub heat : AllByRecursion (FitsSigned w64) whole.heat
  pub salt : AllByRecursion (FitsSigned w64) whole.salt
  pub faces : AllByRecursion (FitsSigned w64) whole.faces
  pub to_ice : AllByRecursion (FitsSigned w64) whole.to_ice
  pub to_ocean : AllByRecursion (FitsSigned w64) whole.to_ocean

first_stored : (x : ℤ) → All IsStored (x ∷ []) → IsStored x
first_stored x all = (recursion_from_All IsStored (x ∷ []) all).0

stored_of : (whole : Whole) → AllFit whole → no_negatives whole ≡ Ok tt → AreStored whole
stored_of whole fits e =
    let all = turn_all (λ (section : ℕ × List ℤ). no_negative section.0 section.1) (signed_sections whole) e in
    record {
      elapsed = first_stored whole.elapsed (stored_take 0 (whole.elapsed ∷ []) (fits.elapsed, tt) all.0);
      air_heat = stored_take 1 whole.air_heat fits.air_heat all.1.0;
      air_vapour = stored_take 2 whole.air_vapour fits.air_vapour all.1.1.0;
      air_sun = stored_take 3 whole.air_sun fits.air_sun all.1.1.1.0;
      land_heat = stored_take 4 whole.land_heat fits.land_heat all.1.1.1.1.0;
      land_water = stored_take 5 whole.land_water fits.land_water all.1.1.1.1.1.0;
      parts = stored_take 6 whole.parts fits.parts all.1.1.1.1.1.1.0;
      ice = stored_take 7 whole.ice fits.ice all.1.1.1.1.1.1.1.0;
      ice_heat = stored_take 8 whole.ice_heat fits.ice_heat all.1.1.1.1.1.1.1.1.0;
      water = stored_take 9 whole.water fits.water all.1.1.1.1.1.1.1.1.1.0;
      heat = stored_take 10 whole.heat fits.heat all.1.1.1.1.1.1.1.1.1.1.0;
      salt = stored_take 11 whole.salt fits.salt all.1.1.1.1.1.1.1.1.1.1.1.0;
      to_ice = stored_take 13 whole.to_ice fits.to_ice all.1.1.1.1.1.1.1.1.1.1.1.1.0;
      to_ocean = stored_take 14 whole.to_ocean fits.to_ocean all.1.1.1.1.1.1.1.1.1.1.1.1.1.0;
    }

from_stored : (whole : Whole) → AreStored whole → no_negatives whole ≡ Ok tt
from_stored whole stored =
    all_turn (λ (section : ℕ × List ℤ). no_negative section.0 section.1) (signed_sections whole) (
      stored_again 0 (whole.elapsed ∷ []) (All-from_recursion IsStored (whole.elapsed ∷ []) (stored.elapsed, tt)),
      (stored_again 1 whole.air_heat stored.air_heat, (stored_again 2 whole.air_vapour stored.air_vapour, (stored_again 3 whole.air_sun stored.air_sun, (stored_again 4 whole.land_heat stored.land_heat, (stored_again 5 whole.land_water stored.land_water, (stored_again 6 whole.parts stored.parts, (stored_again 7 whole.ice stored.ice, (stored_again 8 whole.ice_heat stored.ice_heat, (stored_again 9 whole.water stored.water, (stored_again 10 whole.heat stored.heat, (stored_again 11 whole.salt stored.salt, (stored_again 13 whole.to_ice stored.to_ice, (stored_again 14 whole.to_ocean stored.to_ocean, tt))))))))))))),
    )

pub lawful_is : (grid : Grid) (whole : Whole) → HasLengths grid whole → AllFit whole → judged grid whole ≡ Ok tt → IsWhole grid whole
lawful_is grid whole lengths fits e =
    let a = bind_ok (no_negatives whole) (λ signs. whole_parts grid.ocean (part_count grid) whole.parts >>= λ parts. no_strays grid whole >>= λ dry. right_faces grid.ocean (ocean_faces grid) whole.faces) tt e in
    let b = bind_ok (whole_parts grid.ocean (part_count grid) whole.parts) (λ parts. no_strays grid whole >>= λ dry. right_faces grid.ocean (ocean_faces grid) whole.faces) tt a.2 in
    let d = bind_ok (no_strays grid whole) (λ dry. right_faces grid.ocean (ocean_faces grid) whole.faces) tt b.2 in
    let dry = turn_all no_stray (spreads grid whole) d.1 in
    record {
      lengths = lengths;
      stored = stored_of whole fits a.1;
      parts = λ n wet. parts_take grid.ocean (part_count grid) whole.parts n b.1 wet;
      dry_land_heat = λ n is. each_take 4 grid.land whole.land_heat n lengths.land_heat dry.0 is;
      dry_land_water = λ n is. each_take 5 grid.land whole.land_water n lengths.land_water dry.1.0 is;
      dry_ocean = λ n is. record {
        parts = cells_take 6 grid.ocean (part_count grid) whole.parts n lengths.parts dry.1.1.0 is;
        ice = cells_take 7 grid.ocean (categories grid) whole.ice n lengths.ice dry.1.1.1.0 is;
        ice_heat = cells_take 8 grid.ocean (categories grid) whole.ice_heat n lengths.ice_heat dry.1.1.1.1.0 is;
        water = layers_take 9 grid.ocean (layers grid) whole.water n lengths.water dry.1.1.1.1.1.0 is;
        heat = layers_take 10 grid.ocean (layers grid) whole.heat n lengths.heat dry.1.1.1.1.1.1.0 is;
        salt = layers_take 11 grid.ocean (layers grid) whole.salt n lengths.salt dry.1.1.1.1.1.1.1.0 is;
        to_ice = cells_take 13 grid.ocean 5 whole.to_ice n lengths.to_ice dry.1.1.1.1.1.1.1.1.0 is;
        to_ocean = cells_take 14 grid.ocean 3 whole.to_ocean n lengths.to_ocean dry.1.1.1.1.1.1.1.1.1.0 is;
      };
      faces = faces_take grid whole lengths.faces d.2;
    }

pub is_lawful : (grid : Grid) (whole : Whole) → Knows grid → IsWhole grid whole → judged grid whole ≡ Ok tt
is_lawful grid whole knows is =
    let lengths = is.lengths in
    let dry : no_strays grid whole ≡ Ok tt = all_turn no_stray (spreads grid whole) (
    (each_again 4 grid.land whole.land_heat lengths.land_heat is.dry_land_heat, (each_again 5 grid.land whole.land_water lengths.land_water is.dry_land_water, (cells_again 6 grid.ocean (part_count grid) whole.parts lengths.parts (λ n dry. (is.dry_ocean n dry).parts), (cells_again 7 grid.ocean (categories grid) whole.ice lengths.ice (λ n dry. (is.dry_ocean n dry).ice), (cells_again 8 grid.ocean (categories grid) whole.ice_heat lengths.ice_heat (λ n dry. (is.dry_ocean n dry).ice_heat), (layers_again 9 grid.ocean (layers grid) whole.water lengths.water (λ n dry. (is.dry_ocean n dry).water), (layers_again 10 grid.ocean (layers grid) whole.heat lengths.heat (λ n dry. (is.dry_ocean n dry).heat), (layers_again 11 grid.ocean (layers grid) whole.salt lengths.salt (λ n dry. (is.dry_ocean n dry).salt), (cells_again 13 grid.ocean 5 whole.to_ice lengths.to_ice (λ n dry. (is.dry_ocean n dry).to_ice), (cells_again 14 grid.ocean 3 whole.to_ocean lengths.to_ocean (λ n dry. (is.dry_ocean n dry).to_ocean), tt))))))))))) in
    bind_at (no_negatives whole) tt (λ signs. whole_parts grid.ocean (part_count grid) whole.parts >>= λ parts. no_strays grid whole >>= λ dry. right_faces grid.ocean (ocean_faces grid) whole.faces) (from_stored whole is.stored)
    ∙ bind_at (whole_parts grid.ocean (part_count grid) whole.parts) tt (λ parts. no_strays grid whole >>= λ dry. right_faces grid.ocean (ocean_faces grid) whole.faces) (parts_again grid.ocean (part_count grid) whole.parts is.parts)
    ∙ bind_at (no_strays grid whole) tt (λ dry. right_faces grid.ocean (ocean_faces grid) whole.faces) dry
    ∙ faces_again grid whole knows.numbers knows.mates knows.faces lengths.faces is.faces

-- a lawful state keeps to 64 bits
pub all_fit : (grid : Grid) (whole : Whole) → IsWhole grid whole → AllFit whole
all_fit grid whole is = record {
  elapsed = (stored_fits (whole.elapsed ∷ []) (All-from_recursion IsStored (whole.elapsed ∷ []) (is.stored.elapsed, tt))).0;
  air_heat = stored_fits whole.air_heat is.stored.air_heat;
  air_vapour = stored_fits whole.air_vapour is.stored.air_vapour;
  air_sun = stored_fits whole.air_sun is.stored.air_sun;
  land_heat = stored_fits whole.land_heat is.stored.land_heat;
  land_water = stored_fits whole.land_water is.stored.land_water;
  parts = stored_fits whole.parts is.stored.parts;
  ice = stored_fits whole.ice is.stored.ice;
  ice_heat = stored_fits whole.ice_heat is.stored.ice_heat;
  water = stored_fits whole.water is.stored.water;
  heat = stored_fits whole.heat is.stored.heat;
  salt = stored_fits whole.salt is.stored.salt;
  faces = faces_fit grid whole is.lengths.faces is.faces;
  to_ice = stored_fits whole.to_ice is.stored.to_ice;
  to_ocean = stored_fits whole.to_ocean is.stored.to_ocean;
}
