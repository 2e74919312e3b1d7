-- The sections of made starts: their lengths, the range of their numbers, and their sums.
use Rattle.std.proofs.Common.{◌≡◌, refl, ◌∙◌, ap, Bool, true, false, cond, ◌&&◌, eqb, ℕ, zero, suc, ◌+◌, ◌*◌, ◌/◌, ◌%◌, ◌<◌, ◌≤◌, arith, List, length, inl, inr}
use Rattle.std.specs.Prelude.{ℤ, pos, negsuc, All, replicate}
use Rattle.std.specs.List.{range_with_len}
use Rattle.std.specs.Ordering.{int_eq}
use Rattle.std.proofs.lemmas.Int.{ints}
use Rattle.std.proofs.lemmas.Bool.{cases_lt, not_from_false, not_from_true, false_from_ne_true}
use Rattle.std.proofs.lemmas.Bool.Decides.{Decides-int_eq}
use Rattle.std.proofs.lemmas.Nat.{mod-mul-add, div-mul-add}
use Rattle.std.proofs.Math.Nat.{mul-le-mul_left, mul-le-mul_right}
use Rattle.std.proofs.lemmas.List.{get_or_past}
use Rattle.std.proofs.lemmas.List.Elements.{All-map}
use Rattle.std.proofs.lemmas.List.FromFn.{length-map-range_with_len, get_or-map-range_with_len}
use Rattle.cpl_fixed.specs.Amounts.{amount, at}
use Rattle.cpl_fixed.specs.declared.limits.TheConstants.{MOST_AREA, PARTS}
use Rattle.cpl_xgrid.specs.Lists.{IsArea}
use Rattle.cpl_state.specs.Stored.{IsStored}
use Rattle.cpl_state.specs.States.{of_cell}
use Rattle.cpl_made_grid.proofs.Ranges.{All-range}
use Rattle.cpl_made_grid.specs.Stream.{drawn}
use Rattle.cpl_made_grid.specs.declared.stream.Purpose.TheVariants as purpose
use Rattle.cpl_made_grid.specs.Outlets.{is_wet}
use Rattle.cpl_make.specs.declared.sections.Section.{Section}
use Rattle.cpl_make.specs.declared.sections.Section.TheVariants.{AirHeat, Vapour, Sun, LandHeat, LandWater, OceanWater, OceanHeat, Salt}
use Rattle.cpl_make.specs.Sections.{made_number, vapour_of, number_at, made_section, part_at, made_parts}

-- NUMBERS

-- products with a remainder
tenths : (area x : ℕ) → area * (x % 10) ≤ area * 9
tenths area x = mul-le-mul_left area (omega arith)

tenth : (area x : ℕ) → area * (x % 10) / 100 ≤ area
tenth area x = let h = tenths area x in omega arith

warm : (area x : ℕ) → area * (2700 + x % 300) ≤ area * 2999
warm area x = mul-le-mul_left area (omega arith)

sunny : (area x : ℕ) → area * (x % 8) ≤ area * 7
sunny area x = mul-le-mul_left area (omega arith)

moist : (area x : ℕ) → area * (x % 4) ≤ area * 3
moist area x = mul-le-mul_left area (omega arith)

warm_water : (area x : ℕ) → 50 * area * (1420 + x % 80) ≤ 50 * area * 1499
warm_water area x = mul-le-mul_left (50 * area) (omega arith)

vapour_most : (number place area : ℕ) → vapour_of number place area ≤ area
vapour_most number place area = tenth area (drawn number purpose.Vapour place)

-- a number is at most this many times its area
pub made_most : (number : ℕ) (section : Section) (place area : ℕ) → made_number number section place area ≤ 75000 * area
unfolding made_number
made_most number AirHeat place area =
    let vapour = vapour_most number place area in
    let heat = warm area (drawn number purpose.AirHeat place) in
    omega arith
made_most number Vapour place area = let vapour = vapour_most number place area in omega arith
made_most number Sun place area = let h = sunny area (drawn number purpose.Sun place) in omega arith
made_most number LandHeat place area = let heat = warm area (drawn number purpose.LandHeat place) in omega arith
made_most number LandWater place area = let h = moist area (drawn number purpose.LandWater place) in omega arith
made_most number OceanWater place area = omega arith
made_most number OceanHeat place area = let h = warm_water area (drawn number purpose.OceanHeat place) in omega arith
made_most number Salt place area = omega arith

-- areas as natural numbers
pub area_amount : (a : ℤ) → IsArea a → (pos (amount a) ≡ a) × (amount a ≤ MOST_AREA)
area_amount (pos n) is = (refl, omega (arith, ints, is.1))
area_amount (negsuc n) is = absurd (omega (arith, ints, is.0))

-- the area at any place
pub area_at_place : (areas : List ℤ) (n : ℕ) → All IsArea areas → IsArea (at areas n)
area_at_place areas n are = elim (cases_lt n (length areas)) [
  | inl below ↦ are n (pos 0) below
  | inr past ↦ let e = get_or_past areas n (pos 0) past in (omega (arith, ints, e), omega (arith, ints, e))
]

-- SECTIONS

pub section_length : (number : ℕ) (section : Section) (layers : ℕ) (areas : List ℤ) → length (made_section number section layers areas) ≡ layers * length areas
unfolding made_section
section_length number section layers areas = length-map-range_with_len (number_at number section areas) 0 (layers * length areas)

pub section_at : (number : ℕ) (section : Section) (layers : ℕ) (areas : List ℤ) (place : ℕ) → place < layers * length areas → at (made_section number section layers areas) place ≡ number_at number section areas place
unfolding made_section
section_at number section layers areas place below = get_or-map-range_with_len (number_at number section areas) 0 (layers * length areas) place place (pos 0) below (omega arith)

pub number_small : (number : ℕ) (section : Section) (areas : List ℤ) (place : ℕ) → All IsArea areas → IsStored (number_at number section areas place)
number_small number section areas place are =
    let area = area_amount (at areas (place % length areas)) (area_at_place areas (place % length areas) are) in
    let few = area.1 in
    let most = made_most number section place (amount (at areas (place % length areas))) in
    (omega (arith, ints), omega (arith, ints, few, most))

pub section_stored : (number : ℕ) (section : Section) (layers : ℕ) (areas : List ℤ) → All IsArea areas → All IsStored (made_section number section layers areas)
unfolding made_section
section_stored number section layers areas are =
    All-map IsStored (number_at number section areas) (range_with_len 0 (layers * length areas))
    (All-range (λ place. IsStored (number_at number section areas place)) 0 (layers * length areas) (λ place le lt. number_small number section areas place are))

-- a cell without an area has nothing
pub section_dry : (number : ℕ) (section : Section) (layers : ℕ) (areas : List ℤ) (place : ℕ) → place < layers * length areas → at areas (place % length areas) ≡ pos 0 → at (made_section number section layers areas) place ≡ pos 0
section_dry number section layers areas place below dry =
    let none : amount (at areas (place % length areas)) ≡ 0 = ap amount dry in
    let most = made_most number section place (amount (at areas (place % length areas))) in
    let zero_is : made_number number section place (amount (at areas (place % length areas))) ≡ 0 = omega arith in
    section_at number section layers areas place below ∙ ap pos zero_is

-- the place of a cell in a layer
pub in_layer_of : (cells layer n : ℕ) → n < cells → (layer * cells + n) % cells ≡ n
in_layer_of cells layer n below = mod-mul-add layer cells n below

pub layer_within : (layers cells layer n : ℕ) → layer < layers → n < cells → layer * cells + n < layers * cells
layer_within layers cells layer n layer_in n_in = let h : (layer + 1) * cells ≤ layers * cells = mul-le-mul_right cells (omega arith) in omega arith

-- PARTS

pub parts_length : (width : ℕ) (areas : List ℤ) → length (made_parts width areas) ≡ width * length areas
unfolding made_parts
parts_length width areas = length-map-range_with_len (part_at width areas) 0 (width * length areas)

pub parts_at_place : (width : ℕ) (areas : List ℤ) (place : ℕ) → place < width * length areas → at (made_parts width areas) place ≡ part_at width areas place
unfolding made_parts
parts_at_place width areas place below = get_or-map-range_with_len (part_at width areas) 0 (width * length areas) place place (pos 0) below (omega arith)

part_range : (b : Bool) → IsStored (cond b PARTS (pos 0))
part_range true = (omega (arith, ints), omega (arith, ints))
part_range false = (omega (arith, ints), omega (arith, ints))

pub parts_stored : (width : ℕ) (areas : List ℤ) → All IsStored (made_parts width areas)
unfolding made_parts
parts_stored width areas =
    All-map IsStored (part_at width areas) (range_with_len 0 (width * length areas))
    (All-range (λ place. IsStored (part_at width areas place)) 0 (width * length areas) (λ place le lt. part_range (eqb (place % width) 0 && is_wet areas (place / width))))

-- the parts of a cell: the first is all of it, where the cell has an area
pub part_of_cell : (width n k : ℕ) (areas : List ℤ) → k < width → n < length areas → of_cell width n k (made_parts width areas) ≡ cond (eqb k 0 && is_wet areas n) PARTS (pos 0)
part_of_cell width n k areas k_in n_in =
    let h : (n + 1) * width ≤ length areas * width = mul-le-mul_right width (omega arith) in
    let below : n * width + k < width * length areas = omega arith in
    let rest = mod-mul-add n width k k_in in
    let cell = div-mul-add n width k k_in in
    parts_at_place width areas (n * width + k) below ∙ (λ i. cond (eqb (rest i) 0 && is_wet areas (cell i)) PARTS (pos 0))

pub wet_is : (areas : List ℤ) (n : ℕ) → (at areas n ≡ pos 0 → ⊥) → is_wet areas n ≡ true
wet_is areas n wet = not_from_false (int_eq (at areas n) (pos 0)) (false_from_ne_true (int_eq (at areas n) (pos 0)) (λ e. wet ((Decides-int_eq (at areas n) (pos 0)).0 e)))

pub dry_is : (areas : List ℤ) (n : ℕ) → at areas n ≡ pos 0 → is_wet areas n ≡ false
dry_is areas n dry = not_from_true (int_eq (at areas n) (pos 0)) ((Decides-int_eq (at areas n) (pos 0)).1 dry)

-- ZEROS

pub zeros_at : (count n : ℕ) → at (replicate count (pos 0)) n ≡ pos 0
zeros_at zero n = refl
zeros_at (suc count) zero = refl
zeros_at (suc count) (suc n) = zeros_at count n
