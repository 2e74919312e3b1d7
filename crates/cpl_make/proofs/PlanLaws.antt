-- No rule of layouts, date and budget is broken by a made input.
use Rattle.std.proofs.Common.{◌≡◌, refl, sym, ◌∙◌, ap, Bool, true, false, cond, ltb, ◌==◌, ℕ, zero, suc, ◌+◌, ◌-◌, ◌*◌, ◌%◌, ◌<◌, ◌≤◌, arith, List, [], ◌∷◌, ◌++◌, map, length, Some, None}
use Rattle.std.specs.Prelude.{ℤ, pos, ◌+ℤ◌, ◌*ℤ◌, ◌≤ℤ◌, All}
use Rattle.std.specs.List.{position, position_from, range_with_len}
use Rattle.std.specs.Option.{option_map}
use Rattle.jiff.specs.Words.{days_in_month}
use Rattle.std.proofs.lemmas.Int.{ints}
use Rattle.std.proofs.lemmas.Bool.{cond-false, le-ltb, or_from}
use Rattle.std.proofs.lemmas.Iterator.Adapters.{position_from-zero}
use Rattle.std.proofs.lemmas.List.{map-append}
use Rattle.std.proofs.lemmas.List.Elements.{All-tail}
use Rattle.std.proofs.lemmas.List.FromFn.{fill_by_all}
use Rattle.std.proofs.lemmas.Nat.{mod-mul-add}
use Rattle.cpl_fixed.specs.Amounts.{amount, at}
use Rattle.cpl_fixed.specs.Totals.{total_of}
use Rattle.cpl_fixed.specs.declared.words.LayoutError.TheVariants.{TooFine}
use Rattle.cpl_fixed.specs.declared.limits.TheConstants.{MOST_PIECES}
use Rattle.cpl_mosaic.specs.declared.parts.Tile.{Tile}
use Rattle.cpl_mosaic.specs.Contacts.{IsTile, AreTiles}
use Rattle.cpl_layout.specs.Layouts.{layout_fault, is_too_fine}
use Rattle.cpl_xgrid.specs.Lists.{IsArea}
use Rattle.cpl_xgrid.proofs.Sums.{total_append}
use Rattle.cpl_namelist.specs.Civil.{date_from}
use Rattle.cpl_made_grid.proofs.Ranges.{range_split}
use Rattle.cpl_make.specs.declared.sections.Section.{Section}
use Rattle.cpl_make.specs.Sections.{number_at, made_section}
use Rattle.cpl_make.proofs.SectionLaws.{made_most, area_amount, area_at_place}

-- LAYOUTS

none_fine : (tiles : List Tile) (a : ℕ) → All IsTile tiles → position_from (is_too_fine 1 1) a tiles ≡ None
none_fine [] a are = refl
none_fine (tile ∷ tiles) a are =
    let is = are 0 tile (omega arith) in
    let coarse = or_from (ltb tile.nx 1) (ltb tile.ny 1) (le-ltb tile.nx 1 is.nx_least) (le-ltb tile.ny 1 is.ny_least) in
    cond-false (is_too_fine 1 1 tile) (Some a) (position_from (is_too_fine 1 1) (a + 1) tiles) coarse ∙ none_fine tiles (a + 1) (All-tail IsTile tile tiles are)

-- any tiles can be a piece each
pub layout_none : (tiles : List Tile) → AreTiles tiles → layout_fault tiles 1 1 ≡ None
layout_none tiles sizes =
    let most = sizes.most in
    let few : length tiles * 1 * 1 ≤ MOST_PIECES = omega arith in
    let none : position (is_too_fine 1 1) tiles ≡ None = position_from-zero (is_too_fine 1 1) tiles ∙ none_fine tiles 0 sizes.each in
    cond-false (ltb MOST_PIECES (length tiles * 1 * 1)) _ _ (le-ltb MOST_PIECES (length tiles * 1 * 1) few) ∙ ap (option_map TooFine) none

-- THE DATE

year_cond : (short twelve : Bool) (year day month more : ℕ) (next same : ℕ × ℕ × ℕ) → next.0 ≤ year + 1 + more → same.0 ≤ year + more
    → (cond short (year, month, day) (cond twelve next same)).0 ≤ year + suc more
year_cond true twelve year day month more next same n s = omega arith
year_cond false true year day month more next same n s = omega arith
year_cond false false year day month more next same n s = omega arith

-- no more years than days go by
pub year_from : (more year month days : ℕ) → (date_from more year month days).0 ≤ year + more
unfolding date_from
year_from zero year month days = omega arith
year_from (suc more) year month days =
    let next = year_from more (year + 1) 1 (days - days_in_month (pos year) month) in
    let same = year_from more year (month + 1) (days - days_in_month (pos year) month) in
    year_cond (ltb days (days_in_month (pos year) month)) (month == 12) year (days + 1) month more _ _ next same

-- SUMS

-- sums over a range that begins later
total_shift : (f : ℕ → ℤ) (a b n : ℕ) → total_of (map f (range_with_len (a + b) n)) ≡ total_of (map (λ k. f (a + k)) (range_with_len b n))
total_shift f a b zero = refl
total_shift f a b (suc n) =
    let next : a + b + 1 ≡ a + (b + 1) = omega arith in
    ap (λ (m : ℕ). f (a + b) +ℤ total_of (map f (range_with_len m n))) next ∙ ap (λ (z : ℤ). f (a + b) +ℤ z) (total_shift f a (b + 1) n)

total_range_most : (f g : ℕ → ℤ) (a n : ℕ) → ((k : ℕ) → a ≤ k → k < a + n → f k ≤ℤ g k) → total_of (map f (range_with_len a n)) ≤ℤ total_of (map g (range_with_len a n))
total_range_most f g a zero most = omega (arith, ints)
total_range_most f g a (suc n) most =
    let first = most a (omega arith) (omega arith) in
    let rest = total_range_most f g (a + 1) n (λ k le lt. most k (omega arith) (omega arith)) in
    omega (arith, ints, first, rest)

total_range_same : (f g : ℕ → ℤ) (a n : ℕ) → ((k : ℕ) → a ≤ k → k < a + n → f k ≡ g k) → total_of (map f (range_with_len a n)) ≡ total_of (map g (range_with_len a n))
total_range_same f g a zero same = refl
total_range_same f g a (suc n) same =
    let first = same a (omega arith) (omega arith) in
    let rest = total_range_same f g (a + 1) n (λ k le lt. same k (omega arith) (omega arith)) in
    λ i. first i +ℤ rest i

-- the areas of a layer sum to all areas
total_layer : (areas : List ℤ) (layer : ℕ) → total_of (map (λ place. at areas (place % length areas)) (range_with_len (layer * length areas) (length areas))) ≡ total_of areas
total_layer areas layer =
    let start : layer * length areas ≡ layer * length areas + 0 = omega arith in
    ap (λ (a : ℕ). total_of (map (λ place. at areas (place % length areas)) (range_with_len a (length areas)))) start
    ∙ total_shift (λ place. at areas (place % length areas)) (layer * length areas) 0 (length areas)
    ∙ total_range_same (λ k. at areas ((layer * length areas + k) % length areas)) (at areas) 0 (length areas) (λ k le lt. ap (at areas) (mod-mul-add layer (length areas) k (omega arith)))
    ∙ ap total_of (sym (fill_by_all (at areas) areas (length areas) (pos 0) refl (λ k below. refl)))

-- and those of all layers to as many times all areas
record IsLayered (areas : List ℤ) (layers : ℕ) : Type 0 where
  sum : (total : ℕ) → total_of areas ≡ pos total → total_of (map (λ place. at areas (place % length areas)) (range_with_len 0 (layers * length areas))) ≡ pos (layers * total)

total_layers : (areas : List ℤ) (layers : ℕ) → IsLayered areas layers
total_layers areas zero = record { sum = λ total is. let none : zero * total ≡ 0 = omega arith in let start : zero * length areas ≡ 0 = omega arith in ap (λ (n : ℕ). total_of (map (λ place. at areas (place % length areas)) (range_with_len 0 n))) start ∙ ap pos (sym none) }
total_layers areas (suc layers) = record {
  sum = λ total is.
      let f = λ (place : ℕ). at areas (place % length areas) in
      let more : suc layers * length areas ≡ layers * length areas + length areas = omega arith in
      let start : 0 + layers * length areas ≡ layers * length areas = omega arith in
      let count : suc layers * total ≡ layers * total + total = omega arith in
      let cut : total_of (map f (range_with_len 0 (suc layers * length areas))) ≡ total_of (map f (range_with_len 0 (layers * length areas))) +ℤ total_of (map f (range_with_len (layers * length areas) (length areas))) =
      ap (λ (n : ℕ). total_of (map f (range_with_len 0 n))) more
      ∙ ap (λ (l : List ℕ). total_of (map f l)) (range_split 0 (layers * length areas) (length areas) ∙ ap (λ (a : ℕ). range_with_len 0 (layers * length areas) ++ range_with_len a (length areas)) start)
      ∙ ap total_of (map-append f (range_with_len 0 (layers * length areas)) (range_with_len (layers * length areas) (length areas)))
      ∙ total_append (map f (range_with_len 0 (layers * length areas))) (map f (range_with_len (layers * length areas) (length areas))) in
      let last = total_layer areas layers in
      let rest = (total_layers areas layers).sum total is in
      omega (arith, ints, cut, last, rest, is, count);
}

scaled : (f : ℕ → ℤ) (ns : List ℕ) → total_of (map (λ k. pos 75000 *ℤ f k) ns) ≡ pos 75000 *ℤ total_of (map f ns)
scaled f [] = omega (arith, ints)
scaled f (k ∷ ks) = let rest = scaled f ks in omega (arith, ints, rest)

-- a section sums to at most 75,000 times its areas
pub section_total : (number : ℕ) (section : Section) (layers : ℕ) (areas : List ℤ) (total : ℕ) → All IsArea areas → total_of areas ≡ pos total → total_of (made_section number section layers areas) ≤ℤ pos (75000 * (layers * total))
unfolding made_section
section_total number section layers areas total are is =
    let all = (total_layers areas layers).sum total is in
    let each = total_range_most (number_at number section areas) (λ place. pos 75000 *ℤ at areas (place % length areas)) 0 (layers * length areas) (λ place le lt.
    let area = area_amount (at areas (place % length areas)) (area_at_place areas (place % length areas) are) in
    let same = area.0 in
    let most = made_most number section place (amount (at areas (place % length areas))) in
    omega (arith, ints, same, most)) in
    let times = scaled (λ place. at areas (place % length areas)) (range_with_len 0 (layers * length areas)) in
    omega (arith, ints, all, each, times)
