-- The areas of the land and of the ocean sum to the whole line.
use Rattle.std.proofs.Common.{◌≡◌, refl, sym, ◌∙◌, ap, Bool, cond, not, eqb, ℕ, zero, suc, ◌+◌, ◌*◌, ◌<◌, ◌≤◌, arith, List, [], ◌∷◌, map}
use Rattle.std.specs.Prelude.{ℤ, pos, ◌+ℤ◌, All, replicate}
use Rattle.std.specs.List.{filter, flat_map, range_with_len}
use Rattle.std.proofs.lemmas.Int.{ints}
use Rattle.std.proofs.lemmas.Bool.{eq-eqb, ne_eqb}
use Rattle.std.proofs.lemmas.Simd.{map-map}
use Rattle.std.proofs.lemmas.List.{map-append}
use Rattle.std.proofs.lemmas.List.Elements.{All-tail}
use Rattle.cpl_fixed.specs.Totals.{total_of}
use Rattle.cpl_mosaic.specs.declared.parts.Tile.{Tile}
use Rattle.cpl_mosaic.specs.Sides.{IsCellOf}
use Rattle.cpl_mosaic.specs.Contacts.{cells_of}
use Rattle.cpl_mosaic.specs.Cells.{NumbersAgree, cell_of, number_of}
use Rattle.cpl_xgrid.specs.declared.parts.XRow.{XRow}
use Rattle.cpl_xgrid.specs.Rows.{area_of, other_cell}
use Rattle.cpl_xgrid.proofs.CellNumbers.{test_agrees}
use Rattle.cpl_xgrid.proofs.Sums.{total_append}
use Rattle.cpl_made_grid.specs.declared.recipe.Recipe.{Recipe}
use Rattle.cpl_made_grid.specs.Shapes.{sphere_tiles, ocean_tiles, air_count, ocean_count}
use Rattle.cpl_made_grid.specs.Shares.{IsSized}
use Rattle.cpl_made_grid.specs.Overlaps.{overlap, under, is_land, land_row, ocean_row, land_rows_of, ocean_rows_of, land_rows, ocean_rows}
use Rattle.cpl_made_grid.specs.Areas.{sums_of, land_areas, ocean_areas}
use Rattle.cpl_made_grid.proofs.Ranges.{total_one, total_nothing, total_split}
use Rattle.cpl_made_grid.proofs.Cuts.{parts_sum}
use Rattle.cpl_made_grid.proofs.RowLaws.{area_cons, land_rows_are, ocean_rows_are, sphere_numbers, ocean_numbers, parts_at, under_is}

abbrev area_in : XRow → ℤ
area_in row = row.area

-- two sums at once
total_both : (f g : ℕ → ℤ) (ns : List ℕ) → total_of (map (λ n. f n +ℤ g n) ns) ≡ total_of (map f ns) +ℤ total_of (map g ns)
total_both f g [] = omega (arith, ints)
total_both f g (n ∷ ns) = let rest = total_both f g ns in omega (arith, ints, rest)

total_same : (f g : ℕ → ℤ) (a n : ℕ) → ((k : ℕ) → a ≤ k → k < a + n → f k ≡ g k) → total_of (map f (range_with_len a n)) ≡ total_of (map g (range_with_len a n))
total_same f g a zero same = refl
total_same f g a (suc n) same =
    let first = same a (omega arith) (omega arith) in
    let rest = total_same f g (a + 1) n (λ k le lt. same k (omega arith) (omega arith)) in
    λ i. first i +ℤ rest i

pub total_replicate : (n x : ℕ) → total_of (replicate n (pos x)) ≡ pos (n * x)
total_replicate zero x = let none : zero * x ≡ 0 = omega arith in ap pos (sym none)
total_replicate (suc n) x =
    let rest = total_replicate n x in
    let more : suc n * x ≡ x + n * x = omega arith in
    omega (arith, ints, rest, more)

-- what the cells have sums to what the exchange cells have
pub total_sums : (tiles : List Tile) (rows : List XRow) → NumbersAgree tiles → All (λ (row : XRow). IsCellOf tiles row.other) rows → total_of (sums_of tiles rows) ≡ total_of (map area_in rows)
total_sums tiles [] agree cells = total_nothing (λ n. pos 0) 0 (cells_of tiles) (λ k le lt. refl)
total_sums tiles (row ∷ rows) agree cells =
    let cell = cells 0 row (omega arith) in
    let below = agree.below row.other cell in
    let own = λ (n : ℕ). cond (eqb (number_of tiles row.other) n) row.area (pos 0) in
    let others = λ (n : ℕ). area_of other_cell (cell_of tiles n) rows in
    let split = total_same (λ n. area_of other_cell (cell_of tiles n) (row ∷ rows)) (λ n. own n +ℤ others n) 0 (cells_of tiles) (λ n le lt.
    area_cons other_cell (cell_of tiles n) row rows (eqb (number_of tiles row.other) n) (sym (test_agrees tiles row.other n agree cell (omega arith)))) in
    let both = total_both own others (range_with_len 0 (cells_of tiles)) in
    let one = total_one own 0 (cells_of tiles) (number_of tiles row.other) (omega arith) (omega arith) (λ n le lt other. ap (λ (b : Bool). cond b row.area (pos 0)) (ne_eqb (number_of tiles row.other) n (λ e. other (sym e)))) in
    let here : own (number_of tiles row.other) ≡ row.area = ap (λ (b : Bool). cond b row.area (pos 0)) (eq-eqb (number_of tiles row.other) (number_of tiles row.other) refl) in
    let rest = total_sums tiles rows agree (All-tail (λ (r : XRow). IsCellOf tiles r.other) row rows cells) in
    omega (arith, ints, split, both, one, here, rest)

-- ALL EXCHANGE CELLS

module _ (recipe : Recipe) (sized : IsSized recipe.size) where
  abbrev lap : ℕ → ℕ → ℤ
  lap a o = pos (overlap recipe.size a o)

  land_of : (a : ℕ) → total_of (map area_in (land_rows_of recipe a)) ≡ total_of (map (lap a) (filter (is_land recipe a) (under recipe.size a)))
  unfolding land_rows_of
  land_of a = ap total_of (map-map area_in (land_row recipe.size a) (filter (is_land recipe a) (under recipe.size a)))

  ocean_of : (a : ℕ) → total_of (map area_in (ocean_rows_of recipe a)) ≡ total_of (map (lap a) (filter (λ o. not (is_land recipe a o)) (under recipe.size a)))
  unfolding ocean_rows_of
  ocean_of a = ap total_of (map-map area_in (ocean_row recipe.size a) (filter (λ o. not (is_land recipe a o)) (under recipe.size a)))

  -- those of one cell of the air
  both_of : (a : ℕ) → a < air_count recipe.size → total_of (map area_in (land_rows_of recipe a)) +ℤ total_of (map area_in (ocean_rows_of recipe a)) ≡ pos (ocean_count recipe.size)
  both_of a a_in =
      let land = land_of a in
      let ocean = ocean_of a in
      let both = total_split (lap a) (is_land recipe a) (under recipe.size a) in
      let all : total_of (map (lap a) (under recipe.size a)) ≡ pos (ocean_count recipe.size) =
      ap (λ (l : List ℕ). total_of (map (lap a) l)) (under_is recipe.size a sized a_in) ∙ parts_sum (air_count recipe.size) (ocean_count recipe.size) a (parts_at recipe.size a sized a_in) in
      omega (arith, ints, land, ocean, both, all)

  total_flat : (f : ℕ → List XRow) (a n : ℕ) → total_of (map area_in (flat_map f (range_with_len a (suc n)))) ≡ total_of (map area_in (f a)) +ℤ total_of (map area_in (flat_map f (range_with_len (a + 1) n)))
  total_flat f a n = ap total_of (map-append area_in (f a) (flat_map f (range_with_len (a + 1) n))) ∙ total_append (map area_in (f a)) (map area_in (flat_map f (range_with_len (a + 1) n)))

  both_upto : (a n : ℕ) → a + n ≤ air_count recipe.size → total_of (map area_in (flat_map (land_rows_of recipe) (range_with_len a n))) +ℤ total_of (map area_in (flat_map (ocean_rows_of recipe) (range_with_len a n))) ≡ pos (n * ocean_count recipe.size)
  both_upto a zero within = let none : zero * ocean_count recipe.size ≡ 0 = omega arith in omega (arith, ints, none)
  both_upto a (suc n) within =
      let own = both_of a (omega arith) in
      let rest = both_upto (a + 1) n (omega arith) in
      let land = total_flat (land_rows_of recipe) a n in
      let ocean = total_flat (ocean_rows_of recipe) a n in
      let more : suc n * ocean_count recipe.size ≡ n * ocean_count recipe.size + ocean_count recipe.size = omega arith in
      omega (arith, ints, own, rest, land, ocean, more)

  -- the areas of the land and of the ocean together
  pub areas_sum : total_of (land_areas recipe) +ℤ total_of (ocean_areas recipe) ≡ pos (air_count recipe.size * ocean_count recipe.size)
  unfolding land_areas ocean_areas land_rows ocean_rows
  areas_sum =
      let land = total_sums (sphere_tiles recipe.size) (land_rows recipe) (sphere_numbers recipe.size sized) (λ k d below. (land_rows_are recipe sized k d below).cell) in
      let ocean = total_sums (ocean_tiles recipe.size) (ocean_rows recipe) (ocean_numbers recipe.size sized) (λ k d below. (ocean_rows_are recipe sized k d below).cell) in
      let both = both_upto 0 (air_count recipe.size) (omega arith) in
      omega (arith, ints, land, ocean, both)
