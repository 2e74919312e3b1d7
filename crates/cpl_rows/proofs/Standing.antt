-- Numbers in the lists that edges carry: they rise, and where they stand.
use Rattle.std.proofs.Common.{◌≡◌, ◌∙◌, sym, ap, subst, ℕ, ◌+◌, ◌<◌, ◌≤◌, arith, List, [], ◌∷◌, ◌++◌, length, get_or, take, map, inl, inr, nat_cmp}
use Rattle.std.specs.Prelude.{Result, MatchResult, Err}
use Rattle.std.specs.List.Sorted.{IsBinarySearchResult}
use Rattle.std.proofs.lemmas.Bool.{cases_eq, cases_lt}
use Rattle.std.proofs.lemmas.List.{get_or-map, length-map, get_or-take, get_or_append_left, get_or_push, length_push, length-take-le, take_all}
use Rattle.std.proofs.lemmas.List.Sorted.{searched}
use Rattle.cpl_fixed.specs.declared.words.Component.TheVariants.{Atmos, Land, Ice, Ocean}
use Rattle.cpl_wires.specs.declared.parts.Purpose.{Purpose}
use Rattle.cpl_wires.specs.declared.parts.Purpose.TheVariants.{AirHalo, LandToAir, IceToAir, AirToLand, AirToIce, LandToIce, IceToOcean, OceanToIce, OceanHalo, Sums}
use Rattle.cpl_wires.specs.Settings.{Setting}
use Rattle.cpl_wires.specs.Pairs.{carried, is_between, sea_cells, land_rows_between, ice_rows_between, outlets_between, cells_between}
use Rattle.cpl_rows.specs.declared.place.RowPlace.{RowPlace}
use Rattle.cpl_rows.specs.Rows.{items_on}
use Rattle.cpl_rows.specs.Found.{IsRising, StandsIn, IsAt, AreAt}
use Rattle.cpl_rows.proofs.Listed.{numbers_rise}

-- THEY RISE

none_rises : IsRising []
none_rises i j h l = absurd (omega arith)

land_rises : (setting : Setting) (air land : ℕ) → IsRising (land_rows_between setting air land)
unfolding land_rows_between
land_rises setting air land = numbers_rise (λ row. is_between setting (air, Atmos, row.air) (land, Land, row.other)) 0 setting.grid.xgrid.land_rows

ice_rises : (setting : Setting) (air ice : ℕ) → IsRising (ice_rows_between setting air ice)
unfolding ice_rows_between
ice_rises setting air ice = numbers_rise (λ row. is_between setting (air, Atmos, row.air) (ice, Ice, row.other)) 0 setting.grid.xgrid.ocean_rows

outlets_rise : (setting : Setting) (land ice : ℕ) → IsRising (outlets_between setting land ice)
unfolding outlets_between
outlets_rise setting land ice = numbers_rise (λ outlet. is_between setting (land, Land, outlet.land) (ice, Ice, outlet.ocean)) 0 setting.grid.xgrid.outlets

cells_rise : (setting : Setting) (ice ocean : ℕ) → IsRising (cells_between setting ice ocean)
unfolding cells_between
cells_rise setting ice ocean = numbers_rise (λ cell. is_between setting (ice, Ice, cell) (ocean, Ocean, cell)) 0 (sea_cells setting)

pub carried_rises : (setting : Setting) (purpose : Purpose) (from to : ℕ) → IsRising (carried setting purpose from to)
carried_rises setting AirHalo from to = none_rises
carried_rises setting LandToAir from to = land_rises setting to from
carried_rises setting IceToAir from to = ice_rises setting to from
carried_rises setting AirToLand from to = land_rises setting from to
carried_rises setting AirToIce from to = ice_rises setting from to
carried_rises setting LandToIce from to = outlets_rise setting from to
carried_rises setting IceToOcean from to = cells_rise setting from to
carried_rises setting OceanToIce from to = cells_rise setting to from
carried_rises setting OceanHalo from to = none_rises
carried_rises setting Sums from to = none_rises

-- A SEARCH AMONG THEM

not_below : (numbers : List ℕ) → IsRising numbers → (i j : ℕ) → i ≤ j → j < length numbers → get_or numbers i 0 ≤ get_or numbers j 0
not_below numbers rising i j h l = elim (cases_eq i j) [
  | inl same ↦ let is = ap (λ (k : ℕ). get_or numbers k 0) same in omega arith
  | inr other ↦ let less = rising i j (omega arith) l in omega arith
]

pub not_there : (numbers : List ℕ) (number i : ℕ) (r : Result ℕ ℕ) → r ≡ Err i → IsBinarySearchResult (λ y. nat_cmp y number) numbers r → IsRising numbers → (k : ℕ) → k < length numbers
    → get_or numbers k 0 ≡ number → ⊥
not_there numbers number i r is found rising k l at =
    let told : MatchResult r (λ i. (i < length numbers) × (get_or numbers i 0 ≡ number)) (λ i. (i ≤ length numbers) × ((k : ℕ) → k < i → get_or numbers k 0 < number) × ((k : ℕ) → i ≤ k → k < length numbers → number < get_or numbers k 0)) =
    searched numbers number r found (not_below numbers rising) in
    let parts = subst (λ (q : Result ℕ ℕ). MatchResult q (λ i. (i < length numbers) × (get_or numbers i 0 ≡ number)) (λ i. (i ≤ length numbers) × ((k : ℕ) → k < i → get_or numbers k 0 < number) × ((k : ℕ) → i ≤ k → k < length numbers → number < get_or numbers k 0))) is told in
    elim (cases_lt k i) [
      | inl low ↦ let less = parts.1 k low in absurd (omega arith)
      | inr high ↦ let more = parts.2 k high l in absurd (omega arith)
    ]

-- WHERE THEY STAND

module _ (setting : Setting) (edges : List ℕ) where
  list_is : (s : ℕ) → s < length edges → get_or (map (items_on setting) edges) s [] ≡ items_on setting (get_or edges s 0)
  list_is s l = get_or-map (items_on setting) edges s 0 [] l

  pub stands_not : (item : ℕ) → StandsIn (map (items_on setting) edges) item
      → ((s k : ℕ) → s < length edges → k < length (items_on setting (get_or edges s 0)) → get_or (items_on setting (get_or edges s 0)) k 0 ≡ item → ⊥) → ⊥
  stands_not item it never =
      let long = length-map edges (items_on setting) in
      let known = it.known in
      let list = list_is it.edge (omega arith) in
      never it.edge it.place (omega arith) (subst (λ (xs : List ℕ). it.place < length xs) list it.within) (ap (λ (xs : List ℕ). get_or xs it.place 0) (sym list) ∙ it.is)

  pub found_at : (item s place : ℕ) (numbers : List ℕ) → s < length edges → numbers ≡ items_on setting (get_or edges s 0) → place < length numbers → get_or numbers place 0 ≡ item
      → IsAt (map (items_on setting) edges) item (record { edge = s; place = place })
  found_at item s place numbers l is within at =
      let long = length-map edges (items_on setting) in
      let list : numbers ≡ get_or (map (items_on setting) edges) s [] = is ∙ sym (list_is s l) in record {
        place = (omega arith, subst (λ (xs : List ℕ). place < length xs) list within);
        is = ap (λ (xs : List ℕ). get_or xs place 0) (sym list) ∙ at;
      }

-- one more
pub at_more : (lists : List (List ℕ)) (items : List ℕ) (n : ℕ) (places after : List RowPlace) (it : RowPlace) → n < length items → AreAt lists (take n items) places
    → IsAt lists (get_or items n 0) it → after ≡ places ++ it ∷ [] → AreAt lists (take (n + 1) items) after
at_more lists items n places after it l was is pushed =
    let size = was.size in
    let before = length-take-le n items (omega arith) in
    let long = length-take-le (n + 1) items (omega arith) in
    let more = length_push places it in
    let all = ap (λ (ps : List RowPlace). length ps) pushed in record {
      size = omega arith;
      each = λ m other h. elim (cases_lt m n) [
        | inl low ↦
            let number : get_or (take n items) m 0 ≡ get_or (take (n + 1) items) m 0 = get_or-take n items m 0 low ∙ sym (get_or-take (n + 1) items m 0 (omega arith)) in
            let place : get_or places m other ≡ get_or after m other = sym (get_or_append_left places (it ∷ []) other m (omega arith)) ∙ ap (λ (ps : List RowPlace). get_or ps m other) (sym pushed) in
            let here : IsAt lists (get_or (take n items) m 0) (get_or places m other) = was.each m other (omega arith) in
            subst (λ (number : ℕ). IsAt lists number (get_or after m other)) number (subst (λ (p : RowPlace). IsAt lists (get_or (take n items) m 0) p) place here)
        | inr high ↦
            let same : n ≡ m = omega arith in
            let number : get_or items n 0 ≡ get_or (take (n + 1) items) m 0 = ap (λ (k : ℕ). get_or items k 0) same ∙ sym (get_or-take (n + 1) items m 0 (omega arith)) in
            let place : it ≡ get_or after m other = sym (get_or_push places it other m (omega arith)) ∙ ap (λ (ps : List RowPlace). get_or ps m other) (sym pushed) in
            subst (λ (number : ℕ). IsAt lists number (get_or after m other)) number (subst (λ (p : RowPlace). IsAt lists (get_or items n 0) p) place is)
      ];
    }

-- all of them
pub at_all : (lists : List (List ℕ)) (items : List ℕ) (n : ℕ) (places : List RowPlace) → length items ≤ n → AreAt lists (take n items) places → AreAt lists items places
at_all lists items n places l are = subst (λ (xs : List ℕ). AreAt lists xs places) (take_all n items l) are
