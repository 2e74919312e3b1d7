-- The sums of all pieces together are the sums over all cells.
use Rattle.std.proofs.Common.{◌≡◌, ◌∙◌, refl, sym, ap, ℕ, zero, suc, ◌+◌, ◌-◌, ◌<◌, ◌≤◌, arith, List, [], ◌∷◌, length}
use Rattle.std.specs.Prelude.{ℤ, pos, ◌+ℤ◌, map, replicate}
use Rattle.std.specs.List.{flat_map, range_with_len}
use Rattle.std.proofs.lemmas.Int.{ints}
use Rattle.std.proofs.lemmas.List.{length-map}
use Rattle.cpl_fixed.specs.Totals.{total_of}
use Rattle.cpl_fixed.specs.declared.words.Component.{Component}
use Rattle.cpl_fixed.specs.declared.words.Component.TheVariants.{Atmos, Land, Ice, Ocean}
use Rattle.cpl_fixed.specs.declared.words.Quantity.{Quantity}
use Rattle.cpl_layout.specs.Layouts.{IsLayout}
use Rattle.cpl_layout.specs.Own.{own_cells}
use Rattle.cpl_layout.proofs.OwnCells.{own_cells_agree}
use Rattle.cpl_state.specs.States.{cells_in}
use Rattle.cpl_diffusion.proofs.Sums.{sum_to, total_range}
use Rattle.cpl_stocks.specs.declared.rows.Exchange.{Exchange}
use Rattle.cpl_stocks.specs.Partials.{each_sum, no_sums, row_sums}
use Rattle.cpl_wires.specs.Settings.{Setting, base_of, component_of, layout_of, mesh_of, piece_count, pieces_in}
use Rattle.cpl_wires.proofs.Members.{component_is}
use Rattle.cpl_rounds.specs.Rounds.{PlanParts}
use Rattle.cpl_plan.specs.Plans.{IsPlan, setting_of}
use Rattle.cpl_plan.specs.PieceSums.{all_sums, cells_of_own, exchange_columns, exchanges, part_sums, quantities, stock_columns, sums_below, sums_of}
use Rattle.cpl_plan.proofs.PieceShapes.{eight, four}

-- SUMS OF LISTS

each_assoc : (xs ys zs : List ℤ) → each_sum (each_sum xs ys) zs ≡ each_sum xs (each_sum ys zs)
each_assoc [] ys zs = refl
each_assoc (x ∷ xs) [] zs = refl
each_assoc (x ∷ xs) (y ∷ ys) [] = refl
each_assoc (x ∷ xs) (y ∷ ys) (z ∷ zs) =
    let first : (x +ℤ y) +ℤ z ≡ x +ℤ (y +ℤ z) = omega (arith, ints) in
    let rest = each_assoc xs ys zs in λ i. first i ∷ rest i

each_map : {X : Type 0} (f g : X → ℤ) (xs : List X) → each_sum (map f xs) (map g xs) ≡ map (λ x. f x +ℤ g x) xs
each_map f g [] = refl
each_map f g (x ∷ xs) = ap (λ (rest : List ℤ). (f x +ℤ g x) ∷ rest) (each_map f g xs)

-- with nothing, from either side
with_none : {X : Type 0} (numbers : List ℤ) (xs : List X) → length numbers ≡ length xs → each_sum numbers (map (λ x. pos 0) xs) ≡ numbers
with_none [] xs e = refl
with_none (z ∷ zs) [] e = absurd (omega arith)
with_none (z ∷ zs) (x ∷ xs) e =
    let first : z +ℤ pos 0 ≡ z = omega (arith, ints) in
    let rest = with_none zs xs (omega arith) in λ i. first i ∷ rest i

none_with : (width : ℕ) (numbers : List ℤ) → length numbers ≡ width → each_sum (replicate width (pos 0)) numbers ≡ numbers
none_with zero [] e = refl
none_with zero (z ∷ zs) e = absurd (omega arith)
none_with (suc width) [] e = absurd (omega arith)
none_with (suc width) (z ∷ zs) e =
    let first : pos 0 +ℤ z ≡ z = omega (arith, ints) in
    let rest = none_with width zs (omega arith) in λ i. first i ∷ rest i

each_long : (xs ys : List ℤ) (width : ℕ) → length xs ≡ width → length ys ≡ width → length (each_sum xs ys) ≡ width
each_long [] ys width e f = e
each_long (x ∷ xs) [] width e f = absurd (omega arith)
each_long (x ∷ xs) (y ∷ ys) zero e f = absurd (omega arith)
each_long (x ∷ xs) (y ∷ ys) (suc width) e f = ap suc (each_long xs ys width (omega arith) (omega arith))

replicate_long : (width : ℕ) → length (replicate width (pos 0)) ≡ width
replicate_long zero = refl
replicate_long (suc width) = ap suc (replicate_long width)

-- ONE ROW, PIECE BY PIECE

module _ (setting : Setting) (rules : (own : Component) → IsLayout (layout_of setting own)) (columns : Component → List (ℕ → ℤ)) (width : ℕ) (wide : (own : Component) → length (columns own) ≡ width) where
  -- what a piece has
  abbrev of_piece : ℕ → List ℤ
  of_piece piece = sums_of (cells_of_own setting piece) (columns (component_of setting piece))

  -- what the pieces below a number have
  abbrev pub row : ℕ → List ℤ
  row zero = replicate width (pos 0)
  row (suc piece) = each_sum (row piece) (of_piece piece)

  row_long : (piece : ℕ) → length (row piece) ≡ width
  row_long zero = replicate_long width
  row_long (suc piece) =
      each_long (row piece) (of_piece piece) width (row_long piece)
      (length-map (columns (component_of setting piece)) (λ column. total_of (map column (cells_of_own setting piece))) ∙ wide (component_of setting piece))

  -- the sum of a column over the cells of a piece of a component
  abbrev over_own : Component → (ℕ → ℤ) → ℕ → ℤ
  over_own own column k = total_of (map column (own_cells (layout_of setting own) k))

  -- what the first pieces of a component have
  abbrev block : Component → ℕ → List ℤ
  block own m = map (λ column. sum_to (over_own own column) m) (columns own)

  of_component : (own : Component) (m : ℕ) → m < pieces_in setting own → of_piece (base_of setting own + m) ≡ map (λ column. over_own own column m) (columns own)
  of_component own m l =
      let is = component_is setting own (base_of setting own + m) (omega arith) (omega arith) in
      let back : (base_of setting own + m) - base_of setting own ≡ m = omega arith in
      (λ i. sums_of (own_cells (layout_of setting (is i)) ((base_of setting own + m) - base_of setting (is i))) (columns (is i)))
      ∙ ap (λ (k : ℕ). sums_of (own_cells (layout_of setting own) k) (columns own)) back

  up : (own : Component) (m : ℕ) → m ≤ pieces_in setting own → row (base_of setting own + m) ≡ each_sum (row (base_of setting own)) (block own m)
  up own zero l =
      let same : base_of setting own + 0 ≡ base_of setting own = omega arith in
      ap row same ∙ sym (with_none (row (base_of setting own)) (columns own) (row_long (base_of setting own) ∙ sym (wide own)))
  up own (suc m) l =
      let base = base_of setting own in
      let next : base + suc m ≡ suc (base + m) = omega arith in
      let before = up own m (omega arith) in
      let one = of_component own m l in
      ap row next
      ∙ (λ i. each_sum (before i) (one i))
      ∙ each_assoc (row base) (block own m) (map (λ column. over_own own column m) (columns own))
      ∙ ap (each_sum (row base)) (each_map (λ column. sum_to (over_own own column) m) (λ column. over_own own column m) (columns own))

  -- what all cells of a component have
  abbrev of_all : Component → List ℤ
  of_all own = sums_of (range_with_len 0 (cells_in (mesh_of setting.grid own))) (columns own)

  all_of : (own : Component) → block own (pieces_in setting own) ≡ of_all own
  unfolding pieces_in
  all_of own =
      let sums = (own_cells_agree (layout_of setting own) (rules own)).sums in
      λ i. map (λ column. (sym (total_range (over_own own column) (pieces_in setting own)) ∙ sym (sums column)) i) (columns own)

  through : (own : Component) → row (base_of setting own + pieces_in setting own) ≡ each_sum (row (base_of setting own)) (of_all own)
  through own = up own (pieces_in setting own) (omega arith) ∙ ap (each_sum (row (base_of setting own))) (all_of own)

  all_long : (own : Component) → length (of_all own) ≡ width
  all_long own = length-map (columns own) (λ column. total_of (map column (range_with_len 0 (cells_in (mesh_of setting.grid own))))) ∙ wide own

  pub all_row : row (piece_count setting) ≡ each_sum (each_sum (each_sum (of_all Atmos) (of_all Land)) (of_all Ice)) (of_all Ocean)
  all_row =
      let first : 0 + pieces_in setting Atmos ≡ pieces_in setting Atmos = omega arith in
      let air = ap row (sym first) ∙ through Atmos ∙ none_with width (of_all Atmos) (all_long Atmos) in
      let land = through Land ∙ ap (λ (before : List ℤ). each_sum before (of_all Land)) air in
      let ice = through Ice ∙ ap (λ (before : List ℤ). each_sum before (of_all Ice)) land in
      through Ocean ∙ ap (λ (before : List ℤ). each_sum before (of_all Ocean)) ice

-- ALL ROWS

module _ (plan : PlanParts) (is : IsPlan plan) (n : ℕ) where
  abbrev stock_row : Quantity → ℕ → List ℤ
  stock_row quantity piece = row (setting_of plan) is.layouts (λ own. stock_columns plan n own quantity) 8 (λ own. eight plan n own quantity) piece

  abbrev exchange_row : Exchange → Quantity → ℕ → List ℤ
  exchange_row exchange quantity piece = row (setting_of plan) is.layouts (λ own. exchange_columns plan n own exchange quantity) 4 (λ own. four plan n own exchange quantity) piece

  stock_rows : (piece : ℕ) → (sums_below plan n piece).stocks ≡ map (λ quantity. stock_row quantity piece) quantities
  unfolding no_sums part_sums
  stock_rows zero = refl
  stock_rows (suc piece) = ap (λ (before : List (List ℤ)). row_sums before (part_sums plan piece n).stocks) (stock_rows piece)

  exchange_rows : (piece : ℕ) → (sums_below plan (suc n) piece).exchanges ≡ flat_map (λ exchange. map (λ quantity. exchange_row exchange quantity piece) quantities) exchanges
  unfolding no_sums part_sums
  exchange_rows zero = refl
  exchange_rows (suc piece) = ap (λ (before : List (List ℤ)). row_sums before (part_sums plan piece (suc n)).exchanges) (exchange_rows piece)

  all_stocks : (sums_below plan n (piece_count (setting_of plan))).stocks ≡ (all_sums plan n).stocks
  all_stocks =
      stock_rows (piece_count (setting_of plan))
      ∙ (λ i. map (λ quantity. all_row (setting_of plan) is.layouts (λ own. stock_columns plan n own quantity) 8 (λ own. eight plan n own quantity) i) quantities)

  all_exchanges : (sums_below plan (suc n) (piece_count (setting_of plan))).exchanges ≡ (all_sums plan (suc n)).exchanges
  all_exchanges =
      exchange_rows (piece_count (setting_of plan))
      ∙ (λ i. flat_map (λ exchange. map (λ quantity. all_row (setting_of plan) is.layouts (λ own. exchange_columns plan n own exchange quantity) 4 (λ own. four plan n own exchange quantity) i) quantities) exchanges)

-- nothing was exchanged before the first coupling step
none_before : (plan : PlanParts) (piece : ℕ) → (sums_below plan 0 piece).exchanges ≡ no_sums.exchanges
unfolding no_sums part_sums
none_before plan zero = refl
none_before plan (suc piece) = ap (λ (before : List (List ℤ)). row_sums before no_sums.exchanges) (none_before plan piece)

none_at_all : (plan : PlanParts) → no_sums.exchanges ≡ (all_sums plan 0).exchanges
unfolding no_sums
none_at_all plan = refl

all_exchanged : (plan : PlanParts) → IsPlan plan → (n : ℕ) → (sums_below plan n (piece_count (setting_of plan))).exchanges ≡ (all_sums plan n).exchanges
all_exchanged plan is zero = none_before plan (piece_count (setting_of plan)) ∙ none_at_all plan
all_exchanged plan is (suc n) = all_exchanges plan is n

pub gathered : (plan : PlanParts) → IsPlan plan → (n : ℕ) → sums_below plan n (piece_count (setting_of plan)) ≡ all_sums plan n
gathered plan is n =
    let stocks = all_stocks plan is n in
    let exchanged = all_exchanged plan is n in
    λ i. record { stocks = stocks i; exchanges = exchanged i }
