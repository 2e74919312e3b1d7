-- The sums of a piece are partial sums, of 168 words.
use Rattle.std.proofs.Common.{◌≡◌, ◌∙◌, refl, ℕ, zero, suc, ◌*◌, arith, List, [], ◌∷◌, length, get_or}
use Rattle.std.specs.Prelude.{All, ℤ, pos, map, replicate}
use Rattle.std.specs.List.{flat_map}
use Rattle.std.proofs.lemmas.List.{length-append, length-map}
use Rattle.std.proofs.lemmas.List.Elements.{All-append, All-cons, All-head, All-map, All-nil, All-tail}
use Rattle.cpl_fixed.specs.Totals.{total_of}
use Rattle.cpl_fixed.specs.declared.words.Component.{Component}
use Rattle.cpl_fixed.specs.declared.words.Component.TheVariants as component
use Rattle.cpl_fixed.specs.declared.words.Quantity.{Quantity}
use Rattle.cpl_stocks.specs.declared.partial.Partial.{Partial}
use Rattle.cpl_stocks.specs.declared.rows.Exchange.{Exchange}
use Rattle.cpl_stocks.specs.declared.rows.Exchange.TheVariants.{AirLand, AirIce, LandIce, OceanIce, IceOcean}
use Rattle.cpl_stocks.specs.Partials.{AreRows, HasShape, in_rows, no_sums, numbers_of, words_of, words_of_numbers}
use Rattle.cpl_rounds.specs.Rounds.{PlanParts}
use Rattle.cpl_plan.specs.PieceSums.{exchange_columns, exchange_sums, exchanges, part_sums, quantities, stock_columns, stock_sums, sums_of}

-- ROWS OF ONE WIDTH

all_flat : {X Y : Type 0} (P : Y → Type 0) (f : X → List Y) → ((x : X) → All P (f x)) → (xs : List X) → All P (flat_map f xs)
all_flat P f each [] = All-nil P
all_flat P f each (x ∷ xs) = All-append P (f x) (flat_map f xs) (each x) (all_flat P f each xs)

all_alike : {X : Type 0} (P : X → Type 0) (x : X) → P x → (n : ℕ) → All P (replicate n x)
all_alike P x own zero = All-nil P
all_alike P x own (suc n) = All-cons P x (replicate n x) own (all_alike P x own n)

rows_long : (width : ℕ) (rows : List (List ℤ)) → All (λ row. length row ≡ width) rows → length (in_rows rows) ≡ length rows * width
rows_long width [] all = omega arith
rows_long width (row ∷ rows) all =
    let own : length row ≡ width = All-head (λ row. length row ≡ width) row rows all in
    let others = rows_long width rows (All-tail (λ row. length row ≡ width) row rows all) in
    let both = length-append row (in_rows rows) in
    omega (arith, own, others, both)

words_long : (xs : List ℤ) → length (words_of_numbers xs) ≡ 2 * length xs
unfolding words_of_numbers
words_long [] = omega arith
words_long (x ∷ xs) = let rest = words_long xs in omega (arith, rest)

shape_long : (partial : Partial) → HasShape partial → length (words_of partial) ≡ 168
shape_long partial shape =
    let stocks = rows_long 8 partial.stocks shape.stocks.numbers in
    let exchanges = rows_long 4 partial.exchanges shape.exchanges.numbers in
    let rows = shape.stocks.rows in
    let more = shape.exchanges.rows in
    let both = length-append (in_rows partial.stocks) (in_rows partial.exchanges) in
    let all = words_long (numbers_of partial) in
    omega (arith, stocks, exchanges, rows, more, both, all)

-- THE SUMS OF A PIECE

module _ (plan : PlanParts) (n : ℕ) where
  pub eight : (own : Component) (quantity : Quantity) → length (stock_columns plan n own quantity) ≡ 8
  eight component.Atmos quantity = refl
  eight component.Land quantity = refl
  eight component.Ice quantity = refl
  eight component.Ocean quantity = refl

  pub four : (own : Component) (exchange : Exchange) (quantity : Quantity) → length (exchange_columns plan n own exchange quantity) ≡ 4
  four component.Atmos AirLand quantity = refl
  four component.Land AirLand quantity = refl
  four component.Atmos AirIce quantity = refl
  four component.Ice AirIce quantity = refl
  four component.Land LandIce quantity = refl
  four component.Ice LandIce quantity = refl
  four component.Ocean OceanIce quantity = refl
  four component.Ice OceanIce quantity = refl
  four component.Ice IceOcean quantity = refl
  four component.Ocean IceOcean quantity = refl
  four _ _ quantity = refl

  stocks_shape : (own : Component) (cells : List ℕ) → AreRows 3 8 (stock_sums plan n own cells)
  stocks_shape own cells = record {
    rows = refl;
    numbers = All-map (λ row. length row ≡ 8) (λ quantity. sums_of cells (stock_columns plan n own quantity)) quantities
        (λ k d h. length-map (stock_columns plan n own (get_or quantities k d)) (λ column. total_of (map column cells)) ∙ eight own (get_or quantities k d));
  }

  one_exchange : (own : Component) (cells : List ℕ) (exchange : Exchange)
      → All (λ row. length row ≡ 4) (map (λ quantity. sums_of cells (exchange_columns plan n own exchange quantity)) quantities)
  one_exchange own cells exchange =
      All-map (λ row. length row ≡ 4) (λ quantity. sums_of cells (exchange_columns plan n own exchange quantity)) quantities
      (λ k d h.
      length-map (exchange_columns plan n own exchange (get_or quantities k d)) (λ column. total_of (map column cells))
      ∙ four own exchange (get_or quantities k d))

exchanges_shape : (plan : PlanParts) (n : ℕ) (own : Component) (cells : List ℕ) → AreRows 15 4 (exchange_sums plan n own cells)
unfolding no_sums
exchanges_shape plan zero own cells = record {
  rows = refl;
  numbers = all_alike (λ row. length row ≡ 4) (replicate 4 (pos 0)) refl 15;
}
exchanges_shape plan (suc n) own cells = record {
  rows = refl;
  numbers = all_flat (λ row. length row ≡ 4) (λ exchange. map (λ quantity. sums_of cells (exchange_columns plan n own exchange quantity)) quantities)
      (one_exchange plan n own cells) exchanges;
}

pub sums_shape : (plan : PlanParts) (piece n : ℕ) → HasShape (part_sums plan piece n)
unfolding part_sums
sums_shape plan piece n = record { stocks = stocks_shape plan n _ _; exchanges = exchanges_shape plan n _ _ }

pub sums_long : (plan : PlanParts) (piece n : ℕ) → length (words_of (part_sums plan piece n)) ≡ 168
sums_long plan piece n = shape_long (part_sums plan piece n) (sums_shape plan piece n)
