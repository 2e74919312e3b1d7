-- The rows of the two tables, step by step.
use Rattle.std.proofs.Common.{◌≡◌, ◌∙◌, refl, sym, ap, subst, ℕ, suc, ◌+◌, ◌*◌, ◌<◌, ◌≤◌, arith, List, [], ◌∷◌, ◌++◌, map, append_assoc}
use Rattle.std.specs.Prelude.{ℤ, ◌+ℤ◌, All}
use Rattle.std.specs.List.{flat_map, range_with_len}
use Rattle.std.proofs.lemmas.Int.{ints}
use Rattle.std.proofs.lemmas.List.{append-nil}
use Rattle.std.proofs.lemmas.List.Concat.{flat_map-cons}
use Rattle.std.proofs.lemmas.Grind.{flat_map-append}
use Rattle.std.proofs.lemmas.List.Folds.{flat_map-map}
use Rattle.std.proofs.lemmas.List.FromFn.{map-range_with_len_more}
use Rattle.std.proofs.lemmas.List.Elements.{All-append, All-map, All-tail}
use Rattle.cpl_fixed.specs.Amounts.{at}
use Rattle.cpl_fixed.specs.declared.words.Quantity.{Quantity}
use Rattle.cpl_fixed.specs.declared.words.Quantity.TheVariants.{Heat, Water, Salt}
use Rattle.cpl_namelist.specs.declared.names.Names.{Names}
use Rattle.cpl_xgrid.specs.declared.grid.Grid.{Grid}
use Rattle.cpl_state.specs.declared.whole.Whole.{Whole}
use Rattle.cpl_state.specs.Stocks.{stocks_of}
use Rattle.cpl_state.specs.CouplingStep.{state_after, step_after, step_entered, step_left, step_took}
use Rattle.cpl_laws.proofs.Groups.{all_range}
use Rattle.cpl_course.specs.Course.{IsOnCourse, KeepsCoupling, in_flight, over_steps}
use Rattle.cpl_plan.specs.declared.stocks.Holdings.{Holdings}
use Rattle.cpl_stocks.specs.declared.rows.Exchange.{Exchange}
use Rattle.cpl_whole.specs.declared.exchanges.Crossing.{Crossing}
use Rattle.cpl_whole.specs.Exchanges.{Crossed, row_in}
use Rattle.cpl_whole.specs.Holdings.{Hold, holding_of}
use Rattle.cpl_whole.specs.Rows.{Balances, Keeps, date_of, exchange_place, exchange_row, exchange_row_of, exchange_rows, exchanges, quantities, quantity_place, stock_row, stock_row_of, stock_rows}

-- LISTS OF LISTS

flat_map_more : {A : Type 0} (f : ℕ → List A) (n : ℕ) → flat_map f (range_with_len 0 (n + 1)) ≡ flat_map f (range_with_len 0 n) ++ f n
flat_map_more f n =
    sym (flat_map-map (λ ys. ys) f (range_with_len 0 (n + 1)))
    ∙ ap (flat_map (λ ys. ys)) (map-range_with_len_more f 0 n n (omega arith))
    ∙ flat_map-append (λ ys. ys) (map f (range_with_len 0 n)) (f n ∷ [])
    ∙ (λ i. flat_map-map (λ ys. ys) f (range_with_len 0 n) i ++ append-nil (f n) i)

all_flat : {X A : Type 0} (P : A → Type 0) (f : X → List A) (xs : List X) → All (λ x. All P (f x)) xs → All P (flat_map f xs)
all_flat P f [] all = λ k d l. absurd (omega arith)
all_flat P f (x ∷ xs) all =
    let first = all 0 x (omega arith) in
    let rest = all_flat P f xs (All-tail (λ x. All P (f x)) x xs all) in
    subst (All P) (sym (flat_map-cons f x xs)) (All-append P (f x) (flat_map f xs) first rest)

-- STOCKS

module _ (grid : Grid) (names : Names) (start : Whole) where
  abbrev state : ℕ → Whole
  state n = state_after n grid names start

  pub stocks_more : (n : ℕ) → stock_rows grid names start (n + 1) ≡ stock_rows grid names start n ++ map (stock_row grid names start (n + 1)) quantities
  unfolding stock_rows
  stocks_more n = flat_map_more (λ n. map (stock_row grid names start n) quantities) (n + 1)

  pub stocks_first : stock_rows grid names start 0 ≡ map (stock_row grid names start 0) quantities
  unfolding stock_rows
  stocks_first = refl

  -- the rows of a state, from what it holds
  pub rows_of_state : (n : ℕ) (now : Whole) (holdings : Holdings) (entered left : ℤ) → now ≡ state n → Hold grid now holdings → entered ≡ over_steps step_entered n grid names start → left ≡ over_steps step_left n grid names start
      → map (λ quantity. stock_row_of n (date_of names now) now.elapsed quantity (holding_of holdings quantity) entered left) quantities ≡ map (stock_row grid names start n) quantities
  rows_of_state n now holdings entered left same are e f =
      let held = λ (quantity : Quantity). are.each quantity ∙ ap (λ (w : Whole). stocks_of grid w quantity) same in
      λ i. map (λ quantity. stock_row_of n (date_of names (same i)) (same i).elapsed quantity (held quantity i) (e i) (f i)) quantities

  stock_keeps : (steps n : ℕ) → IsOnCourse steps grid names start n → (quantity : Quantity) → Keeps grid start (stock_row grid names start n quantity)
  stock_keeps steps n on Heat = on.heat
  stock_keeps steps n on Water = let e = on.water in omega (arith, ints, e)
  stock_keeps steps n on Salt = let e = on.salt in omega (arith, ints, e)

  pub all_keep : (steps : ℕ) → ((n : ℕ) → n ≤ steps → IsOnCourse steps grid names start n) → All (Keeps grid start) (stock_rows grid names start steps)
  unfolding stock_rows
  all_keep steps course =
      all_flat (Keeps grid start) (λ n. map (stock_row grid names start n) quantities) (range_with_len 0 (steps + 1))
      (all_range (λ n. All (Keeps grid start) (map (stock_row grid names start n) quantities)) (steps + 1) (λ n l.
      All-map (Keeps grid start) (stock_row grid names start n) quantities (λ j e g. stock_keeps steps n (course n (omega arith)) _)))

  -- EXCHANGES

  pub exchanges_more : (n : ℕ) → exchange_rows grid names start (n + 1) ≡ exchange_rows grid names start n ++ flat_map (λ exchange. map (exchange_row grid names start n exchange) quantities) exchanges
  unfolding exchange_rows
  exchanges_more n = flat_map_more (λ n. flat_map (λ exchange. map (exchange_row grid names start n exchange) quantities) exchanges) n

  pub exchanges_none : exchange_rows grid names start 0 ≡ []
  unfolding exchange_rows
  exchanges_none = refl

  next_state : (n : ℕ) → step_after grid names (state n) ≡ state (n + 1)
  next_state n = ap (λ (k : ℕ). state_after k grid names start) (let e : suc n ≡ n + 1 = omega arith in e)

  row_is : (n : ℕ) (crossing : Crossing) → Crossed grid names (state n) crossing → (exchange : Exchange) (quantity : Quantity)
      → row_in crossing (n + 1) (3 * exchange_place exchange) exchange quantity ≡ exchange_row grid names start n exchange quantity
  row_is n crossing is exchange quantity =
      let place = 3 * exchange_place exchange + quantity_place quantity in
      let after = is.after ∙ ap (in_flight grid) (next_state n) in
      λ i. exchange_row_of (n + 1) exchange quantity (at (is.before i) place) (at (is.gave i) place) (at (is.took i) place) (at (after i) place)

  -- the rows of a coupling step, from what crossed
  pub rows_of_step : (n : ℕ) (crossing : Crossing) → Crossed grid names (state n) crossing
      → flat_map (λ exchange. map (row_in crossing (n + 1) (3 * exchange_place exchange) exchange) quantities) exchanges ≡ flat_map (λ exchange. map (exchange_row grid names start n exchange) quantities) exchanges
  rows_of_step n crossing is = λ i. flat_map (λ exchange. map (λ quantity. row_is n crossing is exchange quantity i) quantities) exchanges

  row_balances : (n : ℕ) → KeepsCoupling grid names (state n) → (exchange : Exchange) (quantity : Quantity) → Balances (exchange_row grid names start n exchange quantity)
  row_balances n keeps exchange quantity =
      let place = 3 * exchange_place exchange + quantity_place quantity in
      let after = ap (in_flight grid) (next_state n) in
      keeps.balance place ∙ (λ i. at (step_took grid names (state n)) place +ℤ at (after i) place)

  pub all_balance : (steps : ℕ) → ((n : ℕ) → n < steps → KeepsCoupling grid names (state n)) → All Balances (exchange_rows grid names start steps)
  unfolding exchange_rows
  all_balance steps keeps =
      all_flat Balances (λ n. flat_map (λ exchange. map (exchange_row grid names start n exchange) quantities) exchanges) (range_with_len 0 steps)
      (all_range (λ n. All Balances (flat_map (λ exchange. map (exchange_row grid names start n exchange) quantities) exchanges)) steps (λ n l.
      all_flat Balances (λ exchange. map (exchange_row grid names start n exchange) quantities) exchanges (λ k d h.
      All-map Balances (exchange_row grid names start n _) quantities (λ j e g. row_balances n (keeps n l) _ _))))

-- FIVE PARTS AFTER ONE ANOTHER

pub five_parts : {A : Type 0} (old a b c d e r₁ r₂ r₃ r₄ : List A) → r₁ ≡ old ++ a → r₂ ≡ r₁ ++ b → r₃ ≡ r₂ ++ c → r₄ ≡ r₃ ++ d → r₄ ++ e ≡ old ++ (a ++ (b ++ (c ++ (d ++ e))))
five_parts old a b c d e r₁ r₂ r₃ r₄ f g h k =
    ap (λ xs. xs ++ e) (k ∙ ap (λ xs. xs ++ d) (h ∙ ap (λ xs. xs ++ c) (g ∙ ap (λ xs. xs ++ b) f)))
    ∙ simp append_assoc
