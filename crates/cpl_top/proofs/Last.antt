-- The last rows of a table of stocks.
use Rattle.std.proofs.Common.{◌≡◌, ◌∙◌, ap, subst, ℕ, zero, suc, ◌+◌, ◌*◌, arith, List, ◌++◌, map, length, get_or, length-append}
use Rattle.std.proofs.lemmas.List.{get_or-append-add}
use Rattle.cpl_namelist.specs.declared.names.Names.{Names}
use Rattle.cpl_xgrid.specs.declared.grid.Grid.{Grid}
use Rattle.cpl_state.specs.declared.whole.Whole.{Whole}
use Rattle.cpl_stocks.specs.declared.rows.StockRow.{StockRow}
use Rattle.cpl_whole.specs.Rows.{quantities, stock_row, stock_rows}
use Rattle.cpl_whole.proofs.Tables.{stocks_first, stocks_more}

module _ (grid : Grid) (names : Names) (start : Whole) where
  abbrev rows : ℕ → List StockRow
  rows n = stock_rows grid names start n

  abbrev last : ℕ → List StockRow
  last n = map (stock_row grid names start n) quantities

  one_more : (n : ℕ) → rows (suc n) ≡ rows n ++ last (suc n)
  one_more n =
      let e : n + 1 ≡ suc n = omega arith in
      subst (λ (k : ℕ). rows k ≡ rows n ++ last k) e (stocks_more grid names start n)

  -- three rows for each state
  pub rows_count : (n : ℕ) → length (rows n) ≡ 3 * n + 3
  rows_count zero = ap (λ (xs : List StockRow). length xs) (stocks_first grid names start)
  rows_count (suc n) =
      let before = rows_count n in
      let more = ap (λ (xs : List StockRow). length xs) (one_more n) ∙ length-append (rows n) (last (suc n)) in
      omega arith

  -- the last three are those of the last state
  pub row_last : (n k : ℕ) (d : StockRow) → get_or (rows n) (3 * n + k) d ≡ get_or (last n) k d
  row_last zero k d =
      let place : 3 * 0 + k ≡ k = omega arith in
      ap (λ (i : ℕ). get_or (rows 0) i d) place ∙ ap (λ (xs : List StockRow). get_or xs k d) (stocks_first grid names start)
  row_last (suc n) k d =
      let before = rows_count n in
      let place : 3 * suc n + k ≡ length (rows n) + k = omega arith in
      ap (λ (i : ℕ). get_or (rows (suc n)) i d) place
      ∙ ap (λ (xs : List StockRow). get_or xs (length (rows n) + k) d) (one_more n)
      ∙ get_or-append-add (rows n) (last (suc n)) k d
