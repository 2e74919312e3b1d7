-- The two tables.
use Rattle.std.specs.Prelude.{ℕ, List, [], ◌∷◌, map, codes}
use Rattle.cpl_stocks.specs.declared.rows.StockRow.{StockRow}
use Rattle.cpl_stocks.specs.declared.rows.ExchangeRow.{ExchangeRow}
use Rattle.cpl_stocks.specs.Fields.{stock_fields, exchange_fields}
use Rattle.cpl_stocks.specs.Lines.{table}

abbrev pub stock_columns : List (List ℕ)
stock_columns =
    codes "step" ∷ codes "date" ∷ codes "seconds" ∷ codes "quantity" ∷ codes "air" ∷ codes "land" ∷ codes "ice" ∷ codes "ocean"
    ∷ codes "to_ice" ∷ codes "to_ocean" ∷ codes "entered" ∷ codes "left" ∷ codes "total" ∷ []

abbrev pub exchange_columns : List (List ℕ)
exchange_columns =
    codes "step" ∷ codes "exchange" ∷ codes "quantity" ∷ codes "before" ∷ codes "gave" ∷ codes "took" ∷ codes "after" ∷ []

-- the table of stocks
abbrev pub stocks_text : List StockRow → List ℕ
stocks_text rows = table stock_columns (map stock_fields rows)

-- the table of exchanges
abbrev pub exchanges_text : List ExchangeRow → List ℕ
exchanges_text rows = table exchange_columns (map exchange_fields rows)
