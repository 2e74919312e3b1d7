-- The fields of a row.
use Rattle.std.specs.Prelude.{ℕ, ◌+◌, ◌/◌, ◌%◌, ◌^◌, List, [], ◌∷◌, ◌++◌, map, codes, decimal, unsigned_abs}
use Rattle.std.specs.Fmt.{signed_decimal}
use Rattle.cpl_fixed.specs.declared.words.Quantity.{Quantity}
use Rattle.cpl_fixed.specs.declared.words.Quantity.TheVariants.{Heat, Water, Salt}
use Rattle.cpl_namelist.specs.declared.civil.Civil.{Civil}
use Rattle.cpl_stocks.specs.declared.rows.Exchange.{Exchange}
use Rattle.cpl_stocks.specs.declared.rows.Exchange.TheVariants.{AirLand, AirIce, LandIce, OceanIce, IceOcean}
use Rattle.cpl_stocks.specs.declared.rows.StockRow.{StockRow}
use Rattle.cpl_stocks.specs.declared.rows.ExchangeRow.{ExchangeRow}

abbrev pub quantity_name : Quantity → List ℕ
quantity_name Heat = codes "heat"
quantity_name Water = codes "water"
quantity_name Salt = codes "salt"

abbrev pub exchange_name : Exchange → List ℕ
exchange_name AirLand = codes "air-land"
exchange_name AirIce = codes "air-ice"
exchange_name LandIce = codes "land-ice"
exchange_name OceanIce = codes "ocean-ice"
exchange_name IceOcean = codes "ice-ocean"

-- the decimal digit of n at this place, counted from the right
abbrev pub digit : ℕ → ℕ → ℕ
digit n place = 48 + n / 10 ^ place % 10

abbrev pub two_digits : ℕ → List ℕ
two_digits n = digit n 1 ∷ digit n 0 ∷ []

abbrev pub four_digits : ℕ → List ℕ
four_digits n = digit n 3 ∷ digit n 2 ∷ digit n 1 ∷ digit n 0 ∷ []

-- YYYY-MM-DD
abbrev pub date_text : Civil → List ℕ
date_text date = four_digits (unsigned_abs date.year) ++ codes "-" ++ two_digits (unsigned_abs date.month) ++ codes "-" ++ two_digits (unsigned_abs date.day)

abbrev pub stock_fields : StockRow → List (List ℕ)
stock_fields row =
    decimal row.step ∷ date_text row.date ∷ signed_decimal row.seconds ∷ quantity_name row.quantity
    ∷ map signed_decimal (row.air ∷ row.land ∷ row.ice ∷ row.ocean ∷ row.to_ice ∷ row.to_ocean ∷ row.entered ∷ row.left ∷ row.total ∷ [])

abbrev pub exchange_fields : ExchangeRow → List (List ℕ)
exchange_fields row =
    decimal row.step ∷ exchange_name row.exchange ∷ quantity_name row.quantity
    ∷ map signed_decimal (row.before ∷ row.gave ∷ row.took ∷ row.after ∷ [])
