-- The most bytes that a file of a command may have.
use Rattle.std.specs.Prelude.{ℕ}
use Rattle.cpl_fixed.specs.declared.limits.TheConstants.{MOST_GRID_BYTES, MOST_NAMES_BYTES, MOST_START_BYTES}
use Rattle.cpl_top.specs.declared.status.Which.{Which}
use Rattle.cpl_top.specs.declared.status.Which.TheVariants as which

-- those of a grid's text, a namelist and a state. The others are written and never read
abbrev pub limit_of : Which → ℕ
limit_of which.Grid = MOST_GRID_BYTES
limit_of which.Names = MOST_NAMES_BYTES
limit_of which.Start = MOST_START_BYTES
limit_of which.Stocks = 0
limit_of which.Exchanges = 0
limit_of which.Restart = 0
