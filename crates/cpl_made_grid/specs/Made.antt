-- What an input is made by.
use Rattle.std.specs.Prelude.{ℕ}
use Rattle.cpl_made_grid.specs.declared.recipe.Recipe.{Recipe}

abbrev pub recipe : (number size : ℕ) → Recipe
recipe number size = record { number = number; size = size }
