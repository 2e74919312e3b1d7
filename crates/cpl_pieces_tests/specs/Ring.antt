-- A row of two cells whose ends meet, as a strip.
use Rattle.std.specs.Prelude.{[], ◌∷◌}
use Rattle.cpl_mosaic.specs.declared.parts.Side.TheVariants.{W, E}
use Rattle.cpl_strip.specs.declared.parts.Strip.{Strip}

-- the cell at each end fills the hole beyond the other
abbrev pub ring : Strip
ring = record {
  from = 0;
  to = 0;
  places = (1, 0) ∷ (0, 0) ∷ [];
  holes = record { side = W; at = 0; depth = 1 } ∷ record { side = E; at = 0; depth = 1 } ∷ [];
}
