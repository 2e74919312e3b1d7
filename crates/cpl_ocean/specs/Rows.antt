-- Rows of a piece, on the way through a sweep of its inner cells.
use Rattle.std.specs.Prelude.{◌≡◌, ℕ, ◌+◌, ◌<◌, ◌≤◌, List, length, slice_index_or}
use Rattle.cpl_mosaic.specs.declared.parts.Side.{Side}
use Rattle.cpl_mosaic.specs.declared.parts.Side.TheVariants.{S}
use Rattle.cpl_field.specs.Spots.{number_at}
use Rattle.cpl_ice.specs.declared.parts.Salty.{Salty}
use Rattle.cpl_transport.specs.Salts.{AreSmall, nothing}
use Rattle.cpl_ocean.specs.declared.basin.Basin.{Basin}
use Rattle.cpl_ocean.specs.declared.fields.Fields.{Fields}
use Rattle.cpl_ocean.specs.Flows.{flow_out}

-- what moves outward through a side of a cell, by heights that are kept
abbrev pub out_in : Basin → (slope : ℕ) → Fields → Side → (i j : ℕ) → Salty
out_in basin slope fields side i j = flow_out basin.area (number_at basin.heights) slope fields i j side

-- what moves through a face, so small that four of them add up
pub record IsFlow (it flow : Salty) : Type 0 where
  pub is : it ≡ flow
  pub small : AreSmall it

-- what moves out of the inner cells of row j through their south sides, one for each column
pub record AreSouths (basin : Basin) (slope : ℕ) (fields : Fields) (j : ℕ) (souths : List Salty) : Type 0 where
  pub count : length souths ≡ basin.nx
  pub each : (i : ℕ) → 2 ≤ i → i + 2 < basin.nx → IsFlow (slice_index_or souths i nothing) (out_in basin slope fields S i j)
