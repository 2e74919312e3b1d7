-- The limits and the scale of heat, each by its number.
use Rattle.std.specs.Prelude.{◌≡◌, pos}
use Rattle.cpl_fixed.specs.declared.limits.TheConstants.{MOST_GRID_BYTES, MOST_NAMES_BYTES, MOST_START_BYTES, MOST_BOXES_BYTES, MOST_FIELD_BYTES, MOST_LIST_BYTES, MOST_TILES, LONGEST_SIDE, MOST_CELLS, MOST_CONTACTS, MOST_EXCHANGE_CELLS, MOST_OUTLETS, MOST_LAYERS, MOST_CATEGORIES, MOST_AREA, MOST_WEIGHT, MOST_IN_ROW, MOST_PIECES, MOST_WORKERS, MOST_STEPS, MOST_FAST_STEPS, MOST_OCEAN_STEPS, MOST_TOTAL, MOST_FACE, PARTS, ICE_HEAT, WATER_HEAT, VAPOUR_HEAT, MELT_HEAT}

-- the most that is taken of each thing
pub record AreLimits : Type 0 where
  pub grid_bytes : MOST_GRID_BYTES ≡ 67_108_864
  pub names_bytes : MOST_NAMES_BYTES ≡ 65_536
  pub start_bytes : MOST_START_BYTES ≡ 268_435_456
  pub boxes_bytes : MOST_BOXES_BYTES ≡ 4_194_304
  pub field_bytes : MOST_FIELD_BYTES ≡ 268_435_456
  pub list_bytes : MOST_LIST_BYTES ≡ 65_536
  pub tiles : MOST_TILES ≡ 16
  pub side : LONGEST_SIDE ≡ 1_024
  pub cells : MOST_CELLS ≡ 262_144
  pub contacts : MOST_CONTACTS ≡ 256
  pub exchange_cells : MOST_EXCHANGE_CELLS ≡ 1_048_576
  pub outlets : MOST_OUTLETS ≡ 262_144
  pub layers : MOST_LAYERS ≡ 8
  pub categories : MOST_CATEGORIES ≡ 5
  pub area : MOST_AREA ≡ 1_099_511_627_776
  pub weight : MOST_WEIGHT ≡ 1_048_576
  pub in_row : MOST_IN_ROW ≡ 65_535
  pub pieces : MOST_PIECES ≡ 64
  pub workers : MOST_WORKERS ≡ 16
  pub steps : MOST_STEPS ≡ 10_000
  pub fast_steps : MOST_FAST_STEPS ≡ 1_000
  pub ocean_steps : MOST_OCEAN_STEPS ≡ 100
  pub total : MOST_TOTAL ≡ 4_611_686_018_427_387_903
  pub face : MOST_FACE ≡ pos 1_099_511_627_776

-- the parts of a cell's area, and what a unit of each kind of water holds of heat
pub record AreScales : Type 0 where
  pub parts : PARTS ≡ pos 65_536
  pub ice : ICE_HEAT ≡ pos 1_092
  pub water : WATER_HEAT ≡ pos 1_426
  pub vapour : VAPOUR_HEAT ≡ pos 3_926
  pub melt : MELT_HEAT ≡ pos 334
