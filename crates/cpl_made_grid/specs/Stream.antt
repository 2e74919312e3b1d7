-- The numbers that inputs are made of: for each purpose a sequence, of which any number can be told by its place.
use Rattle.std.specs.Prelude.{ℕ, ◌+◌, ◌*◌, ◌/◌, ◌%◌, ◌^◌, bit_xor}
use Rattle.cpl_made_grid.specs.declared.stream.Purpose.{Purpose}
use Rattle.cpl_made_grid.specs.declared.stream.Purpose.TheVariants.{Block, Coast, AirHeat, Vapour, Sun, LandHeat, LandWater, OceanHeat}

-- the place of a purpose among all
abbrev pub purpose_number : Purpose → ℕ
purpose_number Block = 1
purpose_number Coast = 2
purpose_number AirHeat = 3
purpose_number Vapour = 4
purpose_number Sun = 5
purpose_number LandHeat = 6
purpose_number LandWater = 7
purpose_number OceanHeat = 8

-- a number with its upper bits joined to its lower ones
abbrev pub folded : (shift x : ℕ) → ℕ
folded shift x = bit_xor x (x / 2 ^ shift)

-- a number of 64 bits with its bits mixed, one to one: the last steps of SplitMix64
unfoldable pub mixed : ℕ → ℕ
mixed x = folded 31 (folded 27 (folded 30 x * 0xBF58476D1CE4E5B9 % 2 ^ 64) * 0x94D049BB133111EB % 2 ^ 64)

-- the n-th number for a purpose, of all that a number chooses
unfoldable pub drawn : (number : ℕ) → Purpose → (n : ℕ) → ℕ
drawn number purpose n = mixed ((number + (purpose_number purpose * 2 ^ 32 + n)) % 2 ^ 64)
