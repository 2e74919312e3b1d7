-- What moves through a face: water, and heat and salt with it.
use Rattle.std.specs.Prelude.{ℕ, zero, suc, ◌*◌, ◌/◌, min, ℤ, pos, negsuc, ◌+ℤ◌, ◌-ℤ◌, unsigned_abs}
use Rattle.cpl_fixed.specs.Amounts.{amount}
use Rattle.cpl_fixed.specs.Division.{trunc, clamp}
use Rattle.cpl_ice.specs.declared.parts.Salty.{Salty}
use Rattle.cpl_transport.specs.Salts.{turned}

-- the water that moves through a face of this number out of a cell with this water: at most an eighth
abbrev pub moved : (u water : ℤ) → ℕ
moved u water = min (unsigned_abs u) (amount water / 8)

-- the lesser of two differences of one sign, else 0
abbrev pub minmod : ℤ → ℤ → ℤ
minmod (pos a) (pos b) = pos (min a b)
minmod (negsuc a) (negsuc b) = negsuc (min a b)
minmod _ _ = pos 0

-- the correction by the slope behind a cell and ahead of it. At a wall the cell behind is the cell itself, so that it is 0 there
abbrev pub correction : (behind here ahead : ℤ) → ℤ
correction behind here ahead = trunc (minmod (here -ℤ behind) (ahead -ℤ here)) (pos 16)

-- the heat or salt that goes with m of the water, corrected: from 0 to an eighth, and nothing where no water moves
abbrev pub carried : (x water : ℤ) → (m : ℕ) → (j : ℤ) → ℤ
carried x water zero j = pos 0
carried x water (suc m) j = clamp (pos (amount x * suc m / amount water) +ℤ j) (pos 0) (pos (amount x / 8))

-- what moves out of a cell, through a face of this number, with the cells behind it and ahead
abbrev pub given : ℤ → (behind here ahead : Salty) → Salty
given u behind here ahead = record {
  water = pos (moved u here.water);
  heat = carried here.heat here.water (moved u here.water) (correction behind.heat here.heat ahead.heat);
  salt = carried here.salt here.water (moved u here.water) (correction behind.salt here.salt ahead.salt);
}

-- What moves through a face between the cells here and there, outward from here, where the four cells lie in a row: it comes
-- from here where the face's number is above 0, else from there.
abbrev pub through : ℤ → (behind here there beyond : Salty) → Salty
through (pos u) behind here there beyond = given (pos u) behind here there
through (negsuc u) behind here there beyond = turned (given (negsuc u) beyond there here)
