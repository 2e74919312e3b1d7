-- Signed numbers as bytes: eight bytes each, the highest first, in two's complement.
use Rattle.std.specs.Prelude.{ℕ, zero, suc, ◌^◌, ◌<ℤ◌, ◌≤ℤ◌, List, [], ◌∷◌, ◌++◌, length, drop, Bool, true, false, ℤ, pos, negsuc}
use Rattle.std.specs.List.{flat_map}
use Rattle.std.specs.Int.{cast_signed, cast_unsigned, w64}
use Rattle.byteorder.specs.Endian.{big_number, big_bytes}

-- the spelling of a number
unfoldable pub number_bytes : ℤ → List ℕ
number_bytes x = big_bytes 8 (cast_unsigned w64 x)

abbrev pub numbers_bytes : List ℤ → List ℕ
numbers_bytes xs = flat_map number_bytes xs

-- a section: how many numbers there are, and the numbers
abbrev pub section_bytes : List ℤ → List ℕ
section_bytes xs = number_bytes (pos (length xs)) ++ numbers_bytes xs

-- the number that eight bytes spell
unfoldable pub number_in : List ℕ → ℤ
number_in bytes = cast_signed w64 (big_number 8 bytes)

-- the numbers that bytes spell, eight bytes each
abbrev pub numbers_in : ℕ → List ℕ → List ℤ
numbers_in zero bytes = []
numbers_in (suc n) bytes = number_in bytes ∷ numbers_in n (drop 8 bytes)

abbrev pub is_negative : ℤ → Bool
is_negative (pos n) = false
is_negative (negsuc n) = true
