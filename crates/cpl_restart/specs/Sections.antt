-- Reading a file of numbers from its front, with the first fault that is met: a mark, sections, and no bytes after them.
use Rattle.std.specs.Prelude.{ℕ, ◌*◌, ◌%◌, ◌^◌, ◌==◌, nat_lt, sum, map, List, [], ◌∷◌, length, take, drop, Bool, true, false, Result, Ok, Err, Option, Some, None, if◌then◌else◌, ℤ}
use Rattle.std.specs.Int.{cast_unsigned, w64}
use Rattle.std.specs.List.{position}
use Rattle.std.specs.Str.{bytes_eq}
use Rattle.byteorder.specs.Endian.{big_number}
use Rattle.cpl_fixed.specs.Results.{Gives}
use Rattle.cpl_restart.specs.Numbers.{numbers_in, is_negative}
use Rattle.cpl_restart.specs.declared.start_error.StartError.{StartError}
use Rattle.cpl_restart.specs.declared.start_error.StartError.TheVariants.{Short, Magic, Shape, Sum, Trailing, Negative, Memory}

-- the bytes after the mark, which is eight bytes long
abbrev pub after_mark : List ℕ → List ℕ → Result (List ℕ) StartError
after_mark mark bytes =
    if nat_lt (length bytes) 8 then Err Short
    else (if bytes_eq (take 8 bytes) mark then Ok (drop 8 bytes) else Err Magic)

-- the n numbers of a section whose count was read, and the bytes after them
abbrev pub section_numbers : ℕ → List ℕ → Result (List ℤ × List ℕ) StartError
section_numbers n bytes = if nat_lt (length bytes) (8 * n) then Err Short else Ok (numbers_in n bytes, drop (8 * n) bytes)

-- the section of this number, of n numbers, and the bytes after it
abbrev pub section_at : ℕ → ℕ → List ℕ → Result (List ℤ × List ℕ) StartError
section_at section n bytes =
    if nat_lt (length bytes) 8 then Err Short
    else (if big_number 8 bytes == n then section_numbers n (drop 8 bytes) else Err (Shape section))

abbrev pub nothing_after : List ℕ → Result (Unit {0}) StartError
nothing_after [] = Ok tt
nothing_after (byte ∷ bytes) = Err Trailing

-- the first negative number of a section
abbrev pub no_negative_at : ℕ → Option ℕ → Result (Unit {0}) StartError
no_negative_at section None = Ok tt
no_negative_at section (Some index) = Err (Negative section index)

abbrev pub no_negative : ℕ → List ℤ → Result (Unit {0}) StartError
no_negative section xs = no_negative_at section (position is_negative xs)

-- the sum of numbers of 64 bits, taken without a sign, which wraps
abbrev pub wrapped_sum : List ℤ → ℕ
wrapped_sum xs = sum (map (cast_unsigned w64) xs) % 2 ^ 64

-- the bytes after the sum of a section, where that sum was found
abbrev pub after_sum : (section found : ℕ) → List ℕ → Result (List ℕ) StartError
after_sum section found bytes =
    if nat_lt (length bytes) 8 then Err Short
    else (if big_number 8 bytes == found then Ok (drop 8 bytes) else Err (Sum section (big_number 8 bytes) found))

-- out of memory may come in place of any answer
abbrev pub is_memory : StartError → Bool
is_memory Memory = true
is_memory _ = false

-- what reading returned, seen by view, is this reading, unless memory ran out
abbrev pub Reads : {X Y : Type 0} → (X → Y) → Result X StartError → Result Y StartError → Type 0
Reads view returned reading = Gives is_memory view returned reading
