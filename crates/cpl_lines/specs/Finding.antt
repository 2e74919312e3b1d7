-- What functions find at the front of bytes, against what the reading of lists finds.
use Rattle.std.specs.Prelude.{◌≡◌, ℕ, ◌+◌, nat_le, List, length, drop, take_while, Option, Some, None, if◌then◌else◌}
use Rattle.std.specs.Char.{is_ascii_digit}
use Rattle.cpl_fixed.specs.Decimals.{value_from}

-- What was found, seen by view, is what this reading finds.
abbrev pub Finds : {X Y : Type 0} → (X → Y) → Option X → Option Y → Type 0
Finds view (Some x) reading = reading ≡ Some (view x)
Finds view None reading = reading ≡ None

-- all digits at the front, after `count` digits that stand for `value`, if they are at most 19 together
abbrev pub digits_at : ℕ → ℕ → List ℕ → Option (ℕ × List ℕ)
digits_at count value bytes =
    let digits = take_while is_ascii_digit bytes in
    if nat_le (count + length digits) 19 then Some (value_from value digits, drop (length digits) bytes) else None
