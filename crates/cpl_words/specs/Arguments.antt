-- The words of a command line, whichever the command.
use Rattle.std.specs.Prelude.{ℕ, List, [], ◌∷◌, map, Bool, false, not, ◌==◌, Option, Some, None, if◌then◌else◌, String, string_bytes}
use Rattle.std.specs.Option.{option_and_then}
use Rattle.cpl_fixed.specs.Decimals.{at_most, is_numeral, value_of}
use Rattle.std.specs.declared.alloc.Global.{Global}

abbrev pub Text : Type 0
Text = List ℕ

-- the words as their bytes
abbrev pub texts : List (String Global) → List Text
texts = map string_bytes

-- neither empty nor beginning with `-`
abbrev pub is_argument : Text → Bool
is_argument [] = false
is_argument (c ∷ cs) = not (c == 45)

-- the number that a word is, of at most `most`: `0`, or 1 to 20 digits that don't begin with a zero
abbrev pub number_of : ℕ → Text → Option ℕ
number_of most word = if is_numeral 20 word then at_most most (value_of word) else None

-- the same from 1
abbrev pub positive_of : ℕ → Text → Option ℕ
positive_of most word = option_and_then (λ n. if n == 0 then None else Some n) (number_of most word)
