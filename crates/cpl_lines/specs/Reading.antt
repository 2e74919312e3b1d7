-- Reading a text line by line.
use Rattle.std.specs.Prelude.{ℕ, zero, suc, ◌+◌, ◌==◌, ◌&&◌, ◌||◌, not, nat_le, List, [], ◌∷◌, length, drop, take_while, Bool, false, Option, Some, None, Result, Ok, Err, if◌then◌else◌}
use Rattle.std.specs.Char.{is_ascii_digit}
use Rattle.std.specs.List.{starts_with}
use Rattle.std.specs.Prelude.{nat_eq}
use Rattle.cpl_fixed.specs.Decimals.{value_from}
use Rattle.cpl_lines.specs.declared.fault.LinesError.{LinesError}
use Rattle.cpl_lines.specs.declared.fault.LinesError.TheVariants.{Syntax, Limit}
use Rattle.cpl_lines.specs.Fields.{Field, Number, Letter, Kind, AnyNumber, OneOf, is_one_of}
use Rattle.cpl_lines.specs.Lines.{Line, Form, line_feed}
use Rattle.cpl_lines.specs.Formats.{Format, made_of}

infixl 10 ◌>>=◌
abbrev pub ◌>>=◌ : {A B : Type 0} → Option A → (A → Option B) → Option B
(Some x) >>= f = f x
None >>= f = None

-- the rest after a word
abbrev pub word_at : List ℕ → List ℕ → Option (List ℕ)
word_at word bytes = if starts_with nat_eq bytes word then Some (drop (length word) bytes) else None

-- whether digits are `0`, or 1 to 19 without a leading zero
abbrev pub is_numeral : List ℕ → Bool
is_numeral [] = false
is_numeral (digit ∷ digits) = nat_le (length digits) 18 && (not (digit == 48) || (length digits == 0))

-- the number whose digits stand first, all of them, and the rest after it
abbrev pub number_at : List ℕ → Option (ℕ × List ℕ)
number_at bytes =
    let digits = take_while is_ascii_digit bytes in
    if is_numeral digits then Some (value_from 0 digits, drop (length digits) bytes) else None

abbrev pub letter_at : List ℕ → List ℕ → Option (ℕ × List ℕ)
letter_at letters [] = None
letter_at letters (letter ∷ bytes) = if is_one_of letters letter then Some (letter, bytes) else None

-- a field without its blank
abbrev pub value_at : Kind → List ℕ → Option (Field × List ℕ)
value_at AnyNumber bytes = number_at bytes >>= λ found. Some (Number found.0, found.1)
value_at (OneOf letters) bytes = letter_at letters bytes >>= λ found. Some (Letter found.0, found.1)

-- a field after a blank
unfoldable pub field_at : Kind → List ℕ → Option (Field × List ℕ)
field_at kind bytes = word_at (32 ∷ []) bytes >>= λ field. value_at kind field

abbrev pub fields_at : List Kind → List ℕ → Option (List Field × List ℕ)
fields_at [] bytes = Some ([], bytes)
fields_at (kind ∷ kinds) bytes =
    field_at kind bytes >>= λ first. fields_at kinds first.1 >>= λ others. Some (first.0 ∷ others.0, others.1)

-- the line of this form that stands first, and the rest after it
unfoldable pub row_at : Form → List ℕ → Option (Line × List ℕ)
row_at form bytes =
    word_at form.word bytes >>= λ after_word. fields_at form.kinds after_word >>= λ fields. word_at line_feed fields.1 >>= λ rest.
    Some (record { word = form.word; fields = fields.0 }, rest)

abbrev pub line_at : Option Form → List ℕ → Option (Line × List ℕ)
line_at None bytes = None
line_at (Some form) bytes = row_at form bytes

abbrev pub with_line : Line → Result (List Line) LinesError → Result (List Line) LinesError
with_line line (Ok lines) = Ok (line ∷ lines)
with_line line (Err fault) = Err fault

abbrev pub nothing_after : ℕ → List ℕ → Result (List Line) LinesError
nothing_after number [] = Ok []
nothing_after number (byte ∷ bytes) = Err (Syntax number)

-- the line that was found and those after it, which `others` reads, or the fault of this line
abbrev pub line_and_others : {State Made : Type 0} → (State → ℕ → List ℕ → Result (List Line) LinesError) → Format State Made → State → ℕ → Option (Line × List ℕ)
    → Result (List Line) LinesError
line_and_others others format state number None = Err (Syntax number)
line_and_others others format state number (Some found) =
    if format.keeps state found.0 then with_line found.0 (others (format.after state found.0) (number + 1) found.1) else Err (Limit number)

-- one line and those after it, or the end
abbrev pub lines_or_end : {State Made : Type 0} → (State → ℕ → List ℕ → Result (List Line) LinesError) → Format State Made → State → ℕ → List ℕ → Option Form
    → Result (List Line) LinesError
lines_or_end others format state number bytes None = nothing_after number bytes
lines_or_end others format state number bytes (Some form) = line_and_others others format state number (row_at form bytes)

-- The lines from this number on, or the first fault. Each line takes a byte or more, so more turns than bytes are enough.
abbrev pub lines_from : {State Made : Type 0} → ℕ → Format State Made → State → ℕ → List ℕ → Result (List Line) LinesError
lines_from zero format state number bytes = Err (Syntax number)
lines_from (suc turns) format state number bytes = lines_or_end (lines_from turns format) format state number bytes (format.form state)

-- all lines of a text, or the first line at fault
unfoldable pub lines_of : {State Made : Type 0} → Format State Made → State → List ℕ → Result (List Line) LinesError
lines_of format start bytes = lines_from (length bytes + 1) format start 1 bytes

abbrev pub made_with : {State Made : Type 0} → Format State Made → State → Made → Result (List Line) LinesError → Result Made LinesError
made_with format state made (Ok lines) = Ok (made_of format state made lines)
made_with format state made (Err fault) = Err fault

-- what a text makes, or the first line at fault
abbrev pub made_from : {State Made : Type 0} → Format State Made → State → Made → List ℕ → Result Made LinesError
made_from format start made bytes = made_with format start made (lines_of format start bytes)
