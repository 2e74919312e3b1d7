-- The tokens of a text: each is the longest that fits.
use Rattle.std.specs.Prelude.{◌≡◌, ℕ, zero, suc, ◌+◌, ◌-◌, List, [], ◌∷◌, length, take, drop, codes, Bool, false, ◌&&◌, ◌||◌, not, ◌==◌, if◌then◌else◌, take_while, count_by, Option, Some, None}
use Rattle.std.specs.Char.{is_ascii_digit, is_ascii_alphabetic, is_ascii_alphanumeric}
use Rattle.std.specs.Str.{str_eq_ignore_ascii_case}
use Rattle.cpl_namelist.specs.declared.token.Kind.{Kind}
use Rattle.cpl_namelist.specs.declared.token.Kind.TheVariants as kind
use Rattle.cpl_namelist.specs.declared.token.Token.{Token}
use Rattle.cpl_namelist.specs.declared.token.Cursor.{Cursor}
use Rattle.cpl_namelist.specs.declared.token.Form.{Form}

-- ---- how many bytes of each form a text begins with: as many as fit, 0 where it doesn't begin so

-- how many bytes in front pass a test
abbrev pub front_len : (ℕ → Bool) → List ℕ → ℕ
front_len test bytes = length (take_while test bytes)

-- the first byte passes a test
abbrev pub begins : (ℕ → Bool) → List ℕ → Bool
begins test [] = false
begins test (byte ∷ rest) = test byte

-- the same letters, case aside
abbrev pub same_word : List ℕ → List ℕ → Bool
same_word a b = str_eq_ignore_ascii_case a b

-- a letter, a digit or _
abbrev pub is_word_byte : ℕ → Bool
is_word_byte byte = is_ascii_alphanumeric byte || byte == 95

-- a letter, then letters, digits or _
abbrev pub word_len : List ℕ → ℕ
word_len bytes = if begins is_ascii_alphabetic bytes then front_len is_word_byte bytes else 0

-- a mark in front of what is so long, and nothing where that is not there
abbrev pub after_mark : ℕ → ℕ
after_mark zero = 0
after_mark (suc len) = 1 + suc len

-- & directly followed by a word
abbrev pub group_len : List ℕ → ℕ
group_len [] = 0
group_len (byte ∷ rest) = if byte == 38 then after_mark (word_len rest) else 0

-- how many digits are in front
abbrev pub digits_len : List ℕ → ℕ
digits_len bytes = front_len is_ascii_digit bytes

-- an optional + or -, then digits
abbrev pub integer_len : List ℕ → ℕ
integer_len [] = 0
integer_len (byte ∷ rest) = if byte == 43 || byte == 45 then after_mark (digits_len rest) else digits_len (byte ∷ rest)

-- what stands at the front, and 0 where the rest does not follow it
abbrev pub both : ℕ → ℕ → ℕ
both front zero = 0
both front (suc rest) = front + suc rest

-- an integer after *
abbrev pub times_len : List ℕ → ℕ
times_len [] = 0
times_len (byte ∷ rest) = if byte == 42 then after_mark (integer_len rest) else 0

-- digits, *, an integer, with nothing between
abbrev pub repeat_len : List ℕ → ℕ
repeat_len bytes = if digits_len bytes == 0 then 0 else both (digits_len bytes) (times_len (drop (digits_len bytes) bytes))

-- neither this mark nor a line feed
abbrev pub is_plain : ℕ → ℕ → Bool
is_plain mark byte = not (byte == mark) && not (byte == 10)

-- bytes other than the mark and a line feed, and the mark
abbrev pub quoted_len : ℕ → List ℕ → ℕ
quoted_len mark rest =
    if begins (λ byte. byte == mark) (drop (front_len (is_plain mark) rest) rest) then front_len (is_plain mark) rest + 2 else 0

-- ' or ", and what goes to the same mark
abbrev pub text_len : List ℕ → ℕ
text_len [] = 0
text_len (byte ∷ rest) = if byte == 39 || byte == 34 then quoted_len byte rest else 0

-- .true. or .false., case aside
abbrev pub logical_len : List ℕ → ℕ
logical_len bytes =
    if same_word (take 6 bytes) (codes ".true.") then 6
    else (if same_word (take 7 bytes) (codes ".false.") then 7 else 0)

-- ---- the tokens of a text

-- what a byte is that begins none of the longer tokens
abbrev pub mark_of : ℕ → Kind
mark_of byte =
    if byte == 61 then kind.Equals else (if byte == 44 then kind.Comma else (if byte == 47 then kind.Slash else kind.Stray))

-- a token of this kind where the text begins so, else another
abbrev pub form_or : Kind → ℕ → Form → Form
form_or kind zero other = other
form_or kind (suc len) other = record { kind = kind; len = suc len }

-- the token in front, with its length
abbrev pub form_of : List ℕ → Form
form_of [] = record { kind = kind.Stray; len = 1 }
form_of (byte ∷ rest) =
    let bytes = byte ∷ rest in
    form_or kind.Group (group_len bytes)
    (form_or kind.Word (word_len bytes)
    (form_or kind.Repeat (repeat_len bytes)
    (form_or kind.Integer (integer_len bytes)
    (form_or kind.Text (text_len bytes)
    (form_or kind.Logical (logical_len bytes)
    (record { kind = mark_of byte; len = 1 }))))))

-- blank, tab and carriage return, which separate tokens as the line feed does
abbrev pub is_blank : ℕ → Bool
is_blank byte = byte == 32 || byte == 9 || byte == 13

-- a separator, or ! which begins a comment
abbrev pub is_gap : ℕ → Bool
is_gap byte = byte == 10 || is_blank byte || byte == 33

-- a comment ends before the line feed
abbrev pub comment_len : List ℕ → ℕ
comment_len bytes = front_len (λ byte. not (byte == 10)) bytes

-- the line and what is left of the text, after a separator or a comment in front; a comment holds no line feed
abbrev pub past_gap : ℕ → List ℕ → Option (ℕ × List ℕ)
past_gap line [] = None
past_gap line (byte ∷ rest) =
    if byte == 10 then Some (line + 1, rest)
    else (if is_blank byte then Some (line, rest)
    else (if byte == 33 then Some (line, drop (comment_len rest) rest) else None))

-- a line and what is left, without where it lies in memory
abbrev pub place : Cursor → ℕ × List ℕ
place cursor = (cursor.line, cursor.rest.now)

-- a token, with the line that it stands on, and its bytes
pub record Lexeme : Type 0 where
  pub kind : Kind
  pub line : ℕ
  pub text : List ℕ

-- a token without where its bytes lie in memory
abbrev pub seen : Token → Lexeme
seen token = record { kind = token.kind; line = token.line; text = token.text.now }

-- the tokens of a text that begins on this line, of whose first bytes so many belong to the token or the comment
-- before; neither holds a line feed
unfoldable pub tokens_from : ℕ → ℕ → List ℕ → List Lexeme
tokens_from inside line [] = []
tokens_from (suc inside) line (byte ∷ rest) = tokens_from inside line rest
tokens_from zero line (byte ∷ rest) =
    if byte == 10 then tokens_from 0 (line + 1) rest
    else (if is_blank byte then tokens_from 0 line rest
    else (if byte == 33 then tokens_from (comment_len rest) line rest
    else (let token = form_of (byte ∷ rest) in
    record { kind = token.kind; line = line; text = take token.len (byte ∷ rest) } ∷ tokens_from (token.len - 1) line rest)))

-- the tokens of a text
abbrev pub tokens : List ℕ → List Lexeme
tokens bytes = tokens_from 0 1 bytes

-- the last line is one more than the number of line feeds
abbrev pub last_line : List ℕ → ℕ
last_line bytes = 1 + count_by (λ byte. byte == 10) bytes

-- the first token was found, and what is left, or there is none
abbrev pub NextIs : List Lexeme → Option (Token × Cursor) → Type 0
NextIs all None = all ≡ []
NextIs all (Some found) = all ≡ seen found.0 ∷ tokens_from 0 found.1.line found.1.rest.now
