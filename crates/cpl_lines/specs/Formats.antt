-- Formats: which lines a text has, one after the other, and the first line at fault.
use Rattle.std.specs.Prelude.{◌≡◌, ◌≢◌, ℕ, ◌+◌, List, [], ◌∷◌, ◌++◌, length, Bool, true, false, Option, None}
use Rattle.cpl_lines.specs.Lines.{Line, Form, line_text, IsOfForm}

-- A format goes from state to state. Each state tells the form of the line that comes next, or none where the text ends;
-- whether such a line keeps the limits; which state comes after it; and what it adds to what the lines before it made.
pub record Format (State Made : Type 0) : Type 0 where
  pub form : State → Option Form
  pub keeps : State → Line → Bool
  pub after : State → Line → State
  pub add : State → Line → Made → Made

-- the bytes begin with this line, which has this form
pub record HasForm (wanted : Option Form) (bytes : List ℕ) (line : Line) (rest : List ℕ) : Type 0 where
  pub form : IsOfForm wanted line
  pub text : bytes ≡ line_text line ++ rest

-- the bytes begin with these lines, each of which has its form and keeps the limits
abbrev pub BeginsWith : {State Made : Type 0} → Format State Made → State → List Line → List ℕ → List ℕ → Type 0
BeginsWith format state [] bytes rest = bytes ≡ rest
BeginsWith format state (line ∷ lines) bytes rest =
    (next : List ℕ) × HasForm (format.form state) bytes line next × (format.keeps state line ≡ true)
    × BeginsWith format (format.after state line) lines next rest

-- the state after lines
abbrev pub state_after : {State Made : Type 0} → Format State Made → State → List Line → State
state_after format state [] = state
state_after format state (line ∷ lines) = state_after format (format.after state line) lines

-- what lines make, added to what was made before
abbrev pub made_of : {State Made : Type 0} → Format State Made → State → Made → List Line → Made
made_of format state made [] = made
made_of format state made (line ∷ lines) = made_of format (format.after state line) (format.add state line made) lines

-- The first line that doesn't have its form, is missing or stands after the end: all lines before it have their form and
-- keep the limits. Lines are numbered from 1.
pub record IsSyntaxFault {State Made : Type 0} (format : Format State Made) (start : State) (bytes : List ℕ) (number : ℕ) : Type 0 where
  pub front : List Line
  pub rest : List ℕ
  pub before : BeginsWith format start front bytes rest
  pub number_is : number ≡ length front + 1
  pub no_line : (line : Line) (more : List ℕ) → HasForm (format.form (state_after format start front)) rest line more → ⊥
  pub not_ended : format.form (state_after format start front) ≡ None → rest ≢ []

-- the first line whose numbers break a limit: it has its form, and all lines before it have theirs and keep the limits
pub record IsLimitFault {State Made : Type 0} (format : Format State Made) (start : State) (bytes : List ℕ) (number : ℕ) : Type 0 where
  pub front : List Line
  pub rest : List ℕ
  pub before : BeginsWith format start front bytes rest
  pub number_is : number ≡ length front + 1
  pub line : Line
  pub more : List ℕ
  pub form : HasForm (format.form (state_after format start front)) rest line more
  pub broken : format.keeps (state_after format start front) line ≡ false
