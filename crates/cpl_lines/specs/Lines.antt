-- Lines: a word and fields, and their one spelling.
use Rattle.std.specs.Prelude.{◌≡◌, ℕ, List, [], ◌∷◌, ◌++◌, map, replicate, slice_index, Option, Some, None}
use Rattle.std.specs.List.{flat_map}
use Rattle.cpl_lines.specs.Fields.{Field, Number, Kind, AnyNumber, field_text, value, AreOfKinds}

-- a line by what it says
pub record Line : Type 0 where
  pub word : List ℕ
  pub fields : List Field

abbrev pub line_feed : List ℕ
line_feed = 10 ∷ []

-- a line's one spelling
abbrev pub line_text : Line → List ℕ
line_text line = line.word ++ flat_map field_text line.fields ++ line_feed

-- the form of a line: its word, and what each of its fields may be
pub record Form : Type 0 where
  pub word : List ℕ
  pub kinds : List Kind

-- the line has this form, if there is one
abbrev pub IsOfForm : Option Form → Line → Type 0
IsOfForm None line = ⊥
IsOfForm (Some form) line = (line.word ≡ form.word) × AreOfKinds form.kinds line.fields

-- a row of data: a word and numbers
abbrev pub row : List ℕ → List ℕ → Line
row word numbers = record { word = word; fields = map Number numbers }

-- the form of rows of this word with this many numbers
abbrev pub row_form : List ℕ → ℕ → Form
row_form word count = record { word = word; kinds = replicate count AnyNumber }

-- the values of a line's fields
abbrev pub values : Line → List ℕ
values line = map value line.fields

-- the value of the k-th field
abbrev pub at : Line → ℕ → ℕ
at line k = slice_index (values line) k
