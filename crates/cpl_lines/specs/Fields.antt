-- Fields of a line, and what each may be.
use Rattle.std.specs.Prelude.{◌≡◌, ℕ, ◌<◌, ◌^◌, ◌==◌, List, [], ◌∷◌, decimal, Bool, true}
use Rattle.std.specs.List.{list_any}

-- a number or a letter
pub data Field : Type 0 where
  Number : (n : ℕ) → Field
  Letter : (letter : ℕ) → Field

-- a field's one spelling: a blank, then the number in decimal digits or the letter
abbrev pub field_text : Field → List ℕ
field_text (Number n) = 32 ∷ decimal n
field_text (Letter letter) = 32 ∷ letter ∷ []

-- the number, or the letter's code
abbrev pub value : Field → ℕ
value (Number n) = n
value (Letter letter) = letter

-- what a field may be: any number, or one of these letters
pub data Kind : Type 0 where
  AnyNumber : Kind
  OneOf : (letters : List ℕ) → Kind

-- a number that a text may have: at most 19 digits
abbrev pub IsShort : ℕ → Type 0
IsShort n = n < 10 ^ 19

abbrev pub is_one_of : List ℕ → ℕ → Bool
is_one_of letters letter = list_any (λ other. other == letter) letters

abbrev pub IsOfKind : Kind → Field → Type 0
IsOfKind AnyNumber (Number n) = IsShort n
IsOfKind (OneOf letters) (Letter letter) = is_one_of letters letter ≡ true
IsOfKind kind field = ⊥

-- as many fields as kinds, each of its kind
abbrev pub AreOfKinds : List Kind → List Field → Type 0
AreOfKinds [] [] = Unit {0}
AreOfKinds (kind ∷ kinds) (field ∷ fields) = IsOfKind kind field × AreOfKinds kinds fields
AreOfKinds kinds fields = ⊥
