-- The fields of a line: what is read is spelled so, and what is spelled so is read.
use Rattle.std.proofs.Common.{◌≡◌, ◌∙◌, refl, ap, subst, ℕ, List, [], ◌∷◌, ◌++◌, length, true, Option, Some, None, append_assoc, eqb}
use Rattle.std.specs.List.{flat_map, starts_with}
use Rattle.std.proofs.lemmas.Bool.Decides.{Decides-eqb}
use Rattle.std.proofs.lemmas.List.{drop_at}
use Rattle.std.proofs.lemmas.Slice.Eq.{starts_is}
use Rattle.cpl_lines.specs.Fields.{Field, Number, Letter, Kind, AnyNumber, OneOf, field_text, is_one_of, IsOfKind, AreOfKinds}
use Rattle.cpl_lines.specs.Reading.{word_at, number_at, letter_at, value_at, field_at, fields_at, ◌>>=◌}
use Rattle.cpl_lines.proofs.Binds.{Takes, cond_some, bind_some, some_is}
use Rattle.cpl_lines.proofs.Numerals.{NoDigit, number_takes, number_again}

-- ---- a word

pub word_takes : (word bytes rest : List ℕ) → word_at word bytes ≡ Some rest → bytes ≡ word ++ rest
word_takes word bytes rest e =
    let p = cond_some (starts_with eqb bytes word) _ rest e in
    (starts_is Decides-eqb bytes word (starts_with eqb bytes word) refl).0 p.0 ∙ ap (λ (l : List ℕ). word ++ l) p.1

pub word_again : (word rest : List ℕ) → word_at word (word ++ rest) ≡ Some rest
word_again word rest =
    let stands : starts_with eqb (word ++ rest) word ≡ true = (starts_is Decides-eqb (word ++ rest) word (starts_with eqb (word ++ rest) word) refl).1 rest refl in
    rw (stands, drop_at word rest (length word) refl) refl

-- ---- a field

letter_takes : (letters bytes : List ℕ) (x : ℕ × List ℕ) → letter_at letters bytes ≡ Some x → (bytes ≡ x.0 ∷ x.1) × (is_one_of letters x.0 ≡ true)
letter_takes letters [] x e = absurd cc
letter_takes letters (letter ∷ bytes) x e =
    let p = cond_some (is_one_of letters letter) (letter, bytes) x e in
    rw (← p.1) (refl, p.0)

value_takes : (kind : Kind) (bytes : List ℕ) (x : Field × List ℕ) → value_at kind bytes ≡ Some x → (32 ∷ bytes ≡ field_text x.0 ++ x.1) × IsOfKind kind x.0
value_takes AnyNumber bytes x e =
    let a = bind_some (number_at bytes) (λ found. _) x e in
    let n = number_takes bytes a.0 a.1 in
    rw (← some_is a.2) (ap (λ (l : List ℕ). 32 ∷ l) n.0, n.1)
value_takes (OneOf letters) bytes x e =
    let a = bind_some (letter_at letters bytes) (λ found. _) x e in
    let l = letter_takes letters bytes a.0 a.1 in
    rw (← some_is a.2) (ap (λ (l : List ℕ). 32 ∷ l) l.0, l.1)

pub field_takes : (kind : Kind) (bytes : List ℕ) (x : Field × List ℕ) → field_at kind bytes ≡ Some x → Takes field_text (IsOfKind kind) bytes x
unfolding field_at
field_takes kind bytes x e =
    let a = bind_some (word_at (32 ∷ []) bytes) (value_at kind) x e in
    let v = value_takes kind a.0 x a.2 in
    (word_takes (32 ∷ []) bytes a.0 a.1 ∙ v.0, v.1)

pub field_again : (kind : Kind) (field : Field) (rest : List ℕ) → IsOfKind kind field → NoDigit rest → field_at kind (field_text field ++ rest) ≡ Some (field, rest)
unfolding field_at
field_again AnyNumber (Number n) rest short none = rw (number_again n rest short none) refl
field_again (OneOf letters) (Letter letter) rest among none = rw among refl
field_again AnyNumber (Letter letter) rest is none = absurd is
field_again (OneOf letters) (Number n) rest is none = absurd is

-- ---- fields

abbrev pub fields_text : List Field → List ℕ
fields_text fields = flat_map field_text fields

pub fields_takes : (kinds : List Kind) (bytes : List ℕ) (x : List Field × List ℕ) → fields_at kinds bytes ≡ Some x → Takes fields_text (AreOfKinds kinds) bytes x
fields_takes [] bytes x e = subst (Takes fields_text (AreOfKinds []) bytes) (some_is e) (refl, tt)
fields_takes (kind ∷ kinds) bytes x e =
    let a = bind_some (field_at kind bytes) (λ first. _) x e in
    let b = bind_some (fields_at kinds a.0.1) (λ others. _) x a.2 in
    let first = field_takes kind bytes a.0 a.1 in
    let others = fields_takes kinds a.0.1 b.0 b.1 in
    subst (Takes fields_text (AreOfKinds (kind ∷ kinds)) bytes) (some_is b.2)
    (simp append_assoc (cc (first.0, others.0)), (first.1, others.1))

-- no digit stands at the front of fields
no_digit_first : (fields : List Field) (rest : List ℕ) → NoDigit rest → NoDigit (fields_text fields ++ rest)
no_digit_first [] rest none = none
no_digit_first (Number n ∷ fields) rest none = refl
no_digit_first (Letter letter ∷ fields) rest none = refl

pub fields_again : (kinds : List Kind) (fields : List Field) (rest : List ℕ) → AreOfKinds kinds fields → NoDigit rest
    → fields_at kinds (fields_text fields ++ rest) ≡ Some (fields, rest)
fields_again [] [] rest are none = refl
fields_again [] (field ∷ fields) rest are none = absurd are
fields_again (kind ∷ kinds) [] rest are none = absurd are
fields_again (kind ∷ kinds) (field ∷ fields) rest are none =
    let first = field_again kind field (fields_text fields ++ rest) are.0 (no_digit_first fields rest none) in
    rw (append_assoc (field_text field) (fields_text fields) rest, first, fields_again kinds fields rest are.1 none) refl

-- fields before those that are found
abbrev pub joined : List Field → Option (List Field × List ℕ) → Option (List Field × List ℕ)
joined fields None = None
joined fields (Some others) = Some (fields ++ others.0, others.1)

with_others : (first : Field) (more : List Field) (others : Option (List Field × List ℕ)) → (joined more others >>= λ z. Some (first ∷ z.0, z.1)) ≡ joined (first ∷ more) others
with_others first more (Some y) = refl
with_others first more None = refl

alone : (found : Option (List Field × List ℕ)) → found ≡ joined [] found
alone (Some y) = refl
alone None = refl

first_joined : (kind : Kind) (kinds others : List Kind) (bytes next rest : List ℕ) (first : Field) (more : List Field) → field_at kind bytes ≡ Some (first, next)
    → fields_at (kinds ++ others) next ≡ joined more (fields_at others rest) → fields_at (kind ∷ kinds ++ others) bytes ≡ joined (first ∷ more) (fields_at others rest)
first_joined kind kinds others bytes next rest first more found e = rw (found, e) (with_others first more (fields_at others rest))

-- fields and those after them are read one after the other
pub fields_joined : (kinds others : List Kind) (bytes : List ℕ) (fields : List Field) (rest : List ℕ) → fields_at kinds bytes ≡ Some (fields, rest)
    → fields_at (kinds ++ others) bytes ≡ joined fields (fields_at others rest)
fields_joined [] others bytes fields rest e =
    subst (λ (x : List Field × List ℕ). fields_at others bytes ≡ joined x.0 (fields_at others x.1)) (some_is e) (alone (fields_at others bytes))
fields_joined (kind ∷ kinds) others bytes fields rest e =
    let a = bind_some (field_at kind bytes) (λ first. _) (fields, rest) e in
    let b = bind_some (fields_at kinds a.0.1) (λ more. _) (fields, rest) a.2 in
    let whole = first_joined kind kinds others bytes a.0.1 b.0.1 a.0.0 b.0.0 a.1 (fields_joined kinds others a.0.1 b.0.0 b.0.1 b.1) in
    subst (λ (x : List Field × List ℕ). fields_at (kind ∷ kinds ++ others) bytes ≡ joined x.0 (fields_at others x.1)) (some_is b.2) whole
