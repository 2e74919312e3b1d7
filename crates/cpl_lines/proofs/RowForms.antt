-- Lines of the forms of rows.
use Rattle.std.proofs.Common.{◌≡◌, ◌∙◌, refl, sym, ap, ℕ, zero, suc, List, [], ◌∷◌, length, get_or, map, replicate, Some, All, arith}
use Rattle.std.proofs.lemmas.List.Elements.{All-head, All-tail}
use Rattle.cpl_lines.specs.Fields.{Field, Number, Letter, Kind, AnyNumber, OneOf, value, IsShort, AreOfKinds}
use Rattle.cpl_lines.specs.Lines.{Line, Form, IsOfForm, row, row_form, values}

-- ---- a row of numbers

pub values_of_row : (numbers : List ℕ) → map value (map Number numbers) ≡ numbers
values_of_row [] = refl
values_of_row (n ∷ numbers) = ap (λ (l : List ℕ). n ∷ l) (values_of_row numbers)

numbers_of_kind : (numbers : List ℕ) → All IsShort numbers → AreOfKinds (replicate (length numbers) AnyNumber) (map Number numbers)
numbers_of_kind [] short = tt
numbers_of_kind (n ∷ numbers) short = (All-head IsShort n numbers short, numbers_of_kind numbers (All-tail IsShort n numbers short))

pub row_has_form : (word numbers : List ℕ) → All IsShort numbers → IsOfForm (Some (row_form word (length numbers))) (row word numbers)
row_has_form word numbers short = (refl, numbers_of_kind numbers short)

-- ---- what a line of a form says

-- fields of these kinds, by their values
abbrev pub fields_by : List Kind → List ℕ → List Field
fields_by [] numbers = []
fields_by (kind ∷ kinds) [] = []
fields_by (AnyNumber ∷ kinds) (n ∷ numbers) = Number n ∷ fields_by kinds numbers
fields_by (OneOf letters ∷ kinds) (n ∷ numbers) = Letter n ∷ fields_by kinds numbers

pub fields_are : (kinds : List Kind) (fields : List Field) → AreOfKinds kinds fields → fields ≡ fields_by kinds (map value fields)
fields_are [] [] are = refl
fields_are [] (field ∷ fields) are = absurd are
fields_are (kind ∷ kinds) [] are = absurd are
fields_are (AnyNumber ∷ kinds) (Number n ∷ fields) are = ap (λ (l : List Field). Number n ∷ l) (fields_are kinds fields are.1)
fields_are (AnyNumber ∷ kinds) (Letter l ∷ fields) are = absurd are.0
fields_are (OneOf letters ∷ kinds) (Number n ∷ fields) are = absurd are.0
fields_are (OneOf letters ∷ kinds) (Letter l ∷ fields) are = ap (λ (l' : List Field). Letter l ∷ l') (fields_are kinds fields are.1)

pub as_many : (kinds : List Kind) (fields : List Field) → AreOfKinds kinds fields → length (map value fields) ≡ length kinds
as_many [] [] are = refl
as_many [] (field ∷ fields) are = absurd are
as_many (kind ∷ kinds) [] are = absurd are
as_many (kind ∷ kinds) (field ∷ fields) are = ap suc (as_many kinds fields are.1)

-- a list by its entries, from an index on
abbrev pub entries : ℕ → ℕ → List ℕ → List ℕ
entries from zero numbers = []
entries from (suc count) numbers = get_or numbers from 0 ∷ entries (suc from) count numbers

entries_of_rest : (from count n : ℕ) (numbers : List ℕ) → entries (suc from) count (n ∷ numbers) ≡ entries from count numbers
entries_of_rest from zero n numbers = refl
entries_of_rest from (suc count) n numbers = ap (λ (l : List ℕ). get_or numbers from 0 ∷ l) (entries_of_rest (suc from) count n numbers)

pub by_entries : (numbers : List ℕ) → numbers ≡ entries 0 (length numbers) numbers
by_entries [] = refl
by_entries (n ∷ numbers) = ap (λ (l : List ℕ). n ∷ l) (by_entries numbers ∙ sym (entries_of_rest 0 (length numbers) n numbers))

-- a line of a form is its word and the fields of its kinds, by their values
pub line_is : (form : Form) (line : Line) → IsOfForm (Some form) line
    → line ≡ record { word = form.word; fields = fields_by form.kinds (entries 0 (length form.kinds) (values line)) }
line_is form line is =
    let numbers : List ℕ = values line in
    let entered : numbers ≡ entries 0 (length form.kinds) numbers =
    by_entries numbers ∙ ap (λ (n : ℕ). entries 0 n numbers) (as_many form.kinds line.fields is.1) in
    let fields : line.fields ≡ fields_by form.kinds (entries 0 (length form.kinds) numbers) = fields_are form.kinds line.fields is.1 ∙ ap (fields_by form.kinds) entered in
    (λ i. record { word = is.0 i; fields = fields i })

-- the values of a line of a row's form
fields_of_numbers : (count : ℕ) (numbers : List ℕ) → length numbers ≡ count → fields_by (replicate count AnyNumber) numbers ≡ map Number numbers
fields_of_numbers zero [] e = refl
fields_of_numbers zero (n ∷ numbers) e = absurd (omega arith)
fields_of_numbers (suc count) [] e = absurd (omega arith)
fields_of_numbers (suc count) (n ∷ numbers) e = ap (λ (l : List Field). Number n ∷ l) (fields_of_numbers count numbers (omega arith))

kinds_count : (count : ℕ) → length (replicate count AnyNumber) ≡ count
kinds_count zero = refl
kinds_count (suc count) = ap suc (kinds_count count)

pub row_is : (word : List ℕ) (count : ℕ) (line : Line) → IsOfForm (Some (row_form word count)) line → (line ≡ row word (values line)) × (length (values line) ≡ count)
row_is word count line is =
    let many : length (values line) ≡ count = as_many (replicate count AnyNumber) line.fields is.1 ∙ kinds_count count in
    let fields : line.fields ≡ map Number (values line) = fields_are (replicate count AnyNumber) line.fields is.1 ∙ fields_of_numbers count (values line) many in
    (λ i. record { word = is.0 i; fields = fields i }, many)
