-- The line of a contact, read piece by piece.
use Rattle.std.proofs.Common.{◌≡◌, ◌∙◌, refl, ap, ℕ, List, [], ◌∷◌, ◌++◌, codes, Option, Some, None}
use Rattle.cpl_lines.specs.Fields.{Field, OneOf}
use Rattle.cpl_lines.specs.Lines.{line_feed}
use Rattle.cpl_lines.specs.Reading.{word_at, field_at, fields_at, row_at, ◌>>=◌}
use Rattle.cpl_lines.proofs.Fields.{joined, fields_joined}
use Rattle.cpl_gridfile.specs.MeshFormat.{span_kinds, contact_form}

-- the fields of a contact after its word
fields_are : (bytes second flip rest : List ℕ) (first_span second_span : List Field) (letter : Field) → fields_at span_kinds bytes ≡ Some (first_span, second)
    → fields_at span_kinds second ≡ Some (second_span, flip) → field_at (OneOf (codes "01")) flip ≡ Some (letter, rest)
    → fields_at (span_kinds ++ (span_kinds ++ OneOf (codes "01") ∷ [])) bytes ≡ Some (first_span ++ (second_span ++ letter ∷ []), rest)
fields_are bytes second flip rest first_span second_span letter first second_is flip_is =
    let last : fields_at (OneOf (codes "01") ∷ []) flip ≡ Some (letter ∷ [], rest) = rw flip_is refl in
    let others : fields_at (span_kinds ++ OneOf (codes "01") ∷ []) second ≡ joined second_span (Some (letter ∷ [], rest)) =
    fields_joined span_kinds (OneOf (codes "01") ∷ []) second second_span flip second_is ∙ ap (joined second_span) last in
    fields_joined span_kinds (span_kinds ++ OneOf (codes "01") ∷ []) bytes first_span second first ∙ ap (joined first_span) others

-- what the line tells, if it ends there
contact_is : (bytes fields second flip rest : List ℕ) (first_span second_span : List Field) (letter : Field) → word_at (codes "contact") bytes ≡ Some fields
    → fields_at span_kinds fields ≡ Some (first_span, second)
    → fields_at span_kinds second ≡ Some (second_span, flip) → field_at (OneOf (codes "01")) flip ≡ Some (letter, rest)
    → row_at contact_form bytes ≡ (word_at line_feed rest >>= λ more. Some (record { word = codes "contact"; fields = first_span ++ (second_span ++ letter ∷ []) }, more))
unfolding row_at
contact_is bytes fields second flip rest first_span second_span letter word first second_is flip_is =
    let all = fields_are fields second flip rest first_span second_span letter first second_is flip_is in
    rw word (ap (λ (o : Option (List Field × List ℕ)). o >>= λ found. word_at line_feed found.1 >>= λ more. Some (record { word = codes "contact"; fields = found.0 }, more)) all)

pub ends_there : (bytes fields second flip rest more : List ℕ) (first_span second_span : List Field) (letter : Field) → word_at (codes "contact") bytes ≡ Some fields
    → fields_at span_kinds fields ≡ Some (first_span, second)
    → fields_at span_kinds second ≡ Some (second_span, flip) → field_at (OneOf (codes "01")) flip ≡ Some (letter, rest) → word_at line_feed rest ≡ Some more
    → row_at contact_form bytes ≡ Some (record { word = codes "contact"; fields = first_span ++ (second_span ++ letter ∷ []) }, more)
ends_there bytes fields second flip rest more first_span second_span letter word first second_is flip_is end =
    contact_is bytes fields second flip rest first_span second_span letter word first second_is flip_is ∙ rw end refl

pub ends_not : (bytes fields second flip rest : List ℕ) (first_span second_span : List Field) (letter : Field) → word_at (codes "contact") bytes ≡ Some fields
    → fields_at span_kinds fields ≡ Some (first_span, second)
    → fields_at span_kinds second ≡ Some (second_span, flip) → field_at (OneOf (codes "01")) flip ≡ Some (letter, rest) → word_at line_feed rest ≡ None
    → row_at contact_form bytes ≡ None
ends_not bytes fields second flip rest first_span second_span letter word first second_is flip_is end =
    contact_is bytes fields second flip rest first_span second_span letter word first second_is flip_is ∙ rw end refl
