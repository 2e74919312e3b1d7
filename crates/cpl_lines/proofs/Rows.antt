-- A line that is found has its form, and a line of its form is found.
use Rattle.std.proofs.Common.{◌≡◌, ◌∙◌, refl, sym, ap, subst, ℕ, ◌+◌, ◌<◌, List, ◌∷◌, ◌++◌, length, Option, Some, None, append_assoc, length-append, arith}
use Rattle.cpl_lines.specs.Lines.{Line, Form, line_text, line_feed}
use Rattle.cpl_lines.specs.Formats.{HasForm}
use Rattle.cpl_lines.specs.Reading.{word_at, fields_at, row_at, line_at}
use Rattle.cpl_lines.proofs.Binds.{bind_some, some_is}
use Rattle.cpl_lines.proofs.Fields.{fields_text, word_takes, word_again, fields_takes, fields_again}

-- the pieces of a line's text, one after the other
pieces : (word fields rest : List ℕ) → ((word ++ fields) ++ line_feed) ++ rest ≡ word ++ (fields ++ (10 ∷ rest))
pieces word fields rest = simp append_assoc

row_takes : (form : Form) (bytes : List ℕ) (line : Line) (rest : List ℕ) → row_at form bytes ≡ Some (line, rest) → HasForm (Some form) bytes line rest
unfolding row_at
row_takes form bytes line rest e =
    let a = bind_some (word_at form.word bytes) (λ after_word. _) (line, rest) e in
    let b = bind_some (fields_at form.kinds a.0) (λ fields. _) (line, rest) a.2 in
    let c = bind_some (word_at line_feed b.0.1) (λ more. _) (line, rest) b.2 in
    let fields = fields_takes form.kinds a.0 b.0 b.1 in
    let text : bytes ≡ ((form.word ++ fields_text b.0.0) ++ line_feed) ++ c.0 =
    word_takes form.word bytes a.0 a.1
    ∙ ap (λ (l : List ℕ). form.word ++ l) (fields.0 ∙ ap (λ (l : List ℕ). fields_text b.0.0 ++ l) (word_takes line_feed b.0.1 c.0 c.1))
    ∙ sym (pieces form.word (fields_text b.0.0) c.0) in
    subst (λ (found : Line × List ℕ). HasForm (Some form) bytes found.0 found.1) (some_is c.2)
    (record { form = (refl, fields.1); text = text })

row_again : (form : Form) (bytes : List ℕ) (line : Line) (rest : List ℕ) → HasForm (Some form) bytes line rest → row_at form bytes ≡ Some (line, rest)
unfolding row_at
row_again form bytes line rest has =
    let whole : bytes ≡ form.word ++ (fields_text line.fields ++ (10 ∷ rest)) =
    has.text ∙ pieces line.word (fields_text line.fields) rest ∙ ap (λ (word : List ℕ). word ++ (fields_text line.fields ++ (10 ∷ rest))) has.form.0 in
    let word = word_again form.word (fields_text line.fields ++ (10 ∷ rest)) in
    let fields = fields_again form.kinds line.fields (10 ∷ rest) has.form.1 refl in
    rw (whole, word, fields) (λ i. Some (record { word = sym has.form.0 i; fields = line.fields }, rest))

pub line_takes : (wanted : Option Form) (bytes : List ℕ) (line : Line) (rest : List ℕ) → line_at wanted bytes ≡ Some (line, rest) → HasForm wanted bytes line rest
line_takes None bytes line rest e = absurd cc
line_takes (Some form) bytes line rest e = row_takes form bytes line rest e

pub line_again : (wanted : Option Form) (bytes : List ℕ) (line : Line) (rest : List ℕ) → HasForm wanted bytes line rest → line_at wanted bytes ≡ Some (line, rest)
line_again None bytes line rest has = absurd has.form
line_again (Some form) bytes line rest has = row_again form bytes line rest has

-- each line takes a byte
pub takes_byte : (wanted : Option Form) (bytes : List ℕ) (line : Line) (rest : List ℕ) → HasForm wanted bytes line rest → length rest < length bytes
takes_byte wanted bytes line rest has =
    let whole : length bytes ≡ length (line_text line) + length rest = ap length has.text ∙ length-append (line_text line) rest in
    let ending : length (line_text line) ≡ length (line.word ++ fields_text line.fields) + 1 = length-append (line.word ++ fields_text line.fields) line_feed in
    omega (arith, whole, ending)
