-- What a writer that quotes nothing writes.
use Rattle.std.proofs.Common.{◌≡◌, ◌≢◌, ℕ, ◌≤◌, List, [], ◌∷◌, ◌++◌, Option, Some, None, length, false, ap, subst, ◌∙◌, append-nil, arith}
use Rattle.std.specs.Prelude.{Vec}
use Rattle.std.specs.declared.alloc.Global.{Global}
use Rattle.std.specs.List.{join_with_byte}
use Rattle.std.specs.Io.KnownBytes.{Appends}
use Rattle.csv.specs.declared.writer.Writer.{Writer}
use Rattle.csv.specs.declared.writer.WriterBuilder.{WriterBuilder}
use Rattle.csv.specs.declared.writer.QuoteStyle.TheVariants as style
use Rattle.csv.specs.Writing.{fields_text, is_blank, row_body, row_text, writer_setup, fields_written, has_written, text_written}
use Rattle.cpl_stocks.specs.Lines.{line, comma}
use Rattle.cpl_stocks.specs.Writers.{unquoted, contents, Wrote}

joined : (field : List ℕ) (fields : List (List ℕ)) → row_body unquoted (field ∷ fields) ≡ join_with_byte comma (field ∷ fields)
unfolding fields_text
joined field [] = append-nil field
joined field (next ∷ fields) = ap (λ (rest : List ℕ). field ++ (comma ∷ rest)) (joined next fields)

-- a row of two fields or more is a line
row-line : (fields : List (List ℕ)) → 2 ≤ length fields → row_text unquoted fields ≡ line fields
unfolding is_blank
row-line [] two = absurd (omega arith)
row-line (field ∷ []) two = absurd (omega arith)
row-line (field ∷ next ∷ fields) two = ap (λ (body : List ℕ). body ++ (10 ∷ [])) (joined field (next ∷ fields))

appended : (new : Option (List ℕ)) (old bytes : List ℕ) → Appends (Some old) new bytes → new ≡ Some (old ++ bytes)
appended None old bytes h = absurd h
appended (Some all) old bytes h = ap Some h

grown : (known new : Option (List ℕ)) (old bytes : List ℕ) → known ≡ Some old → Appends known new bytes → new ≡ Some (old ++ bytes)
grown known new old bytes is h = appended new old bytes (subst (λ (known : Option (List ℕ)). Appends known new bytes) is h)

-- what a call that wrote a row did
pub record WroteRow (old new : Writer (Vec ℕ Global)) (fields : List (List ℕ)) : Type 0 where
  pub text : fields_written old ≡ 0 → has_written old ≡ false → ((writer_setup old).style ≢ style.NonNumeric)
      → Appends (text_written contents old) (text_written contents new) (row_text (writer_setup old) fields)
  pub ended : fields_written new ≡ 0
  pub clean : has_written new ≡ false
  pub setup : writer_setup new ≡ writer_setup old

-- a line was written
pub wrote_line : {old new : Writer (Vec ℕ Global)} {fields : List (List ℕ)} {bytes : List ℕ} → WroteRow old new fields → 2 ≤ length fields → Wrote old bytes → Wrote new (bytes ++ line fields)
wrote_line {old = old} {new = new} {fields = fields} {bytes = bytes} row two wrote =
    let plain : (writer_setup old).style ≢ style.NonNumeric = rw wrote.setup (λ e. cc e) in
    let same : row_text (writer_setup old) fields ≡ line fields = ap (λ (setup : WriterBuilder). row_text setup fields) wrote.setup ∙ row-line fields two in
    record {
      setup = row.setup ∙ wrote.setup;
      fields = row.ended;
      clean = row.clean;
      text = grown (text_written contents old) (text_written contents new) bytes (row_text (writer_setup old) fields) wrote.text (row.text wrote.fields wrote.clean plain)
          ∙ ap (λ (row : List ℕ). Some (bytes ++ row)) same;
    }
