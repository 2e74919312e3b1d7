-- Writers of the crate `csv` that quote nothing, over a text in memory.
use Rattle.std.specs.Prelude.{◌≡◌, ℕ, List, ◌++◌, Option, Some, Vec, false}
use Rattle.std.specs.declared.alloc.Global.{Global}
use Rattle.csv.specs.declared.writer.Writer.{Writer}
use Rattle.csv.specs.declared.writer.WriterBuilder.{WriterBuilder}
use Rattle.csv.specs.declared.writer.QuoteStyle.TheVariants as style
use Rattle.csv.specs.Writing.{default_writer, with_style, writer_setup, fields_written, has_written, text_written}

-- the default settings, but that nothing is quoted
abbrev pub unquoted : WriterBuilder
unquoted = with_style default_writer style.Never

-- what a text in memory holds
abbrev pub contents : Vec ℕ Global → Option (List ℕ)
contents text = Some text.items

-- all that was written is these bytes, and no line is begun
pub record Wrote (writer : Writer (Vec ℕ Global)) (bytes : List ℕ) : Type 0 where
  pub setup : writer_setup writer ≡ unquoted
  pub fields : fields_written writer ≡ 0
  pub clean : has_written writer ≡ false
  pub text : text_written contents writer ≡ Some bytes

-- these bytes were written
abbrev pub Writes : Writer (Vec ℕ Global) → Writer (Vec ℕ Global) → List ℕ → Type 0
Writes old new bytes = (text : List ℕ) → Wrote old text → Wrote new (text ++ bytes)
