-- Lines that lead from one state of a format to another.
use Rattle.std.proofs.Common.{◌≡◌, ◌∙◌, refl, sym, ap, ℕ, List, [], ◌∷◌, ◌++◌, true, None, Result, Ok, Err}
use Rattle.std.specs.List.{flat_map}
use Rattle.cpl_lines.specs.declared.fault.LinesError.{LinesError}
use Rattle.cpl_lines.specs.Lines.{Line, line_text, IsOfForm}
use Rattle.cpl_lines.specs.Formats.{Format, made_of}
use Rattle.cpl_lines.specs.Reading.{lines_of, made_with, made_from}
use Rattle.cpl_lines.proofs.Turns.{InOrder, lines_read, read_in_order}

module _ {State Made : Type 0} (format : Format State Made) where
  -- each line is of the form that comes next and keeps the limits, and they lead to this state and to all that is made
  abbrev pub Leads : State → Made → List Line → State → Made → Type 0
  Leads state made [] end all = (state ≡ end) × (made ≡ all)
  Leads state made (line ∷ lines) end all =
      IsOfForm (format.form state) line × (format.keeps state line ≡ true) × Leads (format.after state line) (format.add state line made) lines end all

  pub leads_on : (state : State) (made : Made) (lines : List Line) (middle : State) (part : Made) (others : List Line) (end : State) (all : Made)
      → Leads state made lines middle part → Leads middle part others end all → Leads state made (lines ++ others) end all
  leads_on state made [] middle part others end all here more = rw (here.0, here.1) more
  leads_on state made (line ∷ lines) middle part others end all here more =
      (here.0, here.1, leads_on (format.after state line) (format.add state line made) lines middle part others end all here.2 more)

  pub leads_in_order : (state : State) (made : Made) (lines : List Line) (end : State) (all : Made) → Leads state made lines end all → format.form end ≡ None
      → InOrder format state lines
  leads_in_order state made [] end all here ended = rw here.0 ended
  leads_in_order state made (line ∷ lines) end all here ended =
      (here.0, here.1, leads_in_order (format.after state line) (format.add state line made) lines end all here.2 ended)

  pub leads_made : (state : State) (made : Made) (lines : List Line) (end : State) (all : Made) → Leads state made lines end all → made_of format state made lines ≡ all
  leads_made state made [] end all here = here.1
  leads_made state made (line ∷ lines) end all here = leads_made (format.after state line) (format.add state line made) lines end all here.2

  -- what lines to the end spell makes all that they lead to
  pub text_makes : (start : State) (nothing : Made) (lines : List Line) (end : State) (all : Made) → Leads start nothing lines end all → format.form end ≡ None
      → made_from format start nothing (flat_map line_text lines) ≡ Ok all
  text_makes start nothing lines end all here ended =
      ap (made_with format start nothing) (lines_read format start lines (leads_in_order start nothing lines end all here ended))
      ∙ ap (λ (made : Made). Ok made) (leads_made start nothing lines end all here)

  -- what a text made: its lines are in order, and where lines lead, all that they lead to is what was made
  pub record IsMade (start : State) (nothing : Made) (bytes : List ℕ) (made : Made) : Type 0 where
    pub lines : List Line
    pub order : InOrder format start lines
    pub text : bytes ≡ flat_map line_text lines
    pub leads_to : (others : List Line) (end : State) (all : Made) → lines ≡ others → Leads start nothing others end all → all ≡ made

  lines_made : (start : State) (nothing : Made) (bytes : List ℕ) (read : Result (List Line) LinesError) → lines_of format start bytes ≡ read → (made : Made)
      → made_with format start nothing read ≡ Ok made → IsMade start nothing bytes made
  lines_made start nothing bytes (Err fault) is made e = absurd cc
  lines_made start nothing bytes (Ok lines) is made e =
      let read = read_in_order format start bytes lines is in
      let same : made_of format start nothing lines ≡ made = cc in
      record {
        lines = lines;
        order = read.0;
        text = read.1;
        leads_to = λ others end all is leads.
            sym (leads_made start nothing others end all leads) ∙ ap (made_of format start nothing) (sym is) ∙ same;
      }

  pub made_is : (start : State) (nothing : Made) (bytes : List ℕ) (made : Made) → made_from format start nothing bytes ≡ Ok made → IsMade start nothing bytes made
  made_is start nothing bytes made e = lines_made start nothing bytes (lines_of format start bytes) refl made e
