-- Reading a text line by line, as far as it has come.
use Rattle.std.proofs.Common.{◌≡◌, ◌≢◌, ◌∙◌, refl, sym, ap, subst, ℕ, zero, suc, ◌+◌, ◌<◌, List, [], ◌∷◌, length, true, false, Option, Some, None, Result, Ok, Err, arith, inl, inr}
use Rattle.std.proofs.lemmas.Bool.{cases_Bool}
use Rattle.cpl_fixed.specs.Results.{Fails}
use Rattle.cpl_lines.specs.declared.fault.LineFault.{LineFault}
use Rattle.cpl_lines.specs.declared.fault.LineFault.TheVariants as line
use Rattle.cpl_lines.specs.declared.fault.LinesError.{LinesError}
use Rattle.cpl_lines.specs.declared.fault.LinesError.TheVariants.{Syntax}
use Rattle.cpl_lines.specs.Lines.{Line}
use Rattle.cpl_lines.specs.Formats.{Format, HasForm}
use Rattle.cpl_lines.specs.Reading.{line_at, with_line, nothing_after, line_and_others, lines_from, lines_of, made_with, made_from}
use Rattle.cpl_lines.specs.Steps.{is_memory, is_out_of_memory, fault_at, judged_line, step_of}
use Rattle.cpl_lines.proofs.Rows.{line_takes, takes_byte}
use Rattle.cpl_lines.proofs.Turns.{one_turn, passes}

module _ {State Made : Type 0} (format : Format State Made) where
  -- a step that is taken
  pub record Stepped (state : State) (made : Made) (bytes : List ℕ) (next : State × Made × List ℕ) : Type 0 where
    pub line : Line
    pub rest : List ℕ
    pub has : HasForm (format.form state) bytes line rest
    pub keeps : format.keeps state line ≡ true
    pub is : ◌≡◌ {A = State × Made × List ℕ} (format.after state line, format.add state line made, rest) next

  taken : (state : State) (made : Made) (bytes : List ℕ) (found : Option (Line × List ℕ)) → line_at (format.form state) bytes ≡ found → (next : State × Made × List ℕ)
      → judged_line format state made found ≡ Ok next → Stepped state made bytes next
  taken state made bytes None at next e = absurd cc
  taken state made bytes (Some found) at next e = elim (cases_Bool (format.keeps state found.0)) [
    | inl keeps ↦
        let given : judged_line format state made (Some found) ≡ Ok (format.after state found.0, format.add state found.0 made, found.1) = rw keeps refl in
        let same : ◌≡◌ {A = Result (State × Made × List ℕ) LineFault} (Ok (format.after state found.0, format.add state found.0 made, found.1)) (Ok next) = sym given ∙ e in
        record {
          line = found.0;
          rest = found.1;
          has = line_takes (format.form state) bytes found.0 found.1 at;
          keeps = keeps;
          is = cc;
        }
    | inr breaks ↦ let given : judged_line format state made (Some found) ≡ Err line.Limit = rw breaks refl in absurd (cc (given, e))
  ]

  pub step_taken : (state : State) (made : Made) (bytes : List ℕ) (next : State × Made × List ℕ) → step_of format state made bytes ≡ Ok next → Stepped state made bytes next
  step_taken state made bytes next e = taken state made bytes (line_at (format.form state) bytes) refl next e

  -- a step whose line doesn't have its form
  no_form : (state : State) (made : Made) (found : Option (Line × List ℕ)) → judged_line format state made found ≡ Err line.Form → found ≡ None
  no_form state made None e = refl
  no_form state made (Some x) e = elim (cases_Bool (format.keeps state x.0)) [
    | inl keeps ↦ let given : judged_line format state made (Some x) ≡ Ok (format.after state x.0, format.add state x.0 made, x.1) = rw keeps refl in absurd (cc (given, e))
    | inr breaks ↦ let given : judged_line format state made (Some x) ≡ Err line.Limit = rw breaks refl in absurd (cc (given, e))
  ]

  -- a step whose line breaks a limit
  broken : (state : State) (made : Made) (found : Option (Line × List ℕ)) → judged_line format state made found ≡ Err line.Limit
      → (x : Line × List ℕ) × (found ≡ Some x) × (format.keeps state x.0 ≡ false)
  broken state made None e = absurd cc
  broken state made (Some x) e = elim (cases_Bool (format.keeps state x.0)) [
    | inl keeps ↦ let given : judged_line format state made (Some x) ≡ Ok (format.after state x.0, format.add state x.0 made, x.1) = rw keeps refl in absurd (cc (given, e))
    | inr breaks ↦ (x, refl, breaks)
  ]

  made_on : (state : State) (made : Made) (line : Line) (others : Result (List Line) LinesError)
      → made_with format state made (with_line line others) ≡ made_with format (format.after state line) (format.add state line made) others
  made_on state made line (Ok lines) = refl
  made_on state made line (Err fault) = refl

module _ {State Made : Type 0} (format : Format State Made) (start : State) (nothing : Made) (bytes : List ℕ) where
  -- what is left to read, added to what is made so far, is the whole
  pub record SoFar (state : State) (made : Made) (number : ℕ) (rest : List ℕ) : Type 0 where
    pub turns : ℕ
    pub enough : length rest < turns
    pub whole : made_with format state made (lines_from turns format state number rest) ≡ made_from format start nothing bytes

  pub begins : SoFar start nothing 1 bytes
  unfolding lines_of
  begins = record { turns = length bytes + 1; enough = omega arith; whole = refl }

  -- one turn more
  turn_left : (state : State) (made : Made) (number : ℕ) (rest : List ℕ) → SoFar state made number rest
      → (turns : ℕ) × (length rest < suc turns) × (made_with format state made (lines_from (suc turns) format state number rest) ≡ made_from format start nothing bytes)
  turn_left state made number rest far = by far.turns far.enough far.whole
    where
      by : (turns : ℕ) → length rest < turns → made_with format state made (lines_from turns format state number rest) ≡ made_from format start nothing bytes
          → (turns : ℕ) × (length rest < suc turns) × (made_with format state made (lines_from (suc turns) format state number rest) ≡ made_from format start nothing bytes)
      by zero enough whole = absurd (omega arith)
      by (suc turns) enough whole = (turns, enough, whole)

  -- a step leads on, over a byte or more
  pub goes_on : (state : State) (made : Made) (number : ℕ) (rest : List ℕ) (next : State × Made × List ℕ) → SoFar state made number rest
      → step_of format state made rest ≡ Ok next → SoFar next.0 next.1 (number + 1) next.2 × (length next.2 < length rest)
  goes_on state made number rest next far e =
      let left = turn_left state made number rest far in
      let step = step_taken format state made rest next e in
      let shorter = takes_byte (format.form state) rest step.line step.rest step.has in
      let one = ap (made_with format state made) (passes format left.0 state number rest step.line step.rest step.has step.keeps)
      ∙ made_on format state made step.line (lines_from left.0 format (format.after state step.line) (number + 1) step.rest) in
      let far_on : SoFar (format.after state step.line) (format.add state step.line made) (number + 1) step.rest =
      record { turns = left.0; enough = omega (arith, shorter, left.1); whole = sym one ∙ left.2 } in
      subst (λ (s : State × Made × List ℕ). SoFar s.0 s.1 (number + 1) s.2 × (length s.2 < length rest)) step.is (far_on, shorter)

  -- where a line comes, its fault is that of the whole
  found_turn : (state : State) (made : Made) (number : ℕ) (rest : List ℕ) → SoFar state made number rest → format.form state ≢ None
      → (turns : ℕ) × (made_with format state made (line_and_others (lines_from turns format) format state number (line_at (format.form state) rest)) ≡ made_from format start nothing bytes)
  found_turn state made number rest far more =
      let left = turn_left state made number rest far in
      (left.0, ap (made_with format state made) (sym (one_turn format left.0 state number rest more)) ∙ left.2)

  pub ends : (state : State) (made : Made) (number : ℕ) (rest : List ℕ) (fault : LineFault) → SoFar state made number rest → format.form state ≢ None
      → Fails is_memory fault (step_of format state made rest) → Fails is_out_of_memory (fault_at fault number) (made_from format start nothing bytes)
  ends state made number rest line.Form far more e =
      let turn = found_turn state made number rest far more in
      sym turn.1 ∙ rw (no_form format state made (line_at (format.form state) rest) e) refl
  ends state made number rest line.Limit far more e =
      let turn = found_turn state made number rest far more in
      let b = broken format state made (line_at (format.form state) rest) e in
      sym turn.1 ∙ rw (b.1, b.2) refl
  ends state made number rest line.Memory far more e = tt

  -- after the end nothing follows
  ended : (state : State) (made : Made) (number : ℕ) (rest : List ℕ) → SoFar state made number rest → format.form state ≡ None
      → made_with format state made (nothing_after number rest) ≡ made_from format start nothing bytes
  ended state made number rest far end =
      let left = turn_left state made number rest far in
      let turn : lines_from (suc left.0) format state number rest ≡ nothing_after number rest = rw end refl in
      ap (made_with format state made) (sym turn) ∙ left.2

  pub is_whole : (state : State) (made : Made) (number : ℕ) (rest : List ℕ) → SoFar state made number rest → format.form state ≡ None → length rest ≡ 0
      → made_from format start nothing bytes ≡ Ok made
  is_whole state made number [] far end none = sym (ended state made number [] far end)
  is_whole state made number (byte ∷ rest) far end none = absurd (omega arith)

  pub has_more : (state : State) (made : Made) (number : ℕ) (rest : List ℕ) → SoFar state made number rest → format.form state ≡ None → rest ≢ []
      → made_from format start nothing bytes ≡ Err (Syntax number)
  has_more state made number [] far end more = absurd (more refl)
  has_more state made number (byte ∷ rest) far end more = sym (ended state made number (byte ∷ rest) far end)
