-- Reading line by line: the lines in order, or the first fault.
use Rattle.std.proofs.Common.{◌≡◌, ◌≢◌, ◌∙◌, refl, sym, ap, subst, ℕ, zero, suc, ◌+◌, ◌<◌, List, [], ◌∷◌, ◌++◌, length, true, false, Option, Some, None, Result, Ok, Err, arith, inl, inr}
use Rattle.std.specs.List.{flat_map}
use Rattle.std.proofs.lemmas.Bool.{cases_Bool}
use Rattle.cpl_lines.specs.declared.fault.LinesError.{LinesError}
use Rattle.cpl_lines.specs.declared.fault.LinesError.TheVariants.{Syntax, Limit, Memory}
use Rattle.cpl_lines.specs.Lines.{Line, Form, line_text, IsOfForm}
use Rattle.cpl_lines.specs.Formats.{Format, HasForm, BeginsWith, state_after, IsSyntaxFault, IsLimitFault}
use Rattle.cpl_lines.specs.Reading.{row_at, line_at, with_line, nothing_after, line_and_others, lines_or_end, lines_from, lines_of}
use Rattle.cpl_lines.proofs.Rows.{line_takes, line_again, takes_byte}

module _ {State Made : Type 0} (format : Format State Made) where
  -- no line of its form stands first
  abbrev pub NoLine : State → List ℕ → Type 0
  NoLine state bytes = (line : Line) (more : List ℕ) → HasForm (format.form state) bytes line more → ⊥

  -- something stands after the end
  abbrev pub NotEnded : State → List ℕ → Type 0
  NotEnded state bytes = format.form state ≡ None → bytes ≢ []

  -- the first line from this number on that doesn't have its form, is missing or stands after the end
  pub record SyntaxAt (state : State) (number : ℕ) (bytes : List ℕ) (at : ℕ) : Type 0 where
    pub front : List Line
    pub rest : List ℕ
    pub before : BeginsWith format state front bytes rest
    pub at_is : at ≡ length front + number
    pub no_line : NoLine (state_after format state front) rest
    pub not_ended : NotEnded (state_after format state front) rest

  -- the first line from this number on whose numbers break a limit
  pub record LimitAt (state : State) (number : ℕ) (bytes : List ℕ) (at : ℕ) : Type 0 where
    pub front : List Line
    pub rest : List ℕ
    pub before : BeginsWith format state front bytes rest
    pub at_is : at ≡ length front + number
    pub line : Line
    pub more : List ℕ
    pub form : HasForm (format.form (state_after format state front)) rest line more
    pub broken : format.keeps (state_after format state front) line ≡ false

  -- whether the lines, or the line at fault, are what the bytes tell
  abbrev pub Tells : State → ℕ → List ℕ → Result (List Line) LinesError → Type 0
  Tells state number bytes (Ok lines) = BeginsWith format state lines bytes [] × (format.form (state_after format state lines) ≡ None)
  Tells state number bytes (Err (Syntax at)) = SyntaxAt state number bytes at
  Tells state number bytes (Err (Limit at)) = LimitAt state number bytes at
  Tells state number bytes (Err Memory) = ⊥

  -- what the lines after a line tell
  rest_tells : (state : State) (number : ℕ) (bytes : List ℕ) (line : Line) (more : List ℕ) → HasForm (format.form state) bytes line more → format.keeps state line ≡ true
      → (others : Result (List Line) LinesError) → Tells (format.after state line) (number + 1) more others → Tells state number bytes (with_line line others)
  rest_tells state number bytes line more form keeps (Ok lines) told = ((more, form, keeps, told.0), told.1)
  rest_tells state number bytes line more form keeps (Err (Syntax at)) told = record {
    front = line ∷ told.front;
    rest = told.rest;
    before = (more, form, keeps, told.before);
    at_is = omega (arith, told.at_is);
    no_line = told.no_line;
    not_ended = told.not_ended;
  }
  rest_tells state number bytes line more form keeps (Err (Limit at)) told = record {
    front = line ∷ told.front;
    rest = told.rest;
    before = (more, form, keeps, told.before);
    at_is = omega (arith, told.at_is);
    line = told.line;
    more = told.more;
    form = told.form;
    broken = told.broken;
  }
  rest_tells state number bytes line more form keeps (Err Memory) told = absurd told

  limit_here : (state : State) (number : ℕ) (bytes : List ℕ) (line : Line) (more : List ℕ) → HasForm (format.form state) bytes line more → format.keeps state line ≡ false
      → LimitAt state number bytes number
  limit_here state number bytes line more form breaks = record {
    front = [];
    rest = bytes;
    before = refl;
    at_is = omega arith;
    line = line;
    more = more;
    form = form;
    broken = breaks;
  }

  -- what one line tells, where the turns after it tell the truth
  line_tells : (turns : ℕ) → ((state : State) (number : ℕ) (bytes : List ℕ) → length bytes < turns → Tells state number bytes (lines_from turns format state number bytes))
      → (state : State) (number : ℕ) (bytes : List ℕ) → format.form state ≢ None → length bytes < suc turns → (found : Option (Line × List ℕ))
      → line_at (format.form state) bytes ≡ found
      → Tells state number bytes (line_and_others (lines_from turns format) format state number found)
  line_tells turns others state number bytes more enough None is = record {
    front = [];
    rest = bytes;
    before = refl;
    at_is = omega arith;
    no_line = λ line next form. let found = line_again (format.form state) bytes line next form in cc;
    not_ended = λ ended. absurd (more ended);
  }
  line_tells turns others state number bytes more enough (Some found) is =
      let form : HasForm (format.form state) bytes found.0 found.1 = line_takes (format.form state) bytes found.0 found.1 is in
      let less : length found.1 < length bytes = takes_byte (format.form state) bytes found.0 found.1 form in
      let next : State = format.after state found.0 in
      let after : Result (List Line) LinesError = lines_from turns format next (number + 1) found.1 in
      elim (cases_Bool (format.keeps state found.0)) [
        | inl keeps ↦ rw keeps (rest_tells state number bytes found.0 found.1 form keeps after (others next (number + 1) found.1 (omega arith)))
        | inr breaks ↦ rw breaks (limit_here state number bytes found.0 found.1 form breaks)
      ]

  -- what is told after the end
  end_tells : (state : State) (number : ℕ) (bytes : List ℕ) → format.form state ≡ None → Tells state number bytes (nothing_after number bytes)
  end_tells state number [] ended = (refl, ended)
  end_tells state number (byte ∷ bytes) ended = record {
    front = [];
    rest = byte ∷ bytes;
    before = refl;
    at_is = omega arith;
    no_line = λ line next form. let found : None ≡ Some (line, next) = line_again None (byte ∷ bytes) line next (rw ended at form) in absurd cc;
    not_ended = λ end none. cc;
  }

  turn_tells : (turns : ℕ) → ((state : State) (number : ℕ) (bytes : List ℕ) → length bytes < turns → Tells state number bytes (lines_from turns format state number bytes))
      → (state : State) (number : ℕ) (bytes : List ℕ) → length bytes < suc turns → (form : Option Form) → format.form state ≡ form
      → Tells state number bytes (lines_or_end (lines_from turns format) format state number bytes form)
  turn_tells turns others state number bytes enough None is = end_tells state number bytes is
  turn_tells turns others state number bytes enough (Some form) is =
      let more : format.form state ≢ None = λ ended. let clash : Some form ≡ None = sym is ∙ ended in cc in
      line_tells turns others state number bytes more enough (row_at form bytes) (rw is refl)

  -- reading tells the lines, or which line is at fault and how
  pub lines_tell : (turns : ℕ) (state : State) (number : ℕ) (bytes : List ℕ) → length bytes < turns → Tells state number bytes (lines_from turns format state number bytes)
  lines_tell zero state number bytes enough = absurd (omega arith)
  lines_tell (suc turns) state number bytes enough = turn_tells turns (lines_tell turns) state number bytes enough (format.form state) refl

  -- ---- lines in order

  -- each line is of the form that comes next, keeps the limits, and none is missing
  abbrev pub InOrder : State → List Line → Type 0
  InOrder state [] = format.form state ≡ None
  InOrder state (line ∷ lines) = IsOfForm (format.form state) line × (format.keeps state line ≡ true) × InOrder (format.after state line) lines

  -- bytes that begin with lines up to the end are their spelling
  pub begun_in_order : (state : State) (lines : List Line) (bytes : List ℕ) → BeginsWith format state lines bytes [] → format.form (state_after format state lines) ≡ None
      → InOrder state lines × (bytes ≡ flat_map line_text lines)
  begun_in_order state [] bytes begun ended = (ended, begun)
  begun_in_order state (line ∷ lines) bytes begun ended =
      let form = begun.1 in
      let others = begun_in_order (format.after state line) lines begun.0 begun.3 ended in
      ((form.form, begun.2, others.0), form.text ∙ ap (λ (l : List ℕ). line_text line ++ l) others.1)

  -- no line has no form
  no_form : (wanted : Option Form) (line : Line) → IsOfForm wanted line → wanted ≢ None
  no_form None line is = λ ended. is
  no_form (Some form) line is = λ ended. cc

  -- a turn that isn't after the end
  turn_from : (turns : ℕ) (state : State) (number : ℕ) (bytes : List ℕ) (wanted : Option Form) → wanted ≢ None
      → lines_or_end (lines_from turns format) format state number bytes wanted ≡ line_and_others (lines_from turns format) format state number (line_at wanted bytes)
  turn_from turns state number bytes None more = absurd (more refl)
  turn_from turns state number bytes (Some form) more = refl

  pub one_turn : (turns : ℕ) (state : State) (number : ℕ) (bytes : List ℕ) → format.form state ≢ None
      → lines_from (suc turns) format state number bytes ≡ line_and_others (lines_from turns format) format state number (line_at (format.form state) bytes)
  one_turn turns state number bytes more = turn_from turns state number bytes (format.form state) more

  -- a turn where a line of its form stands that keeps the limits
  pub passes : (turns : ℕ) (state : State) (number : ℕ) (bytes : List ℕ) (line : Line) (more : List ℕ) → HasForm (format.form state) bytes line more → format.keeps state line ≡ true
      → lines_from (suc turns) format state number bytes ≡ with_line line (lines_from turns format (format.after state line) (number + 1) more)
  passes turns state number bytes line more has keeps =
      one_turn turns state number bytes (no_form (format.form state) line has.form)
      ∙ ap (line_and_others (lines_from turns format) format state number) (line_again (format.form state) bytes line more has)
      ∙ rw keeps refl

  -- what lines in order spell is read as them
  pub lines_again : (turns : ℕ) (state : State) (number : ℕ) (lines : List Line) → InOrder state lines → length (flat_map line_text lines) < turns
      → lines_from turns format state number (flat_map line_text lines) ≡ Ok lines
  lines_again zero state number lines order enough = absurd (omega arith)
  lines_again (suc turns) state number [] order enough = rw order refl
  lines_again (suc turns) state number (line ∷ lines) order enough =
      let text : List ℕ = flat_map line_text lines in
      let has : HasForm (format.form state) (line_text line ++ text) line text = record { form = order.0; text = refl } in
      let less : length text < length (line_text line ++ text) = takes_byte (format.form state) (line_text line ++ text) line text has in
      let others : lines_from turns format (format.after state line) (number + 1) text ≡ Ok lines = lines_again turns (format.after state line) (number + 1) lines order.2 (omega arith) in
      passes turns state number (line_text line ++ text) line text has order.1 ∙ ap (with_line line) others

  -- ---- a first fault is told

  -- lines that have their form and keep the limits are passed, to the fault after them
  front_is_passed : (turns : ℕ) (state : State) (number : ℕ) (front : List Line) (bytes rest : List ℕ) → BeginsWith format state front bytes rest
      → length bytes < turns → (fault : LinesError)
      → ((left at : ℕ) → at ≡ length front + number → lines_from (suc left) format (state_after format state front) at rest ≡ Err fault)
      → lines_from turns format state number bytes ≡ Err fault
  front_is_passed zero state number front bytes rest begun enough fault ends = absurd (omega arith)
  front_is_passed (suc turns) state number [] bytes rest begun enough fault ends = rw begun (ends turns number (omega arith))
  front_is_passed (suc turns) state number (line ∷ front) bytes rest begun enough fault ends =
      let less : length begun.0 < length bytes = takes_byte (format.form state) bytes line begun.0 begun.1 in
      let next : State = format.after state line in
      let others : lines_from turns format next (number + 1) begun.0 ≡ Err fault =
      front_is_passed turns next (number + 1) front begun.0 rest begun.3 (omega arith) fault (λ left at is. ends left at (omega (arith, is))) in
      passes turns state number bytes line begun.0 begun.1 begun.2 ∙ ap (with_line line) others

  -- nothing is found where no line of its form stands first
  nothing_found : (state : State) (bytes : List ℕ) → NoLine state bytes → (found : Option (Line × List ℕ)) → line_at (format.form state) bytes ≡ found → found ≡ None
  nothing_found state bytes no_line None is = refl
  nothing_found state bytes no_line (Some found) is = absurd (no_line found.0 found.1 (line_takes (format.form state) bytes found.0 found.1 is))

  -- where no line of its form comes, that line is at fault
  end_is_told : (at : ℕ) (rest : List ℕ) → rest ≢ [] → nothing_after at rest ≡ Err (Syntax at)
  end_is_told at [] more = absurd (more refl)
  end_is_told at (byte ∷ rest) more = refl

  form_is_told : (turns : ℕ) (state : State) (at : ℕ) (rest : List ℕ) → NoLine state rest → NotEnded state rest → (form : Option Form) → format.form state ≡ form
      → lines_from (suc turns) format state at rest ≡ Err (Syntax at)
  form_is_told turns state at rest no_line not_ended None is = rw is (end_is_told at rest (not_ended is))
  form_is_told turns state at rest no_line not_ended (Some form) is =
      one_turn turns state at rest (λ ended. let clash : Some form ≡ None = sym is ∙ ended in cc)
      ∙ ap (line_and_others (lines_from turns format) format state at) (nothing_found state rest no_line (line_at (format.form state) rest) refl)

  syntax_is_told : (turns : ℕ) (state : State) (at : ℕ) (rest : List ℕ) → NoLine state rest → NotEnded state rest
      → lines_from (suc turns) format state at rest ≡ Err (Syntax at)
  syntax_is_told turns state at rest no_line not_ended = form_is_told turns state at rest no_line not_ended (format.form state) refl

  -- where a line comes that breaks a limit, that line is at fault
  limit_is_told : (turns : ℕ) (state : State) (at : ℕ) (rest : List ℕ) (line : Line) (more : List ℕ) → HasForm (format.form state) rest line more
      → format.keeps state line ≡ false
      → lines_from (suc turns) format state at rest ≡ Err (Limit at)
  limit_is_told turns state at rest line more form broken =
      one_turn turns state at rest (no_form (format.form state) line form.form)
      ∙ ap (line_and_others (lines_from turns format) format state at) (line_again (format.form state) rest line more form) ∙ rw broken refl

  -- ---- all lines of a text

  pub lines_of_tells : (start : State) (bytes : List ℕ) → Tells start 1 bytes (lines_of format start bytes)
  unfolding lines_of
  lines_of_tells start bytes = lines_tell (length bytes + 1) start 1 bytes (omega arith)

  -- lines in order are read again
  pub lines_read : (start : State) (lines : List Line) → InOrder start lines → lines_of format start (flat_map line_text lines) ≡ Ok lines
  unfolding lines_of
  lines_read start lines order = lines_again (length (flat_map line_text lines) + 1) start 1 lines order (omega arith)

  -- a first fault of form is told
  pub syntax_is_first : (start : State) (bytes : List ℕ) (number : ℕ) → IsSyntaxFault format start bytes number → lines_of format start bytes ≡ Err (Syntax number)
  unfolding lines_of
  syntax_is_first start bytes number is =
      front_is_passed (length bytes + 1) start 1 is.front bytes is.rest is.before (omega arith) (Syntax number) (λ left at here.
      syntax_is_told left (state_after format start is.front) at is.rest is.no_line is.not_ended ∙ ap (λ (n : ℕ). Err (Syntax n)) (here ∙ sym is.number_is))

  -- a first broken limit is told
  pub limit_is_first : (start : State) (bytes : List ℕ) (number : ℕ) → IsLimitFault format start bytes number → lines_of format start bytes ≡ Err (Limit number)
  unfolding lines_of
  limit_is_first start bytes number is =
      front_is_passed (length bytes + 1) start 1 is.front bytes is.rest is.before (omega arith) (Limit number) (λ left at here.
      limit_is_told left (state_after format start is.front) at is.rest is.line is.more is.form is.broken ∙ ap (λ (n : ℕ). Err (Limit n)) (here ∙ sym is.number_is))

  -- which fault is told
  abbrev pub IsFirst : State → List ℕ → LinesError → Type 0
  IsFirst start bytes (Syntax number) = IsSyntaxFault format start bytes number
  IsFirst start bytes (Limit number) = IsLimitFault format start bytes number
  IsFirst start bytes Memory = ⊥

  told_is_first : (start : State) (bytes : List ℕ) (fault : LinesError) → Tells start 1 bytes (Err fault) → IsFirst start bytes fault
  told_is_first start bytes (Syntax at) told =
      record { front = told.front; rest = told.rest; before = told.before; number_is = told.at_is; no_line = told.no_line; not_ended = told.not_ended }
  told_is_first start bytes (Limit at) told = record {
    front = told.front;
    rest = told.rest;
    before = told.before;
    number_is = told.at_is;
    line = told.line;
    more = told.more;
    form = told.form;
    broken = told.broken;
  }
  told_is_first start bytes Memory told = told

  pub fault_is_first : (start : State) (bytes : List ℕ) (fault : LinesError) → lines_of format start bytes ≡ Err fault → IsFirst start bytes fault
  fault_is_first start bytes fault e = told_is_first start bytes fault (subst (Tells start 1 bytes) e (lines_of_tells start bytes))

  -- the lines that are read are in order, and the bytes are their spelling
  pub read_in_order : (start : State) (bytes : List ℕ) (lines : List Line) → lines_of format start bytes ≡ Ok lines → InOrder start lines × (bytes ≡ flat_map line_text lines)
  read_in_order start bytes lines e =
      let told = subst (Tells start 1 bytes) e (lines_of_tells start bytes) in
      begun_in_order start lines bytes told.0 told.1
