-- The tokens that may stand where they do are those of a namelist.
use Rattle.std.proofs.Common.{◌≡◌, ◌⊎◌, inl, inr, ℕ, List, [], ◌∷◌, ◌++◌, Bool, true, false, Option, Some, None, refl, ap, subst, ◌∙◌}
use Rattle.cpl_namelist.specs.declared.token.Kind.{Kind}
use Rattle.cpl_namelist.specs.declared.token.Kind.TheVariants as kind
use Rattle.cpl_namelist.specs.declared.syntax.State.{State}
use Rattle.cpl_namelist.specs.declared.syntax.State.TheVariants.{Outside, Inside, Named, Assigned, Valued, Separated}
use Rattle.cpl_namelist.specs.Tokens.{Lexeme, tokens, last_line}
use Rattle.cpl_namelist.specs.Syntax.{follow, end_fault, fault_after, syntax_fault}
use Rattle.cpl_namelist.specs.Grammar.{Literal, integer, repeat, text, logical, Value, Assignment, literal_kind, comma_then, value_then, values_then, assignments_then, spelling, IsNamelist, BeginsOne, kinds_of, StopsAt, EndsEarly}

-- ---- going on from place to place

abbrev onward : Option State → (State → Option State) → Option State
onward None next = None
onward (Some place) next = next place

abbrev run : State → List Kind → Option State
run place [] = Some place
run place (k ∷ kinds) = onward (follow place k) (λ next. run next kinds)

through : (o : Option State) (front tail : List Kind) → ((next : State) → run next (front ++ tail) ≡ onward (run next front) (λ next. run next tail))
    → onward o (λ next. run next (front ++ tail)) ≡ onward (onward o (λ next. run next front)) (λ next. run next tail)
through None front tail h = refl
through (Some next) front tail h = h next

run_append : (place : State) (front tail : List Kind) → run place (front ++ tail) ≡ onward (run place front) (λ next. run next tail)
run_append place [] tail = refl
run_append place (k ∷ front) tail = through (follow place k) front tail (λ next. run_append next front tail)

-- ---- what is spelled leads outside

abbrev AfterValue : State → Type 0
AfterValue Valued = Unit {0}
AfterValue Separated = Unit {0}
AfterValue _ = ⊥

abbrev InGroup : State → Type 0
InGroup Inside = Unit {0}
InGroup Valued = Unit {0}
InGroup Separated = Unit {0}
InGroup _ = ⊥

after : (place : State) → AfterValue place → InGroup place
after Valued is = tt
after Separated is = tt
after _ is = absurd is

run_literal : (place : State) → AfterValue place → (l : Literal) (kinds : List Kind) → run place (literal_kind l ∷ kinds) ≡ run Valued kinds
run_literal Valued is integer kinds = refl
run_literal Valued is repeat kinds = refl
run_literal Valued is text kinds = refl
run_literal Valued is logical kinds = refl
run_literal Separated is integer kinds = refl
run_literal Separated is repeat kinds = refl
run_literal Separated is text kinds = refl
run_literal Separated is logical kinds = refl
run_literal _ is l kinds = absurd is

run_first : (l : Literal) (kinds : List Kind) → run Assigned (literal_kind l ∷ kinds) ≡ run Valued kinds
run_first integer kinds = refl
run_first repeat kinds = refl
run_first text kinds = refl
run_first logical kinds = refl

run_comma : (comma : Bool) (kinds : List Kind) (end : Option State) → ((place : State) → AfterValue place → run place kinds ≡ end) → run Valued (comma_then comma kinds) ≡ end
run_comma true kinds end h = h Separated tt
run_comma false kinds end h = h Valued tt

run_values : (values : List Value) (kinds : List Kind) (end : Option State) → ((place : State) → AfterValue place → run place kinds ≡ end) → (place : State) → AfterValue place → run place (values_then values kinds) ≡ end
run_values [] kinds end h place is = h place is
run_values (value ∷ values) kinds end h place is =
    run_literal place is value.literal (comma_then value.comma (values_then values kinds)) ∙ run_comma value.comma (values_then values kinds) end (run_values values kinds end h)

run_slash : (place : State) → InGroup place → (kinds : List Kind) → run place (kind.Slash ∷ kinds) ≡ run Outside kinds
run_slash Inside is kinds = refl
run_slash Valued is kinds = refl
run_slash Separated is kinds = refl
run_slash _ is kinds = absurd is

run_word : (place : State) → InGroup place → (kinds : List Kind) → run place (kind.Word ∷ kinds) ≡ run Named kinds
run_word Inside is kinds = refl
run_word Valued is kinds = refl
run_word Separated is kinds = refl
run_word _ is kinds = absurd is

run_assignments : (others : List Assignment) (kinds : List Kind) (place : State) → InGroup place → run place (assignments_then others (kind.Slash ∷ kinds)) ≡ run Outside kinds
run_assignments [] kinds place is = run_slash place is kinds
run_assignments (a ∷ others) kinds place is =
    let rest = assignments_then others (kind.Slash ∷ kinds) in
    run_word place is (kind.Equals ∷ value_then a.first (values_then a.others rest))
    ∙ run_first a.first.literal (comma_then a.first.comma (values_then a.others rest))
    ∙ run_comma a.first.comma (values_then a.others rest) (run Outside kinds) (run_values a.others rest (run Outside kinds) (λ place is. run_assignments others kinds place (after place is)))

run_spelling : (groups : List (List Assignment)) → run Outside (spelling groups) ≡ Some Outside
run_spelling [] = refl
run_spelling (group ∷ groups) = run_assignments group (spelling groups) Inside tt ∙ run_spelling groups

-- ---- what leads outside is spelled

abbrev rest_of : List Assignment → List (List Assignment) → List Kind
rest_of others groups = assignments_then others (kind.Slash ∷ spelling groups)

record Tail (values : List Kind → List Kind) (kinds : List Kind) : Type 0 where
  others : List Assignment
  groups : List (List Assignment)
  spelled : kinds ≡ values (rest_of others groups)

abbrev Parses : State → List Kind → Type 0
Parses Outside kinds = IsNamelist kinds
Parses Inside kinds = Tail (λ rest. rest) kinds
Parses Named kinds = (a : Assignment) × Tail (λ rest. kind.Equals ∷ value_then a.first (values_then a.others rest)) kinds
Parses Assigned kinds = (v : Value) × (vs : List Value) × Tail (λ rest. value_then v (values_then vs rest)) kinds
Parses Valued kinds = (comma : Bool) × (vs : List Value) × Tail (λ rest. comma_then comma (values_then vs rest)) kinds
Parses Separated kinds = (vs : List Value) × Tail (λ rest. values_then vs rest) kinds

literal_first : (l : Literal) (kinds : List Kind) → Parses Valued kinds → Parses Assigned (literal_kind l ∷ kinds)
literal_first l kinds (comma, vs, t) =
    (record { literal = l; comma = comma }, vs, record { others = t.others; groups = t.groups; spelled = ap (λ (ks : List Kind). literal_kind l ∷ ks) t.spelled })

literal_next : (l : Literal) (kinds : List Kind) → Parses Valued kinds → Parses Separated (literal_kind l ∷ kinds)
literal_next l kinds (comma, vs, t) =
    (record { literal = l; comma = comma } ∷ vs, record { others = t.others; groups = t.groups; spelled = ap (λ (ks : List Kind). literal_kind l ∷ ks) t.spelled })

no_comma : (kinds : List Kind) → Parses Separated kinds → Parses Valued kinds
no_comma kinds (vs, t) = (false, vs, record { others = t.others; groups = t.groups; spelled = t.spelled })

comma_next : (kinds : List Kind) → Parses Separated kinds → Parses Valued (kind.Comma ∷ kinds)
comma_next kinds (vs, t) = (true, vs, record { others = t.others; groups = t.groups; spelled = ap (λ (ks : List Kind). kind.Comma ∷ ks) t.spelled })

no_value : (kinds : List Kind) → Parses Inside kinds → Parses Separated kinds
no_value kinds t = ([], record { others = t.others; groups = t.groups; spelled = t.spelled })

word_next : (kinds : List Kind) → Parses Named kinds → Parses Inside (kind.Word ∷ kinds)
word_next kinds (a, t) = record { others = a ∷ t.others; groups = t.groups; spelled = ap (λ (ks : List Kind). kind.Word ∷ ks) t.spelled }

slash_next : (kinds : List Kind) → Parses Outside kinds → Parses Inside (kind.Slash ∷ kinds)
slash_next kinds n = record { others = []; groups = n.groups; spelled = ap (λ (ks : List Kind). kind.Slash ∷ ks) n.spelled }

equals_next : (kinds : List Kind) → Parses Assigned kinds → Parses Named (kind.Equals ∷ kinds)
equals_next kinds (v, vs, t) = (record { first = v; others = vs }, record { others = t.others; groups = t.groups; spelled = ap (λ (ks : List Kind). kind.Equals ∷ ks) t.spelled })

group_next : (kinds : List Kind) → Parses Inside kinds → Parses Outside (kind.Group ∷ kinds)
group_next kinds t = record { groups = t.others ∷ t.groups; spelled = ap (λ (ks : List Kind). kind.Group ∷ ks) t.spelled }

abbrev Reads : Option State → List Kind → Type 0
Reads None kinds = Unit {0}
Reads (Some next) kinds = Parses next kinds

in_group_next : (k : Kind) (kinds : List Kind) → Reads (follow Inside k) kinds → (follow Inside k ≡ None → ⊥) → Parses Inside (k ∷ kinds)
in_group_next kind.Word kinds p some = word_next kinds p
in_group_next kind.Slash kinds p some = slash_next kinds p
in_group_next _ kinds p some = absurd (some refl)

sound_step : (place : State) (k : Kind) (kinds : List Kind) → Reads (follow place k) kinds → (follow place k ≡ None → ⊥) → Parses place (k ∷ kinds)
sound_step Outside kind.Group kinds p some = group_next kinds p
sound_step Outside _ kinds p some = absurd (some refl)
sound_step Inside k kinds p some = in_group_next k kinds p some
sound_step Named kind.Equals kinds p some = equals_next kinds p
sound_step Named _ kinds p some = absurd (some refl)
sound_step Assigned kind.Integer kinds p some = literal_first integer kinds p
sound_step Assigned kind.Repeat kinds p some = literal_first repeat kinds p
sound_step Assigned kind.Text kinds p some = literal_first text kinds p
sound_step Assigned kind.Logical kinds p some = literal_first logical kinds p
sound_step Assigned _ kinds p some = absurd (some refl)
sound_step Valued kind.Comma kinds p some = comma_next kinds p
sound_step Valued kind.Integer kinds p some = no_comma (kind.Integer ∷ kinds) (literal_next integer kinds p)
sound_step Valued kind.Repeat kinds p some = no_comma (kind.Repeat ∷ kinds) (literal_next repeat kinds p)
sound_step Valued kind.Text kinds p some = no_comma (kind.Text ∷ kinds) (literal_next text kinds p)
sound_step Valued kind.Logical kinds p some = no_comma (kind.Logical ∷ kinds) (literal_next logical kinds p)
sound_step Valued kind.Word kinds p some = no_comma (kind.Word ∷ kinds) (no_value (kind.Word ∷ kinds) (word_next kinds p))
sound_step Valued kind.Slash kinds p some = no_comma (kind.Slash ∷ kinds) (no_value (kind.Slash ∷ kinds) (slash_next kinds p))
sound_step Valued _ kinds p some = absurd (some refl)
sound_step Separated kind.Integer kinds p some = literal_next integer kinds p
sound_step Separated kind.Repeat kinds p some = literal_next repeat kinds p
sound_step Separated kind.Text kinds p some = literal_next text kinds p
sound_step Separated kind.Logical kinds p some = literal_next logical kinds p
sound_step Separated kind.Word kinds p some = no_value (kind.Word ∷ kinds) (word_next kinds p)
sound_step Separated kind.Slash kinds p some = no_value (kind.Slash ∷ kinds) (slash_next kinds p)
sound_step Separated _ kinds p some = absurd (some refl)

end_parses : (place : State) → run place [] ≡ Some Outside → Parses place []
end_parses Outside e = record { groups = []; spelled = refl }
end_parses Inside e = absurd cc
end_parses Named e = absurd cc
end_parses Assigned e = absurd cc
end_parses Valued e = absurd cc
end_parses Separated e = absurd cc

reads : (o : Option State) (kinds : List Kind) → ((next : State) → run next kinds ≡ Some Outside → Parses next kinds) → onward o (λ next. run next kinds) ≡ Some Outside → Reads o kinds × (o ≡ None → ⊥)
reads None kinds go e = absurd cc
reads (Some next) kinds go e = (go next e, λ h. cc)

sound : (kinds : List Kind) (place : State) → run place kinds ≡ Some Outside → Parses place kinds
sound [] place e = end_parses place e
sound (k ∷ kinds) place e = let r = reads (follow place k) kinds (sound kinds) e in sound_step place k kinds r.0 r.1

-- ---- fronts

closing : State → List Kind
closing Outside = []
closing Inside = kind.Slash ∷ []
closing Named = kind.Equals ∷ kind.Integer ∷ kind.Slash ∷ []
closing Assigned = kind.Integer ∷ kind.Slash ∷ []
closing Valued = kind.Slash ∷ []
closing Separated = kind.Slash ∷ []

run_closing : (place : State) → run place (closing place) ≡ Some Outside
unfolding closing
run_closing Outside = refl
run_closing Inside = refl
run_closing Named = refl
run_closing Assigned = refl
run_closing Valued = refl
run_closing Separated = refl

pub begins_some : (front : List Kind) (place : State) → run Outside front ≡ Some place → BeginsOne front
begins_some front place e = record {
  tail = closing place;
  whole = sound (front ++ closing place) Outside (run_append Outside front (closing place) ∙ ap (λ (o : Option State). onward o (λ next. run next (closing place))) e ∙ run_closing place);
}

pub begins_none : (front : List Kind) → run Outside front ≡ None → BeginsOne front → ⊥
begins_none front e b =
    let whole : run Outside (front ++ b.tail) ≡ Some Outside = ap (run Outside) b.whole.spelled ∙ run_spelling b.whole.groups in
    let none : run Outside (front ++ b.tail) ≡ None = run_append Outside front b.tail ∙ ap (λ (o : Option State). onward o (λ next. run next b.tail)) e in
    cc

is_namelist : (kinds : List Kind) → run Outside kinds ≡ Some Outside → IsNamelist kinds
is_namelist kinds e = sound kinds Outside e

none_else : (kinds : List Kind) (place : State) → run Outside kinds ≡ Some place → (place ≡ Outside → ⊥) → IsNamelist kinds → ⊥
none_else kinds place e other n =
    let there : run Outside kinds ≡ Some Outside = ap (run Outside) n.spelled ∙ run_spelling n.groups in
    let same : place ≡ Outside = cc in
    other same

-- ---- the first token that can't follow

-- how a search that began at a place ended
record Stops (place : State) (tokens : List Lexeme) (line : ℕ) : Type 0 where
  front : List Lexeme
  token : Lexeme
  tail : List Lexeme
  last_place : State
  parts : tokens ≡ front ++ token ∷ tail
  led : run place (kinds_of front) ≡ Some last_place
  wrong : follow last_place token.kind ≡ None
  there : token.line ≡ line

record Early (last : ℕ) (place : State) (tokens : List Lexeme) (line : ℕ) : Type 0 where
  last_place : State
  led : run place (kinds_of tokens) ≡ Some last_place
  other : last_place ≡ Outside → ⊥
  there : line ≡ last

abbrev Ended : ℕ → State → List Lexeme → Option ℕ → Type 0
Ended last place tokens None = run place (kinds_of tokens) ≡ Some Outside
Ended last place tokens (Some line) = Stops place tokens line ⊎ Early last place tokens line

ended_now : (last : ℕ) (place : State) → Ended last place [] (end_fault last place)
ended_now last Outside = refl
ended_now last Inside = inr (record { last_place = Inside; led = refl; other = λ e. cc; there = refl })
ended_now last Named = inr (record { last_place = Named; led = refl; other = λ e. cc; there = refl })
ended_now last Assigned = inr (record { last_place = Assigned; led = refl; other = λ e. cc; there = refl })
ended_now last Valued = inr (record { last_place = Valued; led = refl; other = λ e. cc; there = refl })
ended_now last Separated = inr (record { last_place = Separated; led = refl; other = λ e. cc; there = refl })

on : (place next : State) (token : Lexeme) (kinds : List Kind) → follow place token.kind ≡ Some next → run place (token.kind ∷ kinds) ≡ run next kinds
on place next token kinds e = ap (λ (o : Option State). onward o (λ next. run next kinds)) e

later : (last : ℕ) (place next : State) (token : Lexeme) (others : List Lexeme) (o : Option ℕ) → follow place token.kind ≡ Some next → Ended last next others o → Ended last place (token ∷ others) o
later last place next token others None e h = on place next token (kinds_of others) e ∙ h
later last place next token others (Some line) e (inl s) = inl (record {
  front = token ∷ s.front;
  token = s.token;
  tail = s.tail;
  last_place = s.last_place;
  parts = ap (λ (ts : List Lexeme). token ∷ ts) s.parts;
  led = on place next token (kinds_of s.front) e ∙ s.led;
  wrong = s.wrong;
  there = s.there;
})
later last place next token others (Some line) e (inr s) = inr (record {
  last_place = s.last_place;
  led = on place next token (kinds_of others) e ∙ s.led;
  other = s.other;
  there = s.there;
})

ended_step : (last : ℕ) (place : State) (token : Lexeme) (others : List Lexeme) (o : Option State) → follow place token.kind ≡ o → ((next : State) → Ended last next others (syntax_fault last next others))
    → Ended last place (token ∷ others) (fault_after token.line o (λ next. syntax_fault last next others))
ended_step last place token others None e go = inl (record { front = []; token = token; tail = others; last_place = place; parts = refl; led = refl; wrong = e; there = refl })
ended_step last place token others (Some next) e go = later last place next token others (syntax_fault last next others) e (go next)

ended : (last : ℕ) (tokens : List Lexeme) (place : State) → Ended last place tokens (syntax_fault last place tokens)
unfolding syntax_fault
ended last [] place = ended_now last place
ended last (token ∷ others) place = ended_step last place token others (follow place token.kind) refl (ended last others)

kinds_append : (front tail : List Lexeme) → kinds_of (front ++ tail) ≡ kinds_of front ++ kinds_of tail
kinds_append [] tail = refl
kinds_append (token ∷ front) tail = ap (λ (ks : List Kind). token.kind ∷ ks) (kinds_append front tail)

stops_at : (tokens : List Lexeme) (line : ℕ) → Stops Outside tokens line → StopsAt tokens line
stops_at tokens line s = record {
  front = s.front;
  token = s.token;
  tail = s.tail;
  parts = s.parts;
  before = begins_some (kinds_of s.front) s.last_place s.led;
  wrong = begins_none (kinds_of (s.front ++ s.token ∷ []))
      (ap (run Outside) (kinds_append s.front (s.token ∷ [])) ∙ run_append Outside (kinds_of s.front) (s.token.kind ∷ [])
      ∙ ap (λ (o : Option State). onward o (λ next. run next (s.token.kind ∷ []))) s.led
      ∙ ap (λ (o : Option State). onward o (λ next. Some next)) s.wrong);
  there = s.there;
}

ends_early : (bytes : List ℕ) (line : ℕ) → Early (last_line bytes) Outside (tokens bytes) line → EndsEarly bytes line
ends_early bytes line s = record {
  begins = begins_some (kinds_of (tokens bytes)) s.last_place s.led;
  wrong = none_else (kinds_of (tokens bytes)) s.last_place s.led s.other;
  there = s.there;
}

-- what the search says of the tokens
pub in_order : (bytes : List ℕ) → syntax_fault (last_line bytes) Outside (tokens bytes) ≡ None → IsNamelist (kinds_of (tokens bytes))
in_order bytes e = is_namelist (kinds_of (tokens bytes)) (subst (Ended (last_line bytes) Outside (tokens bytes)) e (ended (last_line bytes) (tokens bytes) Outside))

pub out_of_order : (bytes : List ℕ) (line : ℕ) → syntax_fault (last_line bytes) Outside (tokens bytes) ≡ Some line → StopsAt (tokens bytes) line ⊎ EndsEarly bytes line
out_of_order bytes line e =
    elim (subst (Ended (last_line bytes) Outside (tokens bytes)) e (ended (last_line bytes) (tokens bytes) Outside)) [
      | inl s ↦ inl (stops_at (tokens bytes) line s)
      | inr s ↦ inr (ends_early bytes line s)
    ]
