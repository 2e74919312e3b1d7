-- No fault after the order of tokens is `Syntax`.
use Rattle.std.proofs.Common.{ℕ, List, [], ◌∷◌, Bool, true, false, cond, Option, Some, None, Result, Ok, Err, get_or, drop}
use Rattle.std.specs.Prelude.{nat_le}
use Rattle.cpl_fixed.specs.Results.{◌>>=◌}
use Rattle.cpl_namelist.specs.declared.fault.NamesError.{NamesError}
use Rattle.cpl_namelist.specs.declared.fault.NamesError.TheVariants as fault
use Rattle.cpl_namelist.specs.declared.fault.StepFault.{StepFault}
use Rattle.cpl_namelist.specs.declared.fault.StepFault.TheVariants as step
use Rattle.cpl_namelist.specs.declared.fault.Required.{Required}
use Rattle.cpl_namelist.specs.declared.group.Group.{Group}
use Rattle.cpl_namelist.specs.declared.names.Names.{Names}
use Rattle.cpl_namelist.specs.declared.names.StepCounts.{StepCounts}
use Rattle.cpl_namelist.specs.declared.places.TheConstants as places
use Rattle.cpl_namelist.specs.declared.token.Kind.{Kind}
use Rattle.cpl_namelist.specs.declared.token.Kind.TheVariants as kind
use Rattle.cpl_namelist.specs.Tokens.{Lexeme, tokens}
use Rattle.cpl_namelist.specs.Groups.{group_named, group_place}
use Rattle.cpl_namelist.specs.Table.{name_in_group, row_at}
use Rattle.cpl_namelist.specs.Numbers.{fitting}
use Rattle.cpl_namelist.specs.Settings.{Choices, is_given, number, opened_named, set_to, assigned, kind_judged, token_judged, judged}
use Rattle.cpl_namelist.specs.Names.{divided, need, at_most, steps_of, run_length, missing, unless_missing, names_with, names_of}
use Rattle.cpl_namelist.specs.Grammar.{IsNamelist, kinds_of, HasOrder}
use Rattle.cpl_namelist.proofs.Wholes.{steps_chosen}

abbrev IsOther : NamesError → Type 0
IsOther (fault.Syntax line) = ⊥
IsOther _ = Unit {0}

abbrev pub Calm : {A : Type 0} → Result A NamesError → Type 0
Calm (Ok x) = Unit {0}
Calm (Err e) = IsOther e

calm_bind : {A B : Type 0} (r : Result A NamesError) (f : A → Result B NamesError) → Calm r → ((x : A) → Calm (f x)) → Calm (r >>= f)
calm_bind (Ok x) f here there = there x
calm_bind (Err e) f here there = here

calm_cond : {A : Type 0} (b : Bool) (x y : Result A NamesError) → Calm x → Calm y → Calm (cond b x y)
calm_cond true x y here there = here
calm_cond false x y here there = there

opened_calm : (chosen : Choices) (line : ℕ) (group : Option Group) → Calm (opened_named chosen line group)
opened_calm chosen line None = tt
opened_calm chosen line (Some group) = calm_cond (get_or chosen.groups (group_place group) false) (Err (fault.Twice line)) _ tt tt

set_calm : (chosen : Choices) (line place : ℕ) (o : Option (List ℕ)) → Calm (set_to chosen line place o)
set_calm chosen line place None = tt
set_calm chosen line place (Some ns) = tt

assigned_calm : (chosen : Choices) (line : ℕ) (others : List Lexeme) (name : Option ℕ) → Calm (assigned chosen line others name)
assigned_calm chosen line others None = tt
assigned_calm chosen line others (Some place) =
    calm_cond (is_given chosen place) (Err (fault.Twice line)) (set_to chosen line place (fitting (row_at place) others)) tt (set_calm chosen line place (fitting (row_at place) others))

kind_calm : (k : Kind) (chosen : Choices) (token : Lexeme) (others : List Lexeme) → Calm (kind_judged k chosen token others)
kind_calm kind.Group chosen token others = opened_calm chosen token.line (group_named (drop 1 token.text))
kind_calm kind.Word chosen token others = assigned_calm chosen token.line others (name_in_group chosen.group token.text)
kind_calm _ chosen token others = tt

pub judged_calm : (tokens : List Lexeme) (chosen : Choices) → Calm (judged chosen tokens)
unfolding judged
judged_calm [] chosen = tt
judged_calm (token ∷ others) chosen =
    calm_bind (token_judged chosen token others) (λ next. judged next others) (kind_calm token.kind chosen token others) (judged_calm others)

need_calm : (s : StepFault) (o : Option ℕ) → Calm (need s o)
need_calm s None = tt
need_calm s (Some n) = tt

most_calm : (s : StepFault) (limit n : ℕ) → Calm (at_most s limit n)
most_calm s limit n = calm_cond (nat_le n limit) (Ok n) (Err (fault.Step s)) tt tt

missing_calm : (m : Option Required) (names : Result Names NamesError) → Calm names → Calm (unless_missing m names)
missing_calm None names calm = calm
missing_calm (Some required) names calm = tt

three_calm : (a b c : Result ℕ NamesError) (f : ℕ → ℕ → ℕ → Result StepCounts NamesError) → Calm a → Calm b → Calm c → ((x y z : ℕ) → Calm (f x y z)) → Calm (a >>= λ x. b >>= λ y. c >>= λ z. f x y z)
three_calm (Ok x) (Ok y) (Ok z) f p q r h = h x y z
three_calm (Ok x) (Ok y) (Err e) f p q r h = r
three_calm (Ok x) (Err e) c f p q r h = q
three_calm (Err e) b c f p q r h = p

steps_calm : (atmos cpld ocean run : ℕ) → Calm (steps_of atmos cpld ocean run)
steps_calm atmos cpld ocean run =
    three_calm (need step.Atmos (divided atmos cpld)) (need step.Ocean (divided ocean cpld)) (need step.Run (divided cpld run))
    (λ f o c. at_most step.FastCount 1000 f >>= λ few. at_most step.OceanCount 100 o >>= λ some. at_most step.Count 10000 c >>= λ steps. Ok (record { fast = few; ocean = some; count = steps }))
    (need_calm step.Atmos (divided atmos cpld)) (need_calm step.Ocean (divided ocean cpld)) (need_calm step.Run (divided cpld run))
    (λ f o c. three_calm (at_most step.FastCount 1000 f) (at_most step.OceanCount 100 o) (at_most step.Count 10000 c) (λ x y z. Ok (record { fast = x; ocean = y; count = z }))
    (most_calm step.FastCount 1000 f) (most_calm step.OceanCount 100 o) (most_calm step.Count 10000 c) (λ x y z. tt))

with_calm : (chosen : Choices) (steps : Result StepCounts NamesError) → Calm steps → Calm (steps >>= λ steps. Ok (names_with chosen steps))
with_calm chosen (Ok s) calm = tt
with_calm chosen (Err e) calm = calm

pub names_calm : (chosen : Choices) → Calm (names_of chosen)
unfolding names_of
names_calm chosen =
    missing_calm (missing chosen) (steps_chosen chosen >>= λ steps. Ok (names_with chosen steps))
    (with_calm chosen (steps_chosen chosen) (steps_calm (number chosen places.DT_ATMOS 0) (number chosen places.DT_CPLD 0) (number chosen places.DT_OCEAN 0) (run_length chosen)))

-- any other answer stands where the tokens are a namelist
pub has_order : (bytes : List ℕ) (r : Result Names NamesError) → Calm r → IsNamelist (kinds_of (tokens bytes)) → HasOrder bytes r
has_order bytes (Ok names) calm n = n
has_order bytes (Err (fault.Syntax line)) calm n = absurd calm
has_order bytes (Err _) calm n = n
