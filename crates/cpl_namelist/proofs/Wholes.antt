-- The names of a text, case by case.
use Rattle.std.proofs.Common.{◌≡◌, ℕ, ℤ, pos, List, Option, Some, None, Result, Ok, Err, FitsSigned, w64, to_z, of_z, ap, ◌∙◌}
use Rattle.std.proofs.lemmas.Int.{to_z-of_z}
use Rattle.cpl_fixed.specs.Results.{◌>>=◌}
use Rattle.cpl_namelist.specs.declared.fault.NamesError.{NamesError}
use Rattle.cpl_namelist.specs.declared.fault.NamesError.TheVariants as fault
use Rattle.cpl_namelist.specs.declared.fault.Required.{Required}
use Rattle.cpl_namelist.specs.declared.syntax.State.TheVariants.{Outside}
use Rattle.cpl_namelist.specs.declared.names.Names.{Names}
use Rattle.cpl_namelist.specs.declared.names.StepCounts.{StepCounts}
use Rattle.cpl_namelist.specs.declared.places.TheConstants as places
use Rattle.cpl_namelist.specs.Tokens.{tokens, last_line}
use Rattle.cpl_namelist.specs.Syntax.{syntax_fault}
use Rattle.cpl_namelist.specs.Settings.{Choices, number, nothing, judged}
use Rattle.cpl_namelist.specs.Names.{steps_of, run_length, missing, unless_missing, names_with, names_of, unless_syntax, reading}

-- a number in a word of 64 bits
pub kept64 : (x : ℤ) (n : ℕ) → FitsSigned w64 x → x ≡ pos n → to_z w64 (of_z w64 x) ≡ pos n
kept64 x n fits e = rw to_z-of_z e

abbrev pub steps_chosen : Choices → Result StepCounts NamesError
steps_chosen chosen = steps_of (number chosen places.DT_ATMOS 0) (number chosen places.DT_CPLD 0) (number chosen places.DT_OCEAN 0) (run_length chosen)

pub steps_same : (chosen : Choices) (atmos cpld ocean run : ℕ) → atmos ≡ number chosen places.DT_ATMOS 0 → cpld ≡ number chosen places.DT_CPLD 0 → ocean ≡ number chosen places.DT_OCEAN 0 → run ≡ run_length chosen
    → steps_of atmos cpld ocean run ≡ steps_chosen chosen
steps_same chosen atmos cpld ocean run a b c d =
    ap (λ (n : ℕ). steps_of n cpld ocean run) a
    ∙ ap (λ (n : ℕ). steps_of (number chosen places.DT_ATMOS 0) n ocean run) b
    ∙ ap (λ (n : ℕ). steps_of (number chosen places.DT_ATMOS 0) (number chosen places.DT_CPLD 0) n run) c
    ∙ ap (λ (n : ℕ). steps_of (number chosen places.DT_ATMOS 0) (number chosen places.DT_CPLD 0) (number chosen places.DT_OCEAN 0) n) d

pub names_missing : (chosen : Choices) (required : Required) → missing chosen ≡ Some required → names_of chosen ≡ Err (fault.Missing required)
unfolding names_of
names_missing chosen required e = ap (λ (m : Option Required). unless_missing m (steps_chosen chosen >>= λ steps. Ok (names_with chosen steps))) e

abbrev names_from : Choices → Result StepCounts NamesError → Result Names NamesError
names_from chosen steps = steps >>= λ steps. Ok (names_with chosen steps)

names_given : (chosen : Choices) → missing chosen ≡ None → names_of chosen ≡ names_from chosen (steps_chosen chosen)
unfolding names_of
names_given chosen e = ap (λ (m : Option Required). unless_missing m (names_from chosen (steps_chosen chosen))) e

pub names_step : (chosen : Choices) (e : NamesError) → missing chosen ≡ None → steps_chosen chosen ≡ Err e → names_of chosen ≡ Err e
names_step chosen e given steps = names_given chosen given ∙ ap (names_from chosen) steps

pub names_found : (chosen : Choices) (steps : StepCounts) → missing chosen ≡ None → steps_chosen chosen ≡ Ok steps → names_of chosen ≡ Ok (names_with chosen steps)
names_found chosen steps given e = names_given chosen given ∙ ap (names_from chosen) e

abbrev syntax_of : List ℕ → Option ℕ
syntax_of bytes = syntax_fault (last_line bytes) Outside (tokens bytes)

pub reading_syntax : (bytes : List ℕ) (line : ℕ) → syntax_of bytes ≡ Some line → reading bytes ≡ Err (fault.Syntax line)
unfolding reading
reading_syntax bytes line e = ap (λ (line : Option ℕ). unless_syntax line (judged nothing (tokens bytes) >>= names_of)) e

reading_in_order : (bytes : List ℕ) → syntax_of bytes ≡ None → reading bytes ≡ (judged nothing (tokens bytes) >>= names_of)
unfolding reading
reading_in_order bytes e = ap (λ (line : Option ℕ). unless_syntax line (judged nothing (tokens bytes) >>= names_of)) e

pub reading_wrong : (bytes : List ℕ) (e : NamesError) → syntax_of bytes ≡ None → judged nothing (tokens bytes) ≡ Err e → reading bytes ≡ Err e
reading_wrong bytes e order wrong = reading_in_order bytes order ∙ ap (λ (r : Result Choices NamesError). r >>= names_of) wrong

pub reading_set : (bytes : List ℕ) (chosen : Choices) → syntax_of bytes ≡ None → judged nothing (tokens bytes) ≡ Ok chosen → reading bytes ≡ names_of chosen
reading_set bytes chosen order e = reading_in_order bytes order ∙ ap (λ (r : Result Choices NamesError). r >>= names_of) e
