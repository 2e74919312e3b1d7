-- The steps through headings and assignments.
use Rattle.std.proofs.Common.{◌≡◌, ℕ, List, [], ◌∷◌, Bool, false, cond, Option, Some, Result, Ok, Err, sym, ap, ◌∙◌}
use Rattle.std.specs.Prelude.{slice_set}
use Rattle.cpl_fixed.specs.Results.{◌>>=◌}
use Rattle.cpl_namelist.specs.declared.fault.NamesError.{NamesError}
use Rattle.cpl_namelist.specs.declared.fault.NamesError.TheVariants as fault
use Rattle.cpl_namelist.specs.Tokens.{Lexeme}
use Rattle.cpl_namelist.specs.Table.{row_at}
use Rattle.cpl_namelist.specs.Numbers.{fitting}
use Rattle.cpl_namelist.specs.Settings.{Choices, is_given, set_to, assigned, token_judged, judged}

pub assigned_ok : (chosen : Choices) (line : ℕ) (others : List Lexeme) (name : Option ℕ) (place : ℕ) (ns : List ℕ) → name ≡ Some place → is_given chosen place ≡ false → fitting (row_at place) others ≡ Some ns
    → assigned chosen line others name ≡ Ok (record { group = chosen.group; groups = chosen.groups; given = slice_set chosen.given place (Some ns) })
assigned_ok chosen line others name place ns e free fits =
    ap (assigned chosen line others) e
    ∙ ap (λ (b : Bool). cond b (Err (fault.Twice line)) (set_to chosen line place (fitting (row_at place) others))) free
    ∙ ap (set_to chosen line place) fits

judged_next : (chosen : Choices) (tokens : List Lexeme) (token : Lexeme) (others : List Lexeme) → tokens ≡ token ∷ others → judged chosen tokens ≡ (token_judged chosen token others >>= λ next. judged next others)
unfolding judged
judged_next chosen tokens token others e = ap (judged chosen) e

pub judged_on : (chosen next : Choices) (tokens : List Lexeme) (token : Lexeme) (others : List Lexeme) → tokens ≡ token ∷ others → token_judged chosen token others ≡ Ok next → judged next others ≡ judged chosen tokens
judged_on chosen next tokens token others e ok = sym (judged_next chosen tokens token others e ∙ ap (λ (r : Result Choices NamesError). r >>= λ next. judged next others) ok)

pub judged_wrong : (chosen : Choices) (tokens : List Lexeme) (token : Lexeme) (others : List Lexeme) (e : NamesError) → tokens ≡ token ∷ others → token_judged chosen token others ≡ Err e → judged chosen tokens ≡ Err e
judged_wrong chosen tokens token others f e wrong = judged_next chosen tokens token others e ∙ ap (λ (r : Result Choices NamesError). r >>= λ next. judged next others) wrong

pub judged_all : (chosen : Choices) (tokens : List Lexeme) → tokens ≡ [] → judged chosen tokens ≡ Ok chosen
unfolding judged
judged_all chosen tokens e = ap (judged chosen) e
