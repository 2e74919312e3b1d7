-- All that is given fits its row.
use Rattle.std.proofs.Common.{◌≡◌, ℕ, zero, suc, ◌<◌, ◌⊎◌, inl, inr, List, [], ◌∷◌, length, take, drop, Bool, true, false, cond, Option, Some, None, Result, Ok, Err, get_or, set, map, refl, sym, ap, subst, ◌∙◌, arith}
use Rattle.std.specs.Prelude.{◌&&◌, ◌||◌, nat_le, ◌==◌, unwrap_or, is_some, replicate}
use Rattle.std.specs.List.{AllByRecursion, list_all}
use Rattle.std.proofs.lemmas.Bool.{leb-true, eqb-true}
use Rattle.cpl_fixed.specs.Results.{◌>>=◌}
use Rattle.cpl_namelist.specs.declared.fault.NamesError.{NamesError}
use Rattle.cpl_namelist.specs.declared.fault.NamesError.TheVariants as fault
use Rattle.cpl_namelist.specs.declared.token.Kind.{Kind}
use Rattle.cpl_namelist.specs.declared.token.Kind.TheVariants as kind
use Rattle.cpl_namelist.specs.declared.group.Group.{Group}
use Rattle.cpl_namelist.specs.declared.table.Row.{Row}
use Rattle.cpl_namelist.specs.Tokens.{Lexeme}
use Rattle.cpl_namelist.specs.Groups.{group_named, group_place}
use Rattle.cpl_namelist.specs.Table.{format, name_in_group, row_at, no_row}
use Rattle.cpl_namelist.specs.Numbers.{suits_held, fitting}
use Rattle.cpl_namelist.specs.Settings.{Choices, nothing, given_at, is_given, opened_named, set_to, assigned, kind_judged, token_judged, judged, number}
use Rattle.cpl_namelist.specs.Ranges.{IsFrom}
use Rattle.cpl_namelist.proofs.Given.{both, Fit, fitting_fits}

pub Fine : Choices → Type 0
Fine chosen = (place : ℕ) (ns : List ℕ) → given_at chosen place ≡ Some ns → Fit (row_at place) ns

pub fine_at : (chosen : Choices) → Fine chosen → (place : ℕ) (ns : List ℕ) → given_at chosen place ≡ Some ns → Fit (row_at place) ns
unfolding Fine
fine_at chosen fine = fine

set_cases : (xs : List (Option (List ℕ))) (i j : ℕ) (v : Option (List ℕ)) (ns : List ℕ) → get_or (set xs i v) j None ≡ Some ns → ((j ≡ i) × (v ≡ Some ns)) ⊎ (get_or xs j None ≡ Some ns)
set_cases [] i j v ns e = inr e
set_cases (x ∷ xs) zero zero v ns e = inl (refl, e)
set_cases (x ∷ xs) zero (suc j) v ns e = inr e
set_cases (x ∷ xs) (suc i) zero v ns e = inr e
set_cases (x ∷ xs) (suc i) (suc j) v ns e =
    elim (set_cases xs i j v ns e) [ inl (same, is) ↦ inl (ap suc same, is) | inr e ↦ inr e ]

same_given : (a b : Choices) → a.given ≡ b.given → Fine a → Fine b
unfolding Fine
same_given a b e fine place ns h = fine place ns (ap (λ (given : List (Option (List ℕ))). get_or given place None) e ∙ h)

opened_fine : (chosen next : Choices) (line : ℕ) (group : Group) (test : Bool) → Fine chosen
    → cond test (Err (fault.Twice line)) (Ok (record { group = group; groups = set chosen.groups (group_place group) true; given = chosen.given })) ≡ Ok next → Fine next
opened_fine chosen next line group true fine e = absurd cc
opened_fine chosen next line group false fine e = let g : chosen.given ≡ next.given = cc in same_given chosen next g fine

opened_named_fine : (chosen next : Choices) (line : ℕ) (group : Option Group) → Fine chosen → opened_named chosen line group ≡ Ok next → Fine next
opened_named_fine chosen next line None fine e = absurd cc
opened_named_fine chosen next line (Some group) fine e = opened_fine chosen next line group (get_or chosen.groups (group_place group) false) fine e

set_fine : (chosen next : Choices) (line place : ℕ) (o : Option (List ℕ)) → Fine chosen → ((ns : List ℕ) → o ≡ Some ns → Fit (row_at place) ns) → set_to chosen line place o ≡ Ok next → Fine next
unfolding Fine
set_fine chosen next line place None fine fit e = absurd cc
set_fine chosen next line place (Some ns) fine fit e = λ at ms h.
    let g : set chosen.given place (Some ns) ≡ next.given = cc in
    elim (set_cases chosen.given place at (Some ns) ms (ap (λ (given : List (Option (List ℕ))). get_or given at None) g ∙ h)) [
      | inl (same, is) ↦ (let all : ns ≡ ms = cc in subst (λ (at : ℕ). Fit (row_at at) ms) (sym same) (subst (Fit (row_at place)) all (fit ns refl)))
      | inr old ↦ fine at ms old
    ]

assigned_fine : (chosen next : Choices) (line : ℕ) (others : List Lexeme) (name : Option ℕ) → Fine chosen → assigned chosen line others name ≡ Ok next → Fine next
assigned_fine chosen next line others None fine e = absurd cc
assigned_fine chosen next line others (Some place) fine e = free_fine chosen next line place others (is_given chosen place) fine e
  where
    free_fine : (chosen next : Choices) (line place : ℕ) (others : List Lexeme) (test : Bool) → Fine chosen → cond test (Err (fault.Twice line)) (set_to chosen line place (fitting (row_at place) others)) ≡ Ok next → Fine next
    free_fine chosen next line place others true fine e = absurd cc
    free_fine chosen next line place others false fine e = set_fine chosen next line place (fitting (row_at place) others) fine (λ ns. fitting_fits (row_at place) others ns) e

kind_fine : (k : Kind) (chosen next : Choices) (token : Lexeme) (others : List Lexeme) → Fine chosen → kind_judged k chosen token others ≡ Ok next → Fine next
kind_fine kind.Group chosen next token others fine e = opened_named_fine chosen next token.line (group_named (drop 1 token.text)) fine e
kind_fine kind.Word chosen next token others fine e = assigned_fine chosen next token.line others (name_in_group chosen.group token.text) fine e
kind_fine _ chosen next token others fine e = let g : chosen.given ≡ next.given = cc in same_given chosen next g fine

bind_fine : (first : Result Choices NamesError) (others : List Lexeme) (last : Choices) → ((next : Choices) → first ≡ Ok next → Fine next) → ((next : Choices) → Fine next → judged next others ≡ Ok last → Fine last)
    → (first >>= λ next. judged next others) ≡ Ok last → Fine last
bind_fine (Ok next) others last fine go e = go next (fine next refl) e
bind_fine (Err f) others last fine go e = absurd cc

pub judged_fine : (tokens : List Lexeme) (chosen last : Choices) → Fine chosen → judged chosen tokens ≡ Ok last → Fine last
unfolding judged
judged_fine [] chosen last fine e = let g : chosen.given ≡ last.given = cc in same_given chosen last g fine
judged_fine (token ∷ others) chosen last fine e =
    bind_fine (token_judged chosen token others) others last (λ next. kind_fine token.kind chosen next token others fine) (λ next. judged_fine others next last) e

abbrev not_given : Option (List ℕ)
not_given = None

none_at : (n place : ℕ) (ns : List ℕ) → get_or (replicate n not_given) place not_given ≡ Some ns → ⊥
none_at zero place ns e = cc
none_at (suc n) zero ns e = cc
none_at (suc n) (suc place) ns e = none_at n place ns e

pub nothing_fine : Fine nothing
unfolding Fine
nothing_fine place ns e = absurd (none_at 31 place ns e)

-- ---- numbers

all_at : (P : ℕ → Type 0) (xs : List ℕ) (k : ℕ) → AllByRecursion P xs → k < length xs → P (get_or xs k 0)
all_at P [] k all lt = absurd (omega arith)
all_at P (x ∷ xs) zero all lt = all.0
all_at P (x ∷ xs) (suc k) all lt = all_at P xs k all.1 (omega arith)

abbrev inside_row : Row → ℕ → Bool
inside_row row n = nat_le row.low n && nat_le n row.high

abbrev default_in : Row → Option (List ℕ) → Bool
default_in row None = true
default_in row (Some d) = length (take row.count d) == row.count && list_all (inside_row row) (take row.count d)

defaults_at : (rows : List Row) (place : ℕ) → list_all (λ row. default_in row row.default) rows ≡ true → default_in (get_or rows place no_row) (get_or rows place no_row).default ≡ true
defaults_at [] place e = refl
defaults_at (row ∷ rows) zero e = (both (default_in row row.default) (list_all (λ row. default_in row row.default) rows) e).0
defaults_at (row ∷ rows) (suc place) e = defaults_at rows place (both (default_in row row.default) (list_all (λ row. default_in row row.default) rows) e).1

default_fine : (place : ℕ) → default_in (row_at place) (row_at place).default ≡ true
unfolding row_at
default_fine place = defaults_at (map (λ entry. entry.row) format) place refl

all_inside : (row : Row) (ns : List ℕ) → list_all (inside_row row) ns ≡ true → AllByRecursion (IsFrom row.low row.high) ns
all_inside row [] e = tt
all_inside row (n ∷ ns) e =
    let b = both (inside_row row n) (list_all (inside_row row) ns) e in
    let h = both (nat_le row.low n) (nat_le n row.high) b.0 in
    ((leb-true row.low n h.0, leb-true n row.high h.1), all_inside row ns b.1)

given_in : (row : Row) (o d : Option (List ℕ)) (k : ℕ) → ((ns : List ℕ) → o ≡ Some ns → Fit row ns) → default_in row d ≡ true → (is_some o || is_some d) ≡ true → k < row.count
    → IsFrom row.low row.high (get_or (unwrap_or o (take row.count (unwrap_or d (replicate 12 0)))) k 0)
given_in row (Some ns) d k fit fine any lt =
    let f = fit ns refl in
    let len : length ns ≡ row.count = eqb-true (length ns) row.count (both (length ns == row.count) (suits_held row.holds ns) f.suited).0 in
    all_at (IsFrom row.low row.high) ns k f.inside (omega arith)
given_in row None (Some d) k fit fine any lt =
    let b = both (length (take row.count d) == row.count) (list_all (inside_row row) (take row.count d)) fine in
    let len : length (take row.count d) ≡ row.count = eqb-true (length (take row.count d)) row.count b.0 in
    all_at (IsFrom row.low row.high) (take row.count d) k (all_inside row (take row.count d) b.1) (omega arith)
given_in row None None k fit fine any lt = absurd cc

-- a number that is given or has a default is in its row's range
pub number_in : (chosen : Choices) (place k : ℕ) → Fine chosen → (is_some (given_at chosen place) || is_some (row_at place).default) ≡ true → k < (row_at place).count
    → IsFrom (row_at place).low (row_at place).high (number chosen place k)
unfolding Fine
number_in chosen place k fine any lt = given_in (row_at place) (given_at chosen place) (row_at place).default k (fine place) (default_fine place) any lt
