-- The rows of arguments that were given once and with one value each.
use Rattle.std.proofs.Common.{◌≡◌, ◌∙◌, ◌||◌, ◌++◌, ℕ, Bool, cond, true, false, refl, sym, ap, List, [], ◌∷◌, map, Option, Some, None, is_some, append-nil}
use Rattle.std.specs.Prelude.{option_and_then, slice_get}
use Rattle.std.specs.List.{find}
use Rattle.std.specs.Option.{option_map_or}
use Rattle.std.specs.Str.{bytes_eq}
use Rattle.std.proofs.lemmas.List.{map-append}
use Rattle.clap.specs.Facts.{explicit_source}
use Rattle.clap.specs.Values.{reading_of}
use Rattle.clap.specs.Walk.{Row, Rule, Text, at_row, first_of, has_row, more_values, used}
use Rattle.clap.specs.Simple.{new_rule}
use Rattle.clap.specs.Takes.{is_given}
use Rattle.clap.specs.declared.builder.action.ArgAction.TheVariants.{Set}
use Rattle.clap.specs.declared.builder.value_parser.ValueParser.TheVariants as vp
use Rattle.clap.specs.declared.parser.matches.ValueSource.TheVariants.{CommandLine}

-- the names of arguments and their values, in the order in which they were given
abbrev pub Given : Type 0
Given = List (Text × Text)

abbrev pub row : Text × Text → Row
row p = record { id = p.0; values = p.1 ∷ []; count = None; source = Some CommandLine; reading = reading_of vp.String }

abbrev pub rows : Given → List Row
rows given = map row given

abbrev pub value_of : Given → Text → Option Text
value_of [] id = None
value_of (p ∷ given) id = cond (bytes_eq p.0 id) (Some p.1) (value_of given id)

-- an argument with one value, as it is built
abbrev pub single : Text → Option Text → Option ℕ → Bool → Rule
single id long index required = record (new_rule id) {
  long = long;
  index = index;
  required = required;
  action = Some Set;
  range = Some (record { start_inclusive = 1; end_inclusive = 1 });
  parser = Some vp.String;
}

pub row_is_there : (given : Given) (id : Text) → has_row id (rows given) ≡ is_some (value_of given id)
row_is_there [] id = refl
row_is_there (p ∷ given) id = go (bytes_eq p.0 id) (row_is_there given id)
  where
    go : (b : Bool) → has_row id (rows given) ≡ is_some (value_of given id) → (b || has_row id (rows given)) ≡ is_some (cond b (Some p.1) (value_of given id))
    go true e = refl
    go false e = e

pub row_is_given : (given : Given) (id : Text) → is_given id (rows given) ≡ is_some (value_of given id)
row_is_given [] id = refl
row_is_given (p ∷ given) id = go (bytes_eq p.0 id) (row_is_given given id)
  where
    go : (b : Bool) → is_given id (rows given) ≡ is_some (value_of given id)
        → option_map_or (λ r. explicit_source r.source) (cond b (Some (row p)) (find (λ r. bytes_eq r.id id) (rows given))) false
        ≡ is_some (cond b (Some p.1) (value_of given id))
    go true e = refl
    go false e = e

pub first_is : (given : Given) (id : Text) → first_of id (rows given) ≡ value_of given id
first_is [] id = refl
first_is (p ∷ given) id = go (bytes_eq p.0 id) (first_is given id)
  where
    go : (b : Bool) → first_of id (rows given) ≡ value_of given id
        → option_and_then (λ (r : Row). slice_get r.values 0) (cond b (Some (row p)) (find (λ r. bytes_eq r.id id) (rows given)))
        ≡ cond b (Some p.1) (value_of given id)
    go true e = refl
    go false e = e

-- one more is given
pub more_kept : (given : Given) (p : Text × Text) (id : Text) → bytes_eq p.0 id ≡ false → value_of (given ++ p ∷ []) id ≡ value_of given id
more_kept [] p id other = ap (λ b. cond b (Some p.1) None) other
more_kept (q ∷ given) p id other = ap (λ v. cond (bytes_eq q.0 id) (Some q.1) v) (more_kept given p id other)

pub more_new : (given : Given) (p : Text × Text) (id : Text) → bytes_eq p.0 id ≡ true → value_of given id ≡ None → value_of (given ++ p ∷ []) id ≡ Some p.1
more_new [] p id same none = ap (λ b. cond b (Some p.1) None) same
more_new (q ∷ given) p id same none = go (bytes_eq q.0 id) none (more_new given p id same)
  where
    go : (b : Bool) → cond b (Some q.1) (value_of given id) ≡ None → (value_of given id ≡ None → value_of (given ++ p ∷ []) id ≡ Some p.1)
        → cond b (Some q.1) (value_of (given ++ p ∷ []) id) ≡ Some p.1
    go true e later = cc
    go false e later = later e

joins : (given : Given) (id : Text) (change : Row → List Row) (missing : List Row) → value_of given id ≡ None → at_row id change missing (rows given) ≡ rows given ++ missing
joins [] id change missing none = refl
joins (p ∷ given) id change missing none = go (bytes_eq p.0 id) none (joins given id change missing)
  where
    go : (b : Bool) → cond b (Some p.1) (value_of given id) ≡ None → (value_of given id ≡ None → at_row id change missing (rows given) ≡ rows given ++ missing)
        → cond b (change (row p) ++ rows given) (row p ∷ at_row id change missing (rows given)) ≡ row p ∷ (rows given ++ missing)
    go true e later = cc
    go false e later = ap (λ rs. row p ∷ rs) (later e)

pub used_once : (given : Given) (id : Text) (long : Option Text) (index : Option ℕ) (required : Bool) (value : Text) → value_of given id ≡ None
    → used (single id long index required) (value ∷ []) (rows given) ≡ rows (given ++ (id, value) ∷ [])
used_once given id long index required value none =
    let same = joins given id (λ _. []) [] none ∙ append-nil (rows given) in
    ap (at_row id (more_values CommandLine (value ∷ [])) (row (id, value) ∷ [])) same ∙ joins given id (more_values CommandLine (value ∷ [])) (row (id, value) ∷ []) none
    ∙ sym (map-append row given ((id, value) ∷ []))
