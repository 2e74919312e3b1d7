-- What is given, or else the default, is in its range.
use Rattle.std.proofs.Common.{◌≡◌, ℕ, zero, suc, ◌+◌, List, [], ◌∷◌, ◌++◌, take, drop, replicate, Bool, true, false, cond, Option, Some, None, refl, sym, ap, subst, ◌∙◌}
use Rattle.std.specs.Prelude.{◌&&◌, nat_le}
use Rattle.std.specs.List.{AllByRecursion}
use Rattle.std.proofs.lemmas.Bool.{leb-true}
use Rattle.cpl_namelist.specs.declared.token.Kind.{Kind}
use Rattle.cpl_namelist.specs.declared.token.Kind.TheVariants as kind
use Rattle.cpl_namelist.specs.declared.table.Holds.{Holds}
use Rattle.cpl_namelist.specs.declared.table.Holds.TheVariants as holds
use Rattle.cpl_namelist.specs.declared.table.Row.{Row}
use Rattle.cpl_namelist.specs.Tokens.{Lexeme, digits_len}
use Rattle.cpl_namelist.specs.Values.{in_range, natural, times_number, once, repeat, is_gregorian, logical, value, value_held, number_value, calendar_value, logical_value}
use Rattle.cpl_namelist.specs.Numbers.{value_and, number_front, numbers, suits, kept, fitting}
use Rattle.cpl_namelist.specs.Ranges.{IsFrom}

abbrev In : Row → ℕ → Type 0
In row n = IsFrom row.low row.high n

pub both : (a b : Bool) → (a && b) ≡ true → (a ≡ true) × (b ≡ true)
both true true e = (refl, refl)
both true false e = (refl, e)
both false b e = absurd cc

test_in : (low high n m : ℕ) (test : Bool) → (nat_le low n && nat_le n high) ≡ test → cond test (Some n) None ≡ Some m → IsFrom low high m
test_in low high n m true is e =
    let b = both (nat_le low n) (nat_le n high) is in
    let same : n ≡ m = cc in
    subst (IsFrom low high) same (leb-true low n b.0, leb-true n high b.1)
test_in low high n m false is e = absurd cc

range_in : (low high : ℕ) (o : Option ℕ) (m : ℕ) → in_range low high o ≡ Some m → IsFrom low high m
range_in low high None m e = absurd cc
range_in low high (Some n) m e = test_in low high n m (nat_le low n && nat_le n high) refl e

some_is : (x y : ℕ × ℕ) → Some x ≡ Some y → x ≡ y
some_is x y e = cc

times_in : (low high : ℕ) (a b : Option ℕ) (v : ℕ × ℕ) → ((n : ℕ) → b ≡ Some n → IsFrom low high n) → times_number a b ≡ Some v → IsFrom low high v.1
times_in low high (Some a) (Some b) v h e = let same : b ≡ v.1 = ap (λ (p : ℕ × ℕ). p.1) (some_is (a, b) v e) in subst (IsFrom low high) same (h b refl)
times_in low high (Some a) None v h e = absurd cc
times_in low high None b v h e = absurd cc

repeat_in : (low high : ℕ) (text : List ℕ) (v : ℕ × ℕ) → repeat text low high ≡ Some v → IsFrom low high v.1
repeat_in low high text v e =
    times_in low high (in_range 1 64 (natural (take (digits_len text) text))) (in_range low high (natural (drop (digits_len text + 1) text))) v (range_in low high (natural (drop (digits_len text + 1) text))) e

number_value_in : (row : Row) (k : Kind) (text : List ℕ) (v : ℕ × ℕ) → number_value row k text ≡ Some v → In row v.1
number_value_in row kind.Integer text v e = times_in row.low row.high (Some 1) (in_range row.low row.high (natural text)) v (range_in row.low row.high (natural text)) e
number_value_in row kind.Repeat text v e = repeat_in row.low row.high text v e
number_value_in row _ text v e = absurd cc

calendar_test : (row : Row) (test : Bool) (v : ℕ × ℕ) → cond test (once (in_range row.low row.high (Some 1))) None ≡ Some v → In row v.1
calendar_test row true v e = times_in row.low row.high (Some 1) (in_range row.low row.high (Some 1)) v (range_in row.low row.high (Some 1)) e
calendar_test row false v e = absurd cc

calendar_value_in : (row : Row) (k : Kind) (text : List ℕ) (v : ℕ × ℕ) → calendar_value row k text ≡ Some v → In row v.1
calendar_value_in row kind.Text text v e = calendar_test row (is_gregorian text) v e
calendar_value_in row _ text v e = absurd cc

logical_value_in : (row : Row) (k : Kind) (text : List ℕ) (v : ℕ × ℕ) → logical_value row k text ≡ Some v → In row v.1
logical_value_in row kind.Logical text v e = times_in row.low row.high (Some 1) (in_range row.low row.high (Some (logical text))) v (range_in row.low row.high (Some (logical text))) e
logical_value_in row _ text v e = absurd cc

held_in : (held : Holds) (row : Row) (k : Kind) (text : List ℕ) (v : ℕ × ℕ) → value_held held row k text ≡ Some v → In row v.1
held_in holds.Numbers row k text v e = number_value_in row k text v e
held_in holds.Moment row k text v e = number_value_in row k text v e
held_in holds.Calendar row k text v e = calendar_value_in row k text v e
held_in holds.Logical row k text v e = logical_value_in row k text v e

-- ---- the numbers of values

all_front : (P : ℕ → Type 0) (times n : ℕ) (ms : List ℕ) → P n → AllByRecursion P ms → AllByRecursion P (replicate times n ++ ms)
all_front P zero n ms here all = all
all_front P (suc times) n ms here all = (here, all_front P times n ms here all)

value_and_in : (row : Row) (o : Option (ℕ × ℕ)) (more : Option (List ℕ)) (ns : List ℕ) → ((v : ℕ × ℕ) → o ≡ Some v → In row v.1) → ((ms : List ℕ) → more ≡ Some ms → AllByRecursion (In row) ms)
    → value_and o more ≡ Some ns → AllByRecursion (In row) ns
value_and_in row None more ns h all e = absurd cc
value_and_in row (Some v) None ns h all e = absurd cc
value_and_in row (Some v) (Some ms) ns h all e =
    let same : replicate v.0 v.1 ++ ms ≡ ns = cc in subst (AllByRecursion (In row)) same (all_front (In row) v.0 v.1 ms (h v refl) (all ms refl))

nil_in : (row : Row) (ns : List ℕ) → Some [] ≡ Some ns → AllByRecursion (In row) ns
nil_in row [] e = tt
nil_in row (n ∷ ns) e = absurd cc

front_in : (row : Row) (k : Kind) (o : Option (ℕ × ℕ)) (more : Option (List ℕ)) (ns : List ℕ) → ((v : ℕ × ℕ) → o ≡ Some v → In row v.1) → ((ms : List ℕ) → more ≡ Some ms → AllByRecursion (In row) ms)
    → number_front k o more ≡ Some ns → AllByRecursion (In row) ns
front_in row kind.Word o more ns h all e = nil_in row ns e
front_in row kind.Slash o more ns h all e = nil_in row ns e
front_in row kind.Equals o more ns h all e = all ns e
front_in row kind.Comma o more ns h all e = all ns e
front_in row _ o more ns h all e = value_and_in row o more ns h all e

numbers_in : (row : Row) (tokens : List Lexeme) (ns : List ℕ) → numbers row tokens ≡ Some ns → AllByRecursion (In row) ns
unfolding numbers
numbers_in row [] ns e = nil_in row ns e
numbers_in row (token ∷ others) ns e =
    front_in row token.kind (value row token.kind token.text) (numbers row others) ns (λ v. held_in row.holds row token.kind token.text v) (λ ms. numbers_in row others ms) e

-- the numbers fit the row
pub record Fit (row : Row) (ns : List ℕ) : Type 0 where
  pub suited : suits row ns ≡ true
  pub inside : AllByRecursion (In row) ns

kept_test : (test : List ℕ → Bool) (o : Option (List ℕ)) (ns : List ℕ) → kept test o ≡ Some ns → (o ≡ Some ns) × (test ns ≡ true)
kept_test test None ns e = absurd cc
kept_test test (Some ms) ns e = kept_by test ms ns (test ms) refl e
  where
    kept_by : (test : List ℕ → Bool) (ms ns : List ℕ) (b : Bool) → test ms ≡ b → cond b (Some ms) None ≡ Some ns → (Some ms ≡ Some ns) × (test ns ≡ true)
    kept_by test ms ns true is e = let same : ms ≡ ns = cc in (e, ap test (sym same) ∙ is)
    kept_by test ms ns false is e = absurd cc

pub fitting_fits : (row : Row) (tokens : List Lexeme) (ns : List ℕ) → fitting row tokens ≡ Some ns → Fit row ns
unfolding fitting
fitting_fits row tokens ns e = let k = kept_test (suits row) (numbers row tokens) ns e in record { suited = k.1; inside = numbers_in row tokens ns k.0 }
