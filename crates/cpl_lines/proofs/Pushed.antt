-- Numbers read one after the other into a list.
use Rattle.std.proofs.Common.{◌≡◌, ◌∙◌, refl, sym, ℕ, suc, ◌+◌, ◌-◌, ◌<◌, ◌≤◌, ◌&&◌, min, ℤ, pos, Bool, true, false, List, [], ◌∷◌, ◌++◌, map, replicate, Option, Some, None, Result, Ok, Err, append_assoc, arith}
use Rattle.std.specs.List.{list_all}
use Rattle.std.proofs.lemmas.List.{append-nil}
use Rattle.std.proofs.lemmas.Bool.{and_parts, leb-true}
use Rattle.cpl_lines.specs.declared.fault.LineFault.{LineFault}
use Rattle.cpl_lines.specs.declared.fault.LineFault.TheVariants as line
use Rattle.cpl_lines.specs.Fields.{Field, Number, AnyNumber, value}
use Rattle.cpl_lines.specs.Reading.{field_at, fields_at, ◌>>=◌}
use Rattle.cpl_lines.specs.Steps.{is_at_most, capped, numbers_added}

and_assoc : (a b c : Bool) → ((a && b) && c) ≡ (a && (b && c))
and_assoc true b c = refl
and_assoc false b c = refl

and_true : (a : Bool) → (a && true) ≡ a
and_true true = refl
and_true false = refl

regroup : (most : ℕ) (keeps : Bool) (list : List ℤ) (n : ℕ) (others : Option (List Field × List ℕ))
    → numbers_added most keeps list (others >>= λ x. Some (Number n ∷ x.0, x.1)) ≡ numbers_added most (keeps && is_at_most most n) (list ++ capped most n ∷ []) others
regroup most keeps list n None = refl
regroup most keeps list n (Some x) =
    let numbers : List ℕ = map value x.0 in
    let l : (keeps && (is_at_most most n && list_all (is_at_most most) numbers)) ≡ ((keeps && is_at_most most n) && list_all (is_at_most most) numbers) =
    sym (and_assoc keeps (is_at_most most n) (list_all (is_at_most most) numbers)) in
    let k : list ++ (capped most n ∷ map (capped most) numbers) ≡ (list ++ capped most n ∷ []) ++ map (capped most) numbers =
    sym (append_assoc list (capped most n ∷ []) (map (capped most) numbers)) in
    (λ i. Ok (l i, x.1, k i))

pub goes_on : (most : ℕ) (keeps : Bool) (list : List ℤ) (count i : ℕ) (bytes : List ℕ) (n : ℕ) (rest : List ℕ) (total : Result (Bool × List ℕ × List ℤ) LineFault) → i < count
    → field_at AnyNumber bytes ≡ Some (Number n, rest)
    → numbers_added most keeps list (fields_at (replicate (count - i) AnyNumber) bytes) ≡ total
    → numbers_added most (keeps && is_at_most most n) (list ++ capped most n ∷ []) (fields_at (replicate (count - (i + 1)) AnyNumber) rest) ≡ total
goes_on most keeps list count i bytes n rest total lt found so_far =
    let k : count - i ≡ suc (count - (i + 1)) = omega arith in
    let one : numbers_added most keeps list (fields_at (replicate (count - i) AnyNumber) bytes)
    ≡ numbers_added most (keeps && is_at_most most n) (list ++ capped most n ∷ []) (fields_at (replicate (count - (i + 1)) AnyNumber) rest) =
    rw (k, found) (regroup most keeps list n (fields_at (replicate (count - (i + 1)) AnyNumber) rest)) in
    sym one ∙ so_far

pub ends : (most : ℕ) (keeps : Bool) (list : List ℤ) (count i : ℕ) (bytes : List ℕ) (total : Result (Bool × List ℕ × List ℤ) LineFault) → i < count
    → field_at AnyNumber bytes ≡ None
    → numbers_added most keeps list (fields_at (replicate (count - i) AnyNumber) bytes) ≡ total → total ≡ Err line.Form
ends most keeps list count i bytes total lt none so_far =
    let k : count - i ≡ suc (count - (i + 1)) = omega arith in
    let one : numbers_added most keeps list (fields_at (replicate (count - i) AnyNumber) bytes) ≡ Err line.Form = rw (k, none) refl in
    sym so_far ∙ one

pub is_done : (most : ℕ) (keeps : Bool) (list : List ℤ) (count i : ℕ) (bytes : List ℕ) (total : Result (Bool × List ℕ × List ℤ) LineFault) → count ≤ i
    → numbers_added most keeps list (fields_at (replicate (count - i) AnyNumber) bytes) ≡ total → total ≡ Ok (keeps, bytes, list)
is_done most keeps list count i bytes total le so_far =
    let k : count - i ≡ 0 = omega arith in
    let l : (keeps && true) ≡ keeps = and_true keeps in
    let a : list ++ [] ≡ list = append-nil list in
    let one : numbers_added most keeps list (fields_at (replicate (count - i) AnyNumber) bytes) ≡ Ok (keeps, bytes, list) = rw k (λ i. Ok (l i, bytes, a i)) in
    sym so_far ∙ one

-- a number that keeps the limit is stored as it is
pub stored : (most : ℕ) (numbers : List ℕ) → list_all (is_at_most most) numbers ≡ true → map (capped most) numbers ≡ map pos numbers
stored most [] keep = refl
stored most (n ∷ numbers) keep =
    let both = and_parts (is_at_most most n) (list_all (is_at_most most) numbers) keep in
    let here : min n most ≡ n = omega (arith, leb-true n most both.0) in
    let others : map (capped most) numbers ≡ map pos numbers = stored most numbers both.1 in
    (λ i. pos (here i) ∷ others i)

-- what was added
pub added_some : (most : ℕ) (keeps : Bool) (list : List ℤ) (found : Option (List Field × List ℕ)) (y : Bool × List ℕ × List ℤ) → numbers_added most keeps list found ≡ Ok y
    → (x : List Field × List ℕ) × (found ≡ Some x)
    × (◌≡◌ {A = Bool × List ℕ × List ℤ} (keeps && list_all (is_at_most most) (map value x.0), x.1, list ++ map (capped most) (map value x.0)) y)
added_some most keeps list None y e = absurd cc
added_some most keeps list (Some x) y e = (x, refl, cc)
