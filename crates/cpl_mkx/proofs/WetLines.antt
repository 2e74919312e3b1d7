-- Digits read one after the other into a list.
use Rattle.std.proofs.Common.{◌≡◌, ◌∙◌, refl, sym, ℕ, suc, ◌+◌, ◌-◌, ◌<◌, ◌≤◌, Bool, List, [], ◌∷◌, ◌++◌, map, replicate, Option, Some, None, Result, Ok, Err, append_assoc, arith}
use Rattle.std.proofs.lemmas.List.{append-nil}
use Rattle.cpl_lines.specs.declared.fault.LineFault.{LineFault}
use Rattle.cpl_lines.specs.declared.fault.LineFault.TheVariants as line
use Rattle.cpl_lines.specs.Fields.{Field, Letter, value}
use Rattle.cpl_lines.specs.Reading.{field_at, fields_at, ◌>>=◌}
use Rattle.cpl_mkx.specs.BoxFormat.{flag, is_one}
use Rattle.cpl_mkx.specs.Readers.{digits_added}

regroup : (list : List Bool) (n : ℕ) (others : Option (List Field × List ℕ))
    → digits_added list (others >>= λ x. Some (Letter n ∷ x.0, x.1)) ≡ digits_added (list ++ is_one n ∷ []) others
regroup list n None = refl
regroup list n (Some x) =
    let k : list ++ (is_one n ∷ map is_one (map value x.0)) ≡ (list ++ is_one n ∷ []) ++ map is_one (map value x.0) = sym (append_assoc list (is_one n ∷ []) (map is_one (map value x.0))) in
    (λ i. Ok (x.1, k i))

pub goes_on : (list : List Bool) (count i : ℕ) (bytes : List ℕ) (n : ℕ) (rest : List ℕ) (total : Result (List ℕ × List Bool) LineFault) → i < count
    → field_at flag bytes ≡ Some (Letter n, rest)
    → digits_added list (fields_at (replicate (count - i) flag) bytes) ≡ total
    → digits_added (list ++ is_one n ∷ []) (fields_at (replicate (count - (i + 1)) flag) rest) ≡ total
goes_on list count i bytes n rest total lt found so_far =
    let k : count - i ≡ suc (count - (i + 1)) = omega arith in
    let one : digits_added list (fields_at (replicate (count - i) flag) bytes) ≡ digits_added (list ++ is_one n ∷ []) (fields_at (replicate (count - (i + 1)) flag) rest) =
    rw (k, found) (regroup list n (fields_at (replicate (count - (i + 1)) flag) rest)) in
    sym one ∙ so_far

pub ends : (list : List Bool) (count i : ℕ) (bytes : List ℕ) (total : Result (List ℕ × List Bool) LineFault) → i < count
    → field_at flag bytes ≡ None
    → digits_added list (fields_at (replicate (count - i) flag) bytes) ≡ total → total ≡ Err line.Form
ends list count i bytes total lt none so_far =
    let k : count - i ≡ suc (count - (i + 1)) = omega arith in
    let one : digits_added list (fields_at (replicate (count - i) flag) bytes) ≡ Err line.Form = rw (k, none) refl in
    sym so_far ∙ one

pub is_done : (list : List Bool) (count i : ℕ) (bytes : List ℕ) (total : Result (List ℕ × List Bool) LineFault) → count ≤ i
    → digits_added list (fields_at (replicate (count - i) flag) bytes) ≡ total → total ≡ Ok (bytes, list)
is_done list count i bytes total le so_far =
    let k : count - i ≡ 0 = omega arith in
    let a : list ++ [] ≡ list = append-nil list in
    let one : digits_added list (fields_at (replicate (count - i) flag) bytes) ≡ Ok (bytes, list) = rw k (λ i. Ok (bytes, a i)) in
    sym so_far ∙ one

-- what was added
pub added_some : (list : List Bool) (found : Option (List Field × List ℕ)) (y : List ℕ × List Bool) → digits_added list found ≡ Ok y
    → (x : List Field × List ℕ) × (found ≡ Some x) × (◌≡◌ {A = List ℕ × List Bool} (x.1, list ++ map is_one (map value x.0)) y)
added_some list None y e = absurd cc
added_some list (Some x) y e = (x, refl, cc)
