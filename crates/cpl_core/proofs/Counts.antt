-- How often an action stands in a script, and whose script it stands in.
use Rattle.std.proofs.Common.{◌≡◌, refl, ◌∙◌, ap, subst, ℕ, ◌+◌, ◌<◌, ◌≤◌, Bool, true, false, cond, eqb, List, [], take, length, Some, count_by, arith, ⊎_elim}
use Rattle.std.specs.Prelude.{slice_get}
use Rattle.std.proofs.lemmas.Bool.{cases_lt, cases_eq, eq-eqb, ne_eqb, cond-false}
use Rattle.std.proofs.lemmas.List.{get_or_past}
use Rattle.std.proofs.lemmas.List.Elements.{All-get_or}
use Rattle.std.proofs.lemmas.List.Sums.{count_by_more_yes, count_by_more_no, sum_by-take-le}
use Rattle.std.proofs.lemmas.Option.{slice_get_within, get_or_from_slice_get}
use Rattle.cpl_core.specs.declared.wiring.Act.{Act}
use Rattle.cpl_core.specs.declared.wiring.Act.TheVariants.{Post, Take}
use Rattle.cpl_core.specs.declared.wiring.Wires.{Wires}
use Rattle.cpl_core.specs.Wires.{IsWired, IsKnown, poster_of, taker_of, uses_of, script_of, is_post, is_take}

-- a front holds no more of a kind than the whole list
pub count_front : {X : Type 0} (test : X → Bool) (xs : List X) (m : ℕ) → count_by test (take m xs) ≤ count_by test xs
count_front test xs m = sum_by-take-le (λ x. cond (test x) 1 0) xs m

-- one more of the kind
pub count_yes : {X : Type 0} (test : X → Bool) (xs : List X) (m : ℕ) (x : X) → slice_get xs m ≡ Some x → test x ≡ true → count_by test (take (m + 1) xs) ≡ count_by test (take m xs) + 1
count_yes test xs m x at is_so = count_by_more_yes test xs m x (slice_get_within xs m x at) (ap test (get_or_from_slice_get xs m x x at) ∙ is_so)

-- one more of another kind
pub count_no : {X : Type 0} (test : X → Bool) (xs : List X) (m : ℕ) (x : X) → slice_get xs m ≡ Some x → test x ≡ false → count_by test (take (m + 1) xs) ≡ count_by test (take m xs)
count_no test xs m x at no_such = count_by_more_no test xs m x (slice_get_within xs m x at) (ap test (get_or_from_slice_get xs m x x at) ∙ no_such)

-- before one of a kind there are fewer of it than in all
pub count_before : {X : Type 0} (test : X → Bool) (xs : List X) (m : ℕ) (x : X) → slice_get xs m ≡ Some x → test x ≡ true → count_by test (take m xs) + 1 ≤ count_by test xs
count_before test xs m x at is_so = omega (arith, count_front test xs (m + 1), count_yes test xs m x at is_so)

-- a piece with an action is one of the wiring's
pub has_script : (wires : Wires) (piece m : ℕ) (action : Act) → slice_get (script_of wires piece) m ≡ Some action → piece < length wires.scripts
has_script wires piece m action at = ⊎_elim (λ below. below) (λ past. let none : length (script_of wires piece) ≡ 0 = ap length (get_or_past wires.scripts piece [] past) in absurd (omega (arith, slice_get_within (script_of wires piece) m action at))) (cases_lt piece (length wires.scripts))

-- an action of a script names a known edge
knows : (wires : Wires) (piece m : ℕ) (action : Act) → IsWired wires → slice_get (script_of wires piece) m ≡ Some action → IsKnown wires action
knows wires piece m action wired at =
    let script = script_of wires piece in
    subst (IsKnown wires) (get_or_from_slice_get script m action action at) (All-get_or (IsKnown wires) script m action (slice_get_within script m action at) (wired.known piece))

-- only its poster's script posts an edge
pub posts_there : (wires : Wires) (piece m edge : ℕ) → IsWired wires → slice_get (script_of wires piece) m ≡ Some (Post edge) → (edge < length wires.channels) × (piece ≡ poster_of wires edge)
posts_there wires piece m edge wired at =
    let below : edge < length wires.channels = knows wires piece m (Post edge) wired at in (
      below,
      ⊎_elim (λ same. same) (λ differ.
          let none = (wired.channels edge below).posts piece ∙ cond-false (eqb piece (poster_of wires edge)) (uses_of wires edge) 0 (ne_eqb piece (poster_of wires edge) differ) in
          absurd (omega (arith, none, count_before (is_post edge) (script_of wires piece) m (Post edge) at (eq-eqb edge edge refl)))) (cases_eq piece (poster_of wires edge)),
    )

-- only its taker's script takes an edge
pub takes_there : (wires : Wires) (piece m edge : ℕ) → IsWired wires → slice_get (script_of wires piece) m ≡ Some (Take edge) → (edge < length wires.channels) × (piece ≡ taker_of wires edge)
takes_there wires piece m edge wired at =
    let below : edge < length wires.channels = knows wires piece m (Take edge) wired at in (
      below,
      ⊎_elim (λ same. same) (λ differ.
          let none = (wired.channels edge below).takes piece ∙ cond-false (eqb piece (taker_of wires edge)) (uses_of wires edge) 0 (ne_eqb piece (taker_of wires edge) differ) in
          absurd (omega (arith, none, count_before (is_take edge) (script_of wires piece) m (Take edge) at (eq-eqb edge edge refl)))) (cases_eq piece (taker_of wires edge)),
    )
