-- Boxes for one thread: their start, and one turn of one of them.
use Rattle.std.proofs.Common.{◌≡◌, refl, sym, ◌∙◌, ap, subst, ℕ, ℤ, ◌+◌, ◌*◌, ◌<◌, cond, List, [], length, get_or, map, replicate, Result, Ok, Err, is_ok, arith, ⊎_elim, zero, suc, ◌∷◌}
use Rattle.std.proofs.Math.ListN.{set}
use Rattle.std.proofs.Math.Seq.{map-set_same}
use Rattle.std.proofs.lemmas.Bool.{cases_eq}
use Rattle.std.proofs.lemmas.List.{length-set, get_or-map, map-set, set-get_or, get_or-set_same, get_or-set_other, get_or-replicate, length-replicate}
use Rattle.cpl_core.specs.declared.boxes.NotYet.{NotYet}
use Rattle.cpl_core.specs.declared.wiring.Wires.{Wires}
use Rattle.cpl_core.specs.Wires.{IsWired, len_of}
use Rattle.cpl_core.specs.Tries.{AnswersWord, SeesWord}
use Rattle.cpl_core.specs.Content.{IsContent}
use Rattle.cpl_core.specs.Plain.{Plain, IsPlain}

-- one more turn of a box, which leaves this list there
pub after_turn : (wires : Wires) (turns : List ℕ) (lists : List (List ℤ)) (edge turn : ℕ) (list : List ℤ) → IsPlain wires turns lists → edge < length wires.channels → IsContent wires edge (2 * turn + 2) list → IsPlain wires (set turns edge (turn + 1)) (set lists edge list)
after_turn wires turns lists edge turn list plain below content = record {
  wired = plain.wired;
  turns_len = length-set turns edge (turn + 1) ∙ plain.turns_len;
  lists_len = length-set lists edge list ∙ plain.lists_len;
  contents = λ other is. ⊎_elim
      (λ same.
      let turns_at : get_or (set turns edge (turn + 1)) other 0 ≡ turn + 1 = subst (λ (k : ℕ). get_or (set turns edge (turn + 1)) k 0 ≡ turn + 1) (sym same) (get_or-set_same turns edge (turn + 1) 0 (omega (arith, plain.turns_len))) in
      let list_at : get_or (set lists edge list) other [] ≡ list = subst (λ (k : ℕ). get_or (set lists edge list) k [] ≡ list) (sym same) (get_or-set_same lists edge list [] (omega (arith, plain.lists_len))) in
      let word : 2 * get_or (set turns edge (turn + 1)) other 0 ≡ 2 * turn + 2 = omega arith in
      rw (word, list_at, same) content)
      (λ differ. rw (get_or-set_other turns edge other (turn + 1) 0 differ, get_or-set_other lists edge other list [] differ) (plain.contents other is))
      (cases_eq other edge);
}

-- boxes with lists of their edges' lengths, before any turn
pub before_turns : (wires : Wires) (lists : List (List ℤ)) → IsWired wires → length lists ≡ length wires.channels → ((edge : ℕ) → edge < length wires.channels → length (get_or lists edge []) ≡ len_of wires edge) → IsPlain wires (replicate (length wires.channels) 0) lists
before_turns wires lists wired same lens = record {
  wired = wired;
  turns_len = length-replicate (length wires.channels) 0;
  lists_len = same;
  contents = λ edge is.
      let word = get_or-replicate {A = ℕ} (length wires.channels) edge 0 0 is in
      rw word (record { most = omega arith; len = λ even. lens edge is; value = λ full. absurd (omega arith) });
}

-- an edge has its turns
pub has_turns : (inside plain : Plain) (edge : ℕ) → inside ≡ plain → length inside.turns ≡ length inside.wires.channels → edge < length plain.wires.channels → edge < length plain.turns
has_turns inside plain edge same sizes below =
    let turns = ap (λ (p : Plain). length p.turns) same in
    let edges = ap (λ (p : Plain). length p.wires.channels) same in
    omega arith

abbrev double : ℕ → ℕ
double n = 2 * n

-- the turns after a try
abbrev pub turned : {T : Type 0} → Result T NotYet → List ℕ → ℕ → ℕ → List ℕ
turned result turns edge turn = cond (is_ok result) (set turns edge (turn + 1)) turns

-- what a turn changes is changed by a try that is Ok
pub counts_on : {T : Type 0} (result : Result T NotYet) (count : ℕ → ℕ) (turns : List ℕ) (edge turn next : ℕ) → count (2 * (turn + 1)) ≡ next → map count (map double (turned result turns edge turn)) ≡ cond (is_ok result) (set (map count (map double turns)) edge next) (map count (map double turns))
counts_on (Ok done) count turns edge turn next is = ap (λ (l : List ℕ). map count l) (map-set double turns edge (turn + 1)) ∙ (map-set count (map double turns) edge (2 * (turn + 1)) ∙ ap (λ (n : ℕ). set (map count (map double turns)) edge n) is)
counts_on (Err refusal) count turns edge turn next is = refl

-- what a turn leaves is left by every try
pub counts_stay : {T : Type 0} (result : Result T NotYet) (count : ℕ → ℕ) (turns : List ℕ) (edge turn : ℕ) → edge < length turns → count (2 * (turn + 1)) ≡ count (2 * turn) → AnswersWord edge (2 * turn) (2 * get_or turns edge 0) result → map count (map double (turned result turns edge turn)) ≡ map count (map double turns)
counts_stay (Ok done) count turns edge turn below same found =
    let at : get_or turns edge 0 ≡ turn = omega arith in
    let now : get_or (map double turns) edge 0 ≡ 2 * turn = get_or-map double turns edge 0 0 below ∙ ap double at in
    ap (λ (l : List ℕ). map count l) (map-set double turns edge (turn + 1)) ∙ map-set_same count (map double turns) edge (2 * (turn + 1)) 0 (same ∙ ap count (sym now))
counts_stay (Err refusal) count turns edge turn below same found = refl

-- what the holder has seen after a try
pub sees : {T : Type 0} (result : Result T NotYet) (turns : List ℕ) (edge turn least : ℕ) → edge < length turns → least ≡ 2 * turn + 2 → AnswersWord edge (2 * turn) (2 * get_or turns edge 0) result → SeesWord edge least (map double turns) (map double (turned result turns edge turn)) result
sees (Ok done) turns edge turn least below is found =
    let now = get_or-map double turns edge 0 0 below in (2 * (turn + 1), map-set double turns edge (turn + 1), omega arith, omega arith)
sees (Err refusal) turns edge turn least below is found =
    let now = get_or-map double turns edge 0 0 below in
    let word = found.1 in (
      get_or (map double turns) edge 0,
      sym (set-get_or (map double turns) edge 0),
      omega arith,
      now ∙ sym word,
    )

map_replicate : (f : ℕ → ℕ) (n a : ℕ) → map f (replicate n a) ≡ replicate n (f a)
map_replicate f zero a = refl
map_replicate f (suc n) a = ap (λ (l : List ℕ). f a ∷ l) (map_replicate f n a)

-- before any turn a count is 0
pub none_yet : (count : ℕ → ℕ) (turns : List ℕ) (n : ℕ) → turns ≡ replicate n 0 → count 0 ≡ 0 → map count (map double turns) ≡ replicate n 0
none_yet count turns n are none =
    ap (λ (l : List ℕ). map count (map double l)) are ∙ (ap (map count) (map_replicate double n 0) ∙ (map_replicate count n 0 ∙ ap (replicate n) none))
