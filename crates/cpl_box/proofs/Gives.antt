-- A seat that gives a box back keeps the rule.
use Rattle.std.proofs.Common.{◌≡◌, ℕ, ◌+◌, ◌*◌, ◌/◌, ◌%◌, ◌<◌, ◌≤◌, List, ◌∷◌, length, set, ℤ, IsTrue, None, Some, refl, sym, ap, ◌∙◌, subst, arith, length-set}
use Rattle.std.specs.Prelude.{slice_index}
use Rattle.std.specs.Global.{Vec}
use mathlib.Core.Option.{none, some}
use lib.ListN.{get_elem?}
use Rattle.atomic_table.specs.Table.{Me, Step, gives, step, Allows}
use Rattle.atomic_table.proofs.Lists.{set_here, set_else}
use Rattle.cpl_core.specs.declared.wiring.Wires.{Wires}
use Rattle.cpl_box.specs.declared.view.View.{View}
use Rattle.cpl_core.specs.Wires.{len_of, uses_of, value_of}
use Rattle.cpl_core.specs.Content.{IsContent}
use Rattle.cpl_box.specs.Views.{claimed, published, released}
use Rattle.cpl_box.specs.Rule.{word_of, Knows, Kept}
use Rattle.cpl_box.specs.Steps.{publishes, releases}
use Rattle.cpl_box.proofs.Words.{word_here, rising, set_below, set_raises}
use Rattle.cpl_box.proofs.Moves.{St, room, moves}
use Rattle.cpl_box.proofs.Tries.{edge_of, alive}

module _ (w : Wires) (s : St) (k : Kept w s) (e : ℕ) (inside : e < length s.homes) (id n : ℕ) (v : View) (live : IsTrue v.live) (here : get_elem? s.views id ≡ some v) (held : v.held ≡ Some (e, n)) where
  stands : (word_of s.words e ≡ n) × (n % 2 ≡ 1)
  stands = (k.seats id v here).holds e n held

  rises : word_of s.words e ≤ n + 1
  rises = let h = stands.0 in omega arith

  abbrev after : List ℕ
  after = set s.words (8 * e) (n + 1)

  up : (j : ℕ) → word_of s.words j ≤ word_of after j
  up = rising s.words e (n + 1) (room w s k e inside (n + 1) rises) rises

  here_after : word_of after e ≡ n + 1
  here_after = word_here s.words e (n + 1) (room w s k e inside (n + 1) rises)

  last_stays : v.last_word ≤ slice_index (set v.seen e (n + 1)) v.last_edge
  last_stays = let sit = k.seats id v here in let a = sit.last in let b = sit.seen e in let c = stands.0 in let d = set_raises v.seen e (n + 1) (omega arith) v.last_edge in omega arith

  seen_stays : (j : ℕ) → slice_index (set v.seen e (n + 1)) j ≤ word_of after j
  seen_stays = let sit = k.seats id v here in set_below v.seen e (n + 1) (word_of after) (λ j. let p = sit.seen j in let h = up j in omega arith) (let h = here_after in omega arith)

  post_sits : 4 * (slice_index v.posts e + 1) ≤ n + 3 → Knows w after (published v e (n + 1))
  post_sits fits = let sit = k.seats id v here in record {
    wiring = sit.wiring;
    gone = λ dead. absurd (alive v live dead);
    posts = λ j. let b = set_below v.posts e (slice_index v.posts e + 1) (λ i. (word_of after i + 2) / 4) (λ i. let p = sit.posts i in let h = up i in omega arith) (let h = here_after in omega arith) j in omega arith;
    takes = λ j. let p = sit.takes j in let h = up j in omega arith;
    seen = seen_stays;
    last = last_stays;
    holds = λ j m is. absurd (cc);
  }

  take_sits : 4 * (slice_index v.takes e + 1) ≤ n + 1 → Knows w after (released v e (n + 1))
  take_sits fits = let sit = k.seats id v here in record {
    wiring = sit.wiring;
    gone = λ dead. absurd (alive v live dead);
    posts = λ j. let p = sit.posts j in let h = up j in omega arith;
    takes = λ j. let b = set_below v.takes e (slice_index v.takes e + 1) (λ i. word_of after i / 4) (λ i. let p = sit.takes i in let h = up i in omega arith) (let h = here_after in omega arith) j in omega arith;
    seen = seen_stays;
    last = last_stays;
    holds = λ j m is. absurd (cc);
  }

  giving : (y : Vec ℤ) → IsContent w e (n + 1) y.items → (x : View) → x.held ≡ None → Knows w after x
      → Kept w record { words = after; homes = set s.homes e (some y); views = set s.views id x }
  giving y fits x none_held sits = let box = k.boxes e inside in
      moves w s k e inside (n + 1) rises id v x here (set s.homes e (some y)) (length-set s.homes e (some y)) (λ j ne. set_else s.homes e j (some y) ne)
      (let b = box.most in let h = stands.0 in let o = stands.1 in omega arith)
      (λ even. (y, set_here s.homes e (some y) inside, fits))
      sits
      (λ j u ne at_j m is. absurd (ne (sym (k.alone id j v u here at_j e n m held is))))
      (λ d m is j u ne at_j l is'. absurd (cc))

module _ (w : Wires) (slots id e n new : ℕ) (next : new ≡ n + 1) (v : View) (c : List (ℕ × Vec ℤ)) (y : Vec ℤ) (live : IsTrue v.live) (inside : e < slots) (held : v.held ≡ Some (e, n)) (fits : IsContent v.wires e new y.items) where
  abbrev Given : (Step (Vec ℤ) → Me (Vec ℤ) View → ℕ → Me (Vec ℤ) View → Type 0) → ℕ → Type 0
  Given then m = Allows (Kept w) slots id (v, (e, y) ∷ c) (8 * e) (λ r. m) (then (step slots (8 * e) m 0 none) (v, (e, y) ∷ c))

  fits_next : (s : St) → Kept w s → get_elem? s.views id ≡ some v → IsContent w e (n + 1) y.items
  fits_next s k here = subst (λ (m : ℕ). IsContent w e m y.items) next (subst (λ (u : Wires). IsContent u e new y.items) ((k.seats id v here).wiring live) fits)

  pub publishing : 4 * (slice_index v.posts e + 1) ≤ n + 3 → Given publishes new
  publishing count = subst (Given publishes) (sym next) (λ s k long here small. let inside' : e < length s.homes = omega arith in (
    published v e (n + 1),
    gives,
    tt,
    giving w s k e inside' id n v live here held y (fits_next s k here) (published v e (n + 1)) refl (post_sits w s k e inside' id n v live here held count),
    ap (λ (d : ℕ). (published v d (n + 1), c)) (sym (edge_of e)),
  ))

  pub releasing : 4 * (slice_index v.takes e + 1) ≤ n + 1 → Given releases new
  releasing count = subst (Given releases) (sym next) (λ s k long here small. let inside' : e < length s.homes = omega arith in (
    released v e (n + 1),
    gives,
    tt,
    giving w s k e inside' id n v live here held y (fits_next s k here) (released v e (n + 1)) refl (take_sits w s k e inside' id n v live here held count),
    ap (λ (d : ℕ). (released v d (n + 1), c)) (sym (edge_of e)),
  ))

-- the same by a seat that has claimed the box for the k-th post, or for the k-th take
module _ (w : Wires) (slots id e k : ℕ) (v v₀ : View) (c : List (ℕ × Vec ℤ)) (y : Vec ℤ) (live : IsTrue v₀.live) (inside : e < slots) (some_use : k < uses_of v₀.wires e) (long : length y.items ≡ len_of v₀.wires e) where
  pub publishing_as : v ≡ claimed v₀ e (4 * k) → slice_index v₀.posts e ≡ k → y.items ≡ value_of v₀.wires e k
      → Allows (Kept w) slots id (v, (e, y) ∷ c) (8 * e) (λ r. 4 * k + 2) (publishes (step slots (8 * e) (4 * k + 2) 0 none) (v, (e, y) ∷ c))
  publishing_as is count list = subst (λ (u : View). Allows (Kept w) slots id (u, (e, y) ∷ c) (8 * e) (λ r. 4 * k + 2) (publishes (step slots (8 * e) (4 * k + 2) 0 none) (u, (e, y) ∷ c))) (sym is)
      (publishing w slots id e (4 * k + 1) (4 * k + 2) (omega arith) (claimed v₀ e (4 * k)) c y live inside refl
      (record { most = omega (arith, some_use); len = λ even. long; value = λ _. list ∙ ap (value_of v₀.wires e) (let h : k ≡ (4 * k + 2) / 4 = omega arith in h) }) (omega (arith, count)))

  pub releasing_as : v ≡ claimed v₀ e (4 * k + 2) → slice_index v₀.takes e ≡ k
      → Allows (Kept w) slots id (v, (e, y) ∷ c) (8 * e) (λ r. 4 * k + 4) (releases (step slots (8 * e) (4 * k + 4) 0 none) (v, (e, y) ∷ c))
  releasing_as is count = subst (λ (u : View). Allows (Kept w) slots id (u, (e, y) ∷ c) (8 * e) (λ r. 4 * k + 4) (releases (step slots (8 * e) (4 * k + 4) 0 none) (u, (e, y) ∷ c))) (sym is)
      (releasing w slots id e (4 * k + 2 + 1) (4 * k + 4) (omega arith) (claimed v₀ e (4 * k + 2)) c y live inside refl
      (record { most = omega (arith, some_use); len = λ even. long; value = λ no. absurd (omega arith) }) (omega (arith, count)))
