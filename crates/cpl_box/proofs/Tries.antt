-- A try to claim a box keeps the rule.
use Rattle.std.proofs.Common.{◌≡◌, ◌≢◌, ℕ, ◌+◌, ◌*◌, ◌/◌, ◌%◌, ◌<◌, ◌≤◌, List, ◌∷◌, length, set, ℤ, IsTrue, true≢false, Some, refl, sym, ap, ◌∙◌, subst, ⊎_elim, arith, length-set, get_or-set_same}
use Rattle.std.specs.Prelude.{IsFalse, ◌==◌}
use Rattle.std.specs.Global.{Vec}
use mathlib.Core.Option.{none, some}
use lib.ListN.{get_elem?}
use prog.Atomic.{either}
use Rattle.atomic_table.specs.Table.{Act, keeps, takes, step, Valid, Allows, stepped, carried_after}
use Rattle.atomic_table.proofs.Lists.{set_else, exchanged}
use Rattle.std.proofs.lemmas.Bool.{cases_eq}
use Rattle.cpl_core.specs.declared.wiring.Wires.{Wires}
use Rattle.cpl_box.specs.declared.view.View.{View}
use Rattle.cpl_core.specs.Wires.{uses_of}
use Rattle.cpl_core.specs.Content.{IsContent}
use Rattle.cpl_box.specs.Views.{missed, claimed}
use Rattle.cpl_box.specs.Rule.{word_of, Knows, Kept}
use Rattle.cpl_box.specs.Steps.{Tries, claims}
use Rattle.cpl_box.proofs.Words.{word_here, word_else, rising, set_below}
use Rattle.cpl_box.proofs.Moves.{St, room, moves}

pub edge_of : (e : ℕ) → 8 * e / 8 ≡ e
edge_of e = omega arith

same_hold : (x y : ℕ × ℕ) → Some x ≡ Some y → x ≡ y
same_hold x y is = cc

pub alive : (v : View) → IsTrue v.live → IsFalse v.live → ⊥
alive v live dead = true≢false (sym live ∙ dead)

module _ (w : Wires) (s : St) (k : Kept w s) (e : ℕ) (inside : e < length s.homes) (id : ℕ) (v : View) (live : IsTrue v.live) (here : get_elem? s.views id ≡ some v) (wide : e < length v.seen) where
  found : ℕ
  found = word_of s.words e

  -- the view after a try that found this word, at the same words
  miss_sits : Knows w (set s.words (8 * e) (word_of s.words e)) (missed v e (word_of s.words e))
  miss_sits = let sit = k.seats id v here in let up = rising s.words e (word_of s.words e) (room w s k e inside (word_of s.words e) (omega arith)) (omega arith) in record {
    wiring = sit.wiring;
    gone = λ dead. absurd (alive v live dead);
    posts = λ j. let p = sit.posts j in let h = up j in omega arith;
    takes = λ j. let p = sit.takes j in let h = up j in omega arith;
    seen = set_below v.seen e (word_of s.words e) (word_of (set s.words (8 * e) (word_of s.words e))) (λ j. let p = sit.seen j in let h = up j in omega arith) (up e);
    last = let h = get_or-set_same v.seen e (word_of s.words e) 0 wide in omega arith;
    holds = λ j m is. let h = sit.holds j m is in (
      ⊎_elim (λ (same : j ≡ e). ap (word_of (set s.words (8 * e) (word_of s.words e))) same ∙ word_here s.words e (word_of s.words e) (room w s k e inside (word_of s.words e) (omega arith)) ∙ ap (word_of s.words) (sym same) ∙ h.0)
          (λ (ne : j ≢ e). word_else s.words e (word_of s.words e) (room w s k e inside (word_of s.words e) (omega arith)) j ne ∙ h.0) (cases_eq j e),
      h.1,
    );
  }

  pub missing : Kept w record { words = set s.words (8 * e) (word_of s.words e); homes = s.homes; views = set s.views id (missed v e (word_of s.words e)) }
  missing = let box = k.boxes e inside in
      moves w s k e inside (word_of s.words e) (omega arith) id v (missed v e (word_of s.words e)) here s.homes refl (λ j ne. refl) box.most box.home miss_sits
      (λ j u ne at_j m is. refl)
      (λ d m is j u ne at_j l is'. ne (sym (k.alone id j v u here at_j d m l is is')))

  claim_sits : (n : ℕ) → word_of s.words e ≡ n → n % 2 ≡ 0 → Knows w (set s.words (8 * e) (n + 1)) (claimed v e n)
  claim_sits n is even = let sit = k.seats id v here in let r = room w s k e inside (n + 1) (omega arith) in let up = rising s.words e (n + 1) r (omega arith) in record {
    wiring = sit.wiring;
    gone = λ dead. absurd (alive v live dead);
    posts = λ j. let p = sit.posts j in let h = up j in omega arith;
    takes = λ j. let p = sit.takes j in let h = up j in omega arith;
    seen = set_below v.seen e (n + 1) (word_of (set s.words (8 * e) (n + 1))) (λ j. let p = sit.seen j in let h = up j in omega arith) (let h = word_here s.words e (n + 1) r in omega arith);
    last = let h = get_or-set_same v.seen e (n + 1) 0 wide in omega arith;
    holds = λ j m held. let p = same_hold (e, n + 1) (j, m) held in let q : n + 1 ≡ m = ap (λ x. x.1) p in (ap (word_of (set s.words (8 * e) (n + 1))) (sym (ap (λ x. x.0) p)) ∙ word_here s.words e (n + 1) r ∙ q, omega arith);
  }

  pub claiming : (n : ℕ) → word_of s.words e ≡ n → n % 2 ≡ 0 → n + 1 ≤ 4 * uses_of w e → Kept w record { words = set s.words (8 * e) (n + 1); homes = set s.homes e none; views = set s.views id (claimed v e n) }
  claiming n is even low = let odd : (j : ℕ) (u : View) → get_elem? s.views j ≡ some u → (m : ℕ) → u.held ≡ Some (e, m) → ⊥ = λ j u at_j m held. let h = (k.seats j u at_j).holds e m held in omega (arith, h.0, h.1) in
      moves w s k e inside (n + 1) (omega arith) id v (claimed v e n) here (set s.homes e none) (length-set s.homes e none) (λ j ne. set_else s.homes e j none ne) low (λ other. absurd (omega arith)) (claim_sits n is even)
      (λ j u ne at_j m held. absurd (odd j u at_j m held))
      (λ d m held j u ne at_j l held'. let p = same_hold (e, n + 1) (d, m) held in odd j u at_j l (held' ∙ ap (λ (i : ℕ). Some (i, l)) (sym (ap (λ x. x.0) p))))

pub tries : (w : Wires) (slots id e n : ℕ) (v : View) (c : List (ℕ × Vec ℤ)) → IsTrue v.live → e < slots → e < length v.seen → n % 2 ≡ 0 → n + 1 ≤ 4 * uses_of v.wires e
    → Allows (Kept w) slots id (v, c) (8 * e) (λ r. either (r == n) (n + 1) r) (claims (step slots (8 * e) n (n + 1) none) (v, c))
tries w slots id e n v c live inside wide even low s k long here small =
    let same : v.wires ≡ w = (k.seats id v here).wiring live in
    let inside' : e < length s.homes = omega arith in
    let r : ℕ = word_of s.words e in
    let Goal : ℕ → Type 0 = λ m. (x : View) × (a : Act (Vec ℤ)) × Valid s.homes c a × Kept w (stepped s (8 * e) m id c x a) × Tries (8 * e / 8) n (v, c) r (x, carried_after c a) in
    exchanged r n (n + 1) Goal
    (λ (is : r ≡ n). let lies = (k.boxes e inside').home (ap (λ (m : ℕ). m % 2) is ∙ even) in (
      claimed v e r,
      takes e lies.0,
      lies.1,
      subst (λ (m : ℕ). Kept w record { words = set s.words (8 * e) (n + 1); homes = set s.homes e none; views = set s.views id (claimed v e m) }) (sym is)
          (claiming w s k e inside' id v live here wide n is even (subst (λ (u : Wires). n + 1 ≤ 4 * uses_of u e) same low)),
      subst (λ (d : ℕ). Tries d n (v, c) r (claimed v e r, (e, lies.0) ∷ c)) (sym (edge_of e))
          ((k.seats id v here).seen e, (λ _. (lies.0, refl, subst (λ (u : Wires). IsContent u e r lies.0.items) (sym same) lies.2)), (λ ne. absurd (ne is))),
    ))
    (λ (ne : r ≢ n). (
      missed v e r,
      keeps,
      tt,
      missing w s k e inside' id v live here wide,
      subst (λ (d : ℕ). Tries d n (v, c) r (missed v e r, c)) (sym (edge_of e)) ((k.seats id v here).seen e, (λ is. absurd (ne is)), (λ _. refl)),
    ))
