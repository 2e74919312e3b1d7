-- A step that raises the word of one edge keeps the rule.
use Rattle.std.proofs.Common.{◌≡◌, ◌≢◌, ℕ, ◌*◌, ◌%◌, ◌<◌, ◌≤◌, List, length, set, ℤ, Some, sym, ap, ◌∙◌, subst, ⊎_elim, arith, length-set}
use Rattle.std.specs.Global.{Vec}
use mathlib.Core.Option.{Option, some}
use lib.ListN.{get_elem?}
use Rattle.atomic_table.specs.Table.{State}
use Rattle.atomic_table.proofs.Lists.{at_set}
use Rattle.std.proofs.lemmas.Bool.{cases_eq}
use Rattle.cpl_core.specs.declared.wiring.Wires.{Wires}
use Rattle.cpl_box.specs.declared.view.View.{View}
use Rattle.cpl_core.specs.Wires.{uses_of}
use Rattle.cpl_core.specs.Content.{IsContent}
use Rattle.cpl_box.specs.Rule.{word_of, IsBox, Knows, Kept}
use Rattle.cpl_box.proofs.Words.{word_here, word_else, rising}

abbrev pub St : Type 0
St = State (Vec ℤ) View

abbrev pub Homes : Type 0
Homes = List (Option (Vec ℤ))

module _ (w : Wires) (s : St) (k : Kept w s) (e : ℕ) (inside : e < length s.homes) (n : ℕ) (rises : word_of s.words e ≤ n) where
  pub room : 8 * e < length s.words
  room = omega (arith, k.wide)

  abbrev pub after : List ℕ
  after = set s.words (8 * e) n

  -- a view of another seat
  stays : (u : View) → Knows w s.words u → ((m : ℕ) → u.held ≡ Some (e, m) → word_of s.words e ≡ n) → Knows w after u
  stays u sit free = record {
    wiring = sit.wiring;
    gone = sit.gone;
    posts = λ j. let h = rising s.words e n room rises j in let p = sit.posts j in omega arith;
    takes = λ j. let h = rising s.words e n room rises j in let p = sit.takes j in omega arith;
    seen = λ j. let h = rising s.words e n room rises j in let p = sit.seen j in omega arith;
    last = sit.last;
    holds = λ j m is. let h = sit.holds j m is in (
      ⊎_elim (λ (same : j ≡ e). ap (word_of after) same ∙ word_here s.words e n room ∙ sym (free m (is ∙ ap (λ (i : ℕ). Some (i, m)) same)) ∙ ap (word_of s.words) (sym same) ∙ h.0)
          (λ (ne : j ≢ e). word_else s.words e n room j ne ∙ h.0) (cases_eq j e),
      h.1,
    );
  }

  module _ (id : ℕ) (v x : View) (here : get_elem? s.views id ≡ some v) (homes : Homes) (long : length homes ≡ length s.homes) (others : (j : ℕ) → j ≢ e → get_elem? homes j ≡ get_elem? s.homes j)
      (low : n ≤ 4 * uses_of w e) (home : n % 2 ≡ 0 → (y : Vec ℤ) × (get_elem? homes e ≡ some (some y)) × IsContent w e n y.items)
      (sits : Knows w after x)
      (free : (j : ℕ) (u : View) → j ≢ id → get_elem? s.views j ≡ some u → (m : ℕ) → u.held ≡ Some (e, m) → word_of s.words e ≡ n)
      (own : (d m : ℕ) → x.held ≡ Some (d, m) → (j : ℕ) (u : View) → j ≢ id → get_elem? s.views j ≡ some u → (l : ℕ) → u.held ≡ Some (d, l) → ⊥) where
    box : (d : ℕ) → d < length homes → IsBox w after homes d
    box d lt = ⊎_elim
        (λ (is : d ≡ e). subst (IsBox w after homes) (sym is) (let h = word_here s.words e n room in record {
          most = subst (λ (m : ℕ). m ≤ 4 * uses_of w e) (sym h) low;
          home = λ even. subst (λ (m : ℕ). (y : Vec ℤ) × (get_elem? homes e ≡ some (some y)) × IsContent w e m y.items) (sym h) (home (ap (λ (m : ℕ). m % 2) (sym h) ∙ even));
        }))
        (λ (ne : d ≢ e). let h = word_else s.words e n room d ne in let old = k.boxes d (omega arith) in record {
          most = subst (λ (m : ℕ). m ≤ 4 * uses_of w d) (sym h) old.most;
          home = λ even. let lies = old.home (ap (λ (m : ℕ). m % 2) (sym h) ∙ even) in
              (lies.0, others d ne ∙ lies.1, subst (λ (m : ℕ). IsContent w d m lies.0.items) (sym h) lies.2);
        })
        (cases_eq d e)

    pub moves : Kept w record { words = after; homes = homes; views = set s.views id x }
    moves = record {
      wide = length-set s.words (8 * e) n ∙ k.wide ∙ ap (λ (m : ℕ). 8 * m) (sym long);
      boxes = box;
      seats = λ j u is. ⊎_elim (λ (t : (j ≡ id) × (x ≡ u)). subst (Knows w after) t.1 sits) (λ (t : (j ≢ id) × (get_elem? s.views j ≡ some u)). stays u (k.seats j u t.1) (free j u t.0 t.1)) (at_set s.views id j x u is);
      alone = λ i j u t iu jt d m l um tl. ⊎_elim
          (λ (a : (i ≡ id) × (x ≡ u)). ⊎_elim
          (λ (b : (j ≡ id) × (x ≡ t)). a.0 ∙ sym b.0)
          (λ (b : (j ≢ id) × (get_elem? s.views j ≡ some t)). absurd (own d m (ap (λ (z : View). z.held) a.1 ∙ um) j t b.0 b.1 l tl))
          (at_set s.views id j x t jt))
          (λ (a : (i ≢ id) × (get_elem? s.views i ≡ some u)). ⊎_elim
          (λ (b : (j ≡ id) × (x ≡ t)). absurd (own d l (ap (λ (z : View). z.held) b.1 ∙ tl) i u a.0 a.1 m um))
          (λ (b : (j ≢ id) × (get_elem? s.views j ≡ some t)). k.alone i j u t a.1 b.1 d m l um tl)
          (at_set s.views id j x t jt))
          (at_set s.views id i x u iu);
    }
