-- How the boxes start, and how a pass is cut in two and joined with another.
use Rattle.std.proofs.Common.{◌≡◌, ◌≢◌, ℕ, zero, suc, ◌*◌, ◌<◌, max, List, [], ◌∷◌, ◌++◌, map, length, set, replicate, ℤ, IsTrue, None, Some, refl, sym, ap, ◌∙◌, subst, ⊎_elim, arith}
use Rattle.std.specs.Prelude.{slice_index, slice_index_or}
use Rattle.std.specs.Global.{Vec}
use mathlib.Core.Option.{some, some-ne-none}
use lib.ListN.{get_elem?, length-map}
use Rattle.atomic_table.specs.Table.{Splits, Joins, opening}
use Rattle.atomic_table.proofs.Lists.{at_set, at_snoc, at_map, set_again}
use Rattle.cpl_core.specs.declared.wiring.Channel.{Channel}
use Rattle.cpl_core.specs.declared.wiring.Wires.{Wires}
use Rattle.cpl_box.specs.declared.view.View.{View}
use Rattle.cpl_box.specs.Views.{zeros, greater, newcomer, spent, onlooker, together}
use Rattle.cpl_box.specs.Rule.{word_of, Knows, Kept}
use Rattle.cpl_box.proofs.Moves.{St}
use Rattle.cpl_box.proofs.Tries.{alive}

pub at_zeros : {A : Type 0} (xs : List A) (j : ℕ) → slice_index (zeros xs) j ≡ 0
at_zeros [] j = refl
at_zeros (x ∷ xs) zero = refl
at_zeros (x ∷ xs) (suc j) = at_zeros xs j

pub at_greater : (xs ys : List ℕ) (j : ℕ) → slice_index (greater xs ys) j ≡ max (slice_index xs j) (slice_index ys j)
at_greater [] ys j = omega arith
at_greater (x ∷ xs) [] j = omega arith
at_greater (x ∷ xs) (y ∷ ys) zero = refl
at_greater (x ∷ xs) (y ∷ ys) (suc j) = at_greater xs ys j

pub length-greater : (xs ys : List ℕ) (n : ℕ) → length xs ≡ n → length ys ≡ n → length (greater xs ys) ≡ n
length-greater [] ys n a b = b
length-greater (x ∷ xs) [] n a b = a
length-greater (x ∷ xs) (y ∷ ys) zero a b = absurd (omega arith)
length-greater (x ∷ xs) (y ∷ ys) (suc n) a b = ap suc (length-greater xs ys n (omega arith) (omega arith))

reseated : (w : Wires) (s : St) → Kept w s → (views : List View) → ((j : ℕ) (v : View) → get_elem? views j ≡ some v → Knows w s.words v)
    → ((j : ℕ) (v : View) → get_elem? views j ≡ some v → (e n : ℕ) → v.held ≡ Some (e, n) → (u : View) × (get_elem? s.views j ≡ some u) × (u.held ≡ Some (e, n)))
    → Kept w record { words = s.words; homes = s.homes; views = views }
reseated w s k views sits held = record {
  wide = k.wide;
  boxes = k.boxes;
  seats = sits;
  alone = λ i j u v iu jv e m n um vn. let a = held i u iu e m um in let b = held j v jv e n vn in k.alone i j a.0 b.0 a.1 b.1 e m n a.2 b.2;
}

onlooks : (w : Wires) (words : List ℕ) (v : View) → Knows w words v → Knows w words (onlooker v)
onlooks w words v sit = record {
  wiring = sit.wiring;
  gone = λ dead. ap onlooker (sit.gone dead);
  posts = λ j. let z = at_zeros v.posts j in omega arith;
  takes = λ j. let z = at_zeros v.takes j in omega arith;
  seen = sit.seen;
  last = omega arith;
  holds = λ e n is. absurd (cc);
}

pub splits : (w : Wires) (id : ℕ) (v : View) → Splits (Kept w) id v v (onlooker v)
splits w id v s k here = reseated w s k (set s.views id v ++ onlooker v ∷ [])
    (λ j u is. ⊎_elim (λ was. k.seats j u (subst (λ l. get_elem? l j ≡ some u) (set_again s.views id v here) was)) (λ (new : onlooker v ≡ u). subst (Knows w s.words) new (onlooks w s.words v (k.seats id v here))) (at_snoc (set s.views id v) (onlooker v) u j is))
    (λ j u is e n held. ⊎_elim (λ was. (u, subst (λ l. get_elem? l j ≡ some u) (set_again s.views id v here) was, held)) (λ (new : onlooker v ≡ u). absurd (let h : None ≡ u.held = ap (λ (z : View). z.held) new in cc)) (at_snoc (set s.views id v) (onlooker v) u j is))

knows_both : (w : Wires) (words : List ℕ) (v u : View) → IsTrue v.live → Knows w words v → Knows w words u → Knows w words (together v u)
knows_both w words v u live a b = record {
  wiring = a.wiring;
  gone = λ dead. absurd (alive v live dead);
  posts = λ j. let g = at_greater v.posts u.posts j in let p = a.posts j in let q = b.posts j in omega arith;
  takes = λ j. let g = at_greater v.takes u.takes j in let p = a.takes j in let q = b.takes j in omega arith;
  seen = λ j. let g = at_greater v.seen u.seen j in let p = a.seen j in let q = b.seen j in omega arith;
  last = let g = at_greater v.seen u.seen v.last_edge in let p = a.last in omega arith;
  holds = a.holds;
}

spent_sits : (w : Wires) (words : List ℕ) → Knows w words spent
spent_sits w words = record {
  wiring = λ live. absurd (cc);
  gone = λ dead. refl;
  posts = λ j. omega arith;
  takes = λ j. omega arith;
  seen = λ j. omega arith;
  last = omega arith;
  holds = λ e n is. absurd (cc);
}

pub joins : (w : Wires) (id other : ℕ) (v u : View) → IsTrue v.live → Joins (Kept w) id v other u (together v u) spent
joins w id other v u live s k here apart there =
    let both : View = together v u in
    let old : get_elem? s.views other ≡ some u = ⊎_elim (λ (t : (other ≡ id) × (both ≡ u)). absurd (apart t.0)) (λ (t : (other ≢ id) × (get_elem? s.views other ≡ some u)). t.1) (at_set s.views id other both u there) in
    let sits : Knows w s.words both = knows_both w s.words v u live (k.seats id v here) (k.seats other u old) in
    reseated w s k (set (set s.views id both) other spent)
    (λ j x is. ⊎_elim (λ (t : (j ≡ other) × (spent ≡ x)). subst (Knows w s.words) t.1 (spent_sits w s.words))
    (λ (t : (j ≢ other) × (get_elem? (set s.views id both) j ≡ some x)). ⊎_elim (λ (r : (j ≡ id) × (both ≡ x)). subst (Knows w s.words) r.1 sits) (λ (r : (j ≢ id) × (get_elem? s.views j ≡ some x)). k.seats j x r.1) (at_set s.views id j both x t.1))
    (at_set (set s.views id both) other j spent x is))
    (λ j x is e n held. ⊎_elim (λ (t : (j ≡ other) × (spent ≡ x)). absurd (let h : None ≡ x.held = ap (λ (z : View). z.held) t.1 in cc))
    (λ (t : (j ≢ other) × (get_elem? (set s.views id both) j ≡ some x)). ⊎_elim
    (λ (r : (j ≡ id) × (both ≡ x)). (v, subst (λ (i : ℕ). get_elem? s.views i ≡ some v) (sym r.0) here, ap (λ (z : View). z.held) r.1 ∙ held))
    (λ (r : (j ≢ id) × (get_elem? s.views j ≡ some x)). (x, r.1, held))
    (at_set s.views id j both x t.1))
    (at_set (set s.views id both) other j spent x is))

-- each list, by the lengths of all
lies_at : (xs : List (Vec ℤ)) (cs : List Channel) → map (λ (y : Vec ℤ). length y.items) xs ≡ map (λ (c : Channel). c.len) cs → (e : ℕ) → e < length xs
    → (y : Vec ℤ) × (get_elem? xs e ≡ some y) × (length y.items ≡ (slice_index_or cs e (record { from = 0; to = 0; len = 0; values = [] })).len)
lies_at [] cs is e lt = absurd (omega arith)
lies_at (x ∷ xs) [] is e lt = absurd (cc)
lies_at (x ∷ xs) (c ∷ cs) is zero lt = (x, refl, cc)
lies_at (x ∷ xs) (c ∷ cs) is (suc e) lt = lies_at xs cs (cc) e (omega arith)

pub starts : (w : Wires) (ws : List ℕ) (xs : List (Vec ℤ)) → length ws ≡ 8 * length w.channels → ((i : ℕ) → slice_index ws i ≡ 0) → map (λ (y : Vec ℤ). length y.items) xs ≡ map (λ (c : Channel). c.len) w.channels → Kept w (opening ws xs (newcomer w))
starts w ws xs wide blank is =
    let many : length (map some xs) ≡ length xs = length-map xs some in
    let long : length xs ≡ length w.channels = sym (length-map xs (λ (y : Vec ℤ). length y.items)) ∙ ap length is ∙ length-map w.channels (λ (c : Channel). c.len) in record {
      wide = omega arith;
      boxes = λ e lt. let z : word_of ws e ≡ 0 = blank (8 * e) in let y = lies_at xs w.channels is e (omega arith) in record {
        most = omega arith;
        home = λ even. (y.0, at_map some xs e y.0 y.1, record { most = omega arith; len = λ _. y.2; value = λ no. absurd (omega arith) });
      };
      seats = λ j v at_j. ⊎_elim (λ (no : get_elem? [] j ≡ some v). absurd (some-ne-none v (sym no))) (λ (new : newcomer w ≡ v). subst (Knows w ws) new (record {
        wiring = λ live. refl;
        gone = λ dead. absurd (cc);
        posts = λ e. let z = at_zeros w.channels e in omega arith;
        takes = λ e. let z = at_zeros w.channels e in omega arith;
        seen = λ e. let z = at_zeros w.channels e in omega arith;
        last = omega arith;
        holds = λ e n held. absurd (cc);
      })) (at_snoc [] (newcomer w) v j at_j);
      alone = λ i j u v iu jv e m n um vn. ⊎_elim (λ (no : get_elem? [] i ≡ some u). absurd (some-ne-none u (sym no))) (λ (new : newcomer w ≡ u). absurd (let h : None ≡ u.held = ap (λ (z : View). z.held) new in cc)) (at_snoc [] (newcomer w) u i iu);
    }

pub len_there : (cs : List Channel) (e : ℕ) → (slice_index_or cs e (record { from = 0; to = 0; len = 0; values = [] })).len ≡ slice_index (map (λ (c : Channel). c.len) cs) e
len_there [] e = refl
len_there (c ∷ cs) zero = refl
len_there (c ∷ cs) (suc e) = len_there cs e

pub blank : (n i : ℕ) → slice_index (replicate n 0) i ≡ 0
blank zero i = refl
blank (suc n) zero = refl
blank (suc n) (suc i) = blank n i

pub length-zeros : {A : Type 0} (xs : List A) → length (zeros xs) ≡ length xs
length-zeros [] = refl
length-zeros (x ∷ xs) = ap suc (length-zeros xs)
