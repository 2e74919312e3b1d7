-- What is read of a mark, a section and an end is spelled so, and what is spelled so is read.
use Rattle.std.proofs.Common.{◌≡◌, ◌≢◌, inl, inr, ℕ, ◌+◌, ◌*◌, ◌^◌, ◌<◌, ◌≤◌, Bool, true, false, cond, eqb, ltb, List, [], ◌∷◌, ◌++◌, length, take, drop, Option, Some, None, Result, Ok, Err, ℤ, pos, negsuc, refl, sym, ap, subst, ◌∙◌, append_assoc, eq-eqb, arith}
use Rattle.std.specs.Int.{w64}
use Rattle.std.specs.Int.RustNames.{FitsSigned}
use Rattle.std.specs.List.{AllByRecursion, position, position_from}
use Rattle.std.specs.Str.{bytes_eq}
use Rattle.std.proofs.lemmas.Bool.{cases_lt, ltb-false, le-ltb, lt-ltb, eqb-true, ne_eqb}
use Rattle.std.proofs.lemmas.Iterator.Adapters.{position_from-zero}
use Rattle.std.proofs.lemmas.List.{take_at, drop_at, take-append-drop, length-append, length-drop, length-take-le}
use Rattle.std.proofs.lemmas.Slice.Eq.{bytes_eq-Decides}
use Rattle.byteorder.specs.Endian.{big_number}
use Rattle.byteorder.specs.Numbers.{big_from-take}
use Rattle.cpl_restart.specs.Numbers.{number_bytes, numbers_bytes, numbers_in, section_bytes, is_negative}
use Rattle.cpl_fixed.specs.Results.{◌>>=◌}
use Rattle.cpl_restart.specs.Sections.{after_mark, section_numbers, section_at, nothing_after, no_negative_at, no_negative}
use Rattle.cpl_restart.specs.declared.start_error.StartError.{StartError}
use Rattle.cpl_restart.specs.declared.start_error.StartError.TheVariants.{Short, Magic, Shape, Trailing}
use Rattle.cpl_restart.proofs.Words.{IsBytes, IsBytes-drop, length-number_bytes, length-numbers_bytes, length-numbers_in, count_again, count_back, numbers_again, numbers_back, numbers_fit}

-- ---- steps that did not fail

pub bind_ok : {A B : Type 0} (r : Result A StartError) (f : A → Result B StartError) (y : B) → (r >>= f) ≡ Ok y → (x : A) × (r ≡ Ok x) × (f x ≡ Ok y)
bind_ok (Ok x) f y e = (x, refl, e)
bind_ok (Err d) f y e = absurd cc

pub bind_err : {A B : Type 0} (r : Result A StartError) (d : StartError) (f : A → Result B StartError) → r ≡ Err d → (r >>= f) ≡ Err d
bind_err r d f e = ap (λ (q : Result _ StartError). q >>= f) e

pub not_true : (b : Bool) → (b ≡ true → ⊥) → b ≡ false
not_true true h = absurd (h refl)
not_true false h = refl

pub bind_at : {A B : Type 0} (r : Result A StartError) (x : A) (f : A → Result B StartError) → r ≡ Ok x → (r >>= f) ≡ f x
bind_at r x f e = ap (λ (q : Result _ StartError). q >>= f) e

pub refused_ok : {A : Type 0} (b : Bool) (d : StartError) (r : Result A StartError) (y : A) → cond b (Err d) r ≡ Ok y → (b ≡ false) × (r ≡ Ok y)
refused_ok true d r y e = absurd cc
refused_ok false d r y e = (refl, e)

pub asked_ok : {A : Type 0} (b : Bool) (r : Result A StartError) (d : StartError) (y : A) → cond b r (Err d) ≡ Ok y → (b ≡ true) × (r ≡ Ok y)
asked_ok true r d y e = (refl, e)
asked_ok false r d y e = absurd cc

abbrev done : {A : Type 0} → A → Result A StartError
done x = Ok x

pub ok_is : {A : Type 0} (x y : A) → done x ≡ done y → x ≡ y
ok_is x y e = cc

-- what a reader took from the front
pub record Takes (bytes text rest : List ℕ) : Type 0 where
  pub parts : bytes ≡ text ++ rest
  pub rest_fits : IsBytes rest

pub Takes-then : (a x b y c : List ℕ) → Takes a x b → Takes b y c → Takes a (x ++ y) c
Takes-then a x b y c p q = record { parts = p.parts ∙ ap (λ (t : List ℕ). x ++ t) q.parts ∙ sym (append_assoc x y c); rest_fits = q.rest_fits }

-- ---- a mark

pub mark_takes : (mark bytes rest : List ℕ) → IsBytes bytes → after_mark mark bytes ≡ Ok rest → Takes bytes mark rest
mark_takes mark bytes rest fits e =
    let a = refused_ok (ltb (length bytes) 8) Short (cond (bytes_eq (take 8 bytes) mark) (Ok (drop 8 bytes)) (Err Magic)) rest e in
    let b = asked_ok (bytes_eq (take 8 bytes) mark) (Ok (drop 8 bytes)) Magic rest a.1 in
    let is : take 8 bytes ≡ mark = (bytes_eq-Decides (take 8 bytes) mark).0 b.0 in
    let whole : Takes bytes mark (drop 8 bytes) = record { parts = sym (take-append-drop 8 bytes) ∙ ap (λ (m : List ℕ). m ++ drop 8 bytes) is; rest_fits = IsBytes-drop 8 bytes fits } in
    subst (Takes bytes mark) (ok_is (drop 8 bytes) rest b.1) whole

pub mark_again : (mark rest : List ℕ) → length mark ≡ 8 → after_mark mark (mark ++ rest) ≡ Ok rest
mark_again mark rest len =
    let long : ltb (length (mark ++ rest)) 8 ≡ false = le-ltb _ _ (omega (arith, length-append mark rest)) in
    let same : bytes_eq mark mark ≡ true = (bytes_eq-Decides mark mark).1 refl in
    rw (long, take_at mark rest 8 len, drop_at mark rest 8 len, same) refl

pub mark_short : (mark bytes : List ℕ) → length bytes < 8 → after_mark mark bytes ≡ Err Short
mark_short mark bytes lt =
    let short : ltb (length bytes) 8 ≡ true = lt-ltb _ _ lt in
    rw short refl

pub mark_other : (mark bytes : List ℕ) → 8 ≤ length bytes → take 8 bytes ≢ mark → after_mark mark bytes ≡ Err Magic
mark_other mark bytes le ne =
    let long : ltb (length bytes) 8 ≡ false = le-ltb _ _ le in
    let differs : bytes_eq (take 8 bytes) mark ≡ false = not_true (bytes_eq (take 8 bytes) mark) (λ e. ne ((bytes_eq-Decides (take 8 bytes) mark).0 e)) in
    rw (long, differs) refl

-- ---- a section

pub record IsSection (n : ℕ) (xs : List ℤ) : Type 0 where
  pub count : length xs ≡ n
  pub each : AllByRecursion (FitsSigned w64) xs

pub section_takes : (section n : ℕ) (bytes : List ℕ) (x : List ℤ × List ℕ) → IsBytes bytes → section_at section n bytes ≡ Ok x → Takes bytes (section_bytes x.0) x.1 × IsSection n x.0
section_takes section n bytes x fits e =
    let front = drop 8 bytes in
    let xs = numbers_in n front in
    let a = refused_ok (ltb (length bytes) 8) Short (cond (eqb (big_number 8 bytes) n) (section_numbers n front) (Err (Shape section))) x e in
    let b = asked_ok (eqb (big_number 8 bytes) n) (section_numbers n front) (Shape section) x a.1 in
    let c = refused_ok (ltb (length front) (8 * n)) Short (Ok (xs, drop (8 * n) front)) x b.1 in
    let long : 8 ≤ length bytes = ltb-false _ _ a.0 in
    let more : 8 * n ≤ length front = ltb-false _ _ c.0 in
    let count : number_bytes (pos n) ≡ take 8 bytes = count_again n bytes long fits (eqb-true _ _ b.0) in
    let first : Takes bytes (number_bytes (pos n)) front = record { parts = sym (take-append-drop 8 bytes) ∙ ap (λ (w : List ℕ). w ++ front) (sym count); rest_fits = IsBytes-drop 8 bytes fits } in
    let second : Takes front (numbers_bytes xs) (drop (8 * n) front) = record { parts = numbers_again n front more first.rest_fits; rest_fits = IsBytes-drop (8 * n) front first.rest_fits } in
    let both = Takes-then bytes (number_bytes (pos n)) front (numbers_bytes xs) (drop (8 * n) front) first second in
    let whole : Takes bytes (section_bytes xs) (drop (8 * n) front) = subst (λ (k : ℕ). Takes bytes (number_bytes (pos k) ++ numbers_bytes xs) (drop (8 * n) front)) (sym (length-numbers_in n front)) both in
    subst (λ (y : List ℤ × List ℕ). Takes bytes (section_bytes y.0) y.1 × IsSection n y.0) (ok_is (xs, drop (8 * n) front) x c.1) (whole, record { count = length-numbers_in n front; each = numbers_fit n front first.rest_fits })

pub section_again : (section n : ℕ) (xs : List ℤ) (rest : List ℕ) → n < 2 ^ 64 → IsSection n xs → section_at section n (section_bytes xs ++ rest) ≡ Ok (xs, rest)
section_again section n xs rest small is =
    let count = number_bytes (pos (length xs)) in
    let behind = numbers_bytes xs ++ rest in
    let grouped : section_bytes xs ++ rest ≡ count ++ behind = append_assoc count (numbers_bytes xs) rest in
    let len : length count ≡ 8 = length-number_bytes (pos (length xs)) in
    let long : ltb (length (count ++ behind)) 8 ≡ false = le-ltb _ _ (omega (arith, length-append count behind)) in
    let counted : eqb (big_number 8 (count ++ behind)) n ≡ true = eq-eqb _ _ (count_back (length xs) behind (omega (arith, is.count)) ∙ is.count) in
    let more : ltb (length behind) (8 * n) ≡ false = le-ltb _ _ (omega (arith, length-append (numbers_bytes xs) rest, length-numbers_bytes xs, is.count)) in
    let read : numbers_in n behind ≡ xs = ap (λ (k : ℕ). numbers_in k behind) (sym is.count) ∙ numbers_back xs rest is.each in
    let left : drop (8 * n) behind ≡ rest = drop_at (numbers_bytes xs) rest (8 * n) (omega (arith, length-numbers_bytes xs, is.count)) in
    ap (section_at section n) grouped ∙ rw (long, counted, drop_at count behind 8 len, more, read, left) refl

-- where a section is cut, it is short
pub section_short : (section n : ℕ) (xs : List ℤ) (m : ℕ) → n < 2 ^ 64 → IsSection n xs → m < length (section_bytes xs) → section_at section n (take m (section_bytes xs)) ≡ Err Short
section_short section n xs m small is lt =
    let all = section_bytes xs in
    let kept : length (take m all) ≡ m = length-take-le m all (omega arith) in
    let size : length all ≡ 8 + 8 * n = omega (arith, length-append (number_bytes (pos (length xs))) (numbers_bytes xs), length-number_bytes (pos (length xs)), length-numbers_bytes xs, is.count) in
    elim (cases_lt m 8) [
      | inl few ↦
          let short : ltb (length (take m all)) 8 ≡ true = lt-ltb _ _ (omega arith) in
          rw short refl
      | inr le ↦
          let long : ltb (length (take m all)) 8 ≡ false = le-ltb _ _ (omega arith) in
          let counted : eqb (big_number 8 (take m all)) n ≡ true = eq-eqb _ _ (big_from-take 0 8 m all (omega arith) ∙ count_back (length xs) (numbers_bytes xs) (omega (arith, is.count)) ∙ is.count) in
          let short : ltb (length (drop 8 (take m all))) (8 * n) ≡ true = lt-ltb _ _ (omega (arith, length-drop 8 (take m all))) in
          rw (long, counted, short) refl
    ]

pub section_few : (section n : ℕ) (bytes : List ℕ) → length bytes < 8 → section_at section n bytes ≡ Err Short
section_few section n bytes lt =
    let short : ltb (length bytes) 8 ≡ true = lt-ltb _ _ lt in
    rw short refl

-- another count
pub section_shape : (section n other : ℕ) (rest : List ℕ) → other < 2 ^ 64 → other ≢ n → section_at section n (number_bytes (pos other) ++ rest) ≡ Err (Shape section)
section_shape section n other rest small ne =
    let count = number_bytes (pos other) in
    let long : ltb (length (count ++ rest)) 8 ≡ false = le-ltb _ _ (omega (arith, length-append count rest, length-number_bytes (pos other))) in
    let differs : eqb (big_number 8 (count ++ rest)) n ≡ false = ne_eqb _ _ (λ e. ne (sym (count_back other rest small) ∙ e)) in
    rw (long, differs) refl

-- ---- the end

pub more_behind : (bytes : List ℕ) → 0 < length bytes → nothing_after bytes ≡ Err Trailing
more_behind [] lt = absurd (omega arith)
more_behind (byte ∷ bytes) lt = refl

pub end_takes : (bytes : List ℕ) → nothing_after bytes ≡ Ok tt → bytes ≡ []
end_takes [] e = refl
end_takes (byte ∷ bytes) e = absurd cc

-- ---- signs

none_from : (i : ℕ) (xs : List ℤ) → position_from is_negative i xs ≡ None → AllByRecursion (λ x. is_negative x ≡ false) xs
none_from i [] e = tt
none_from i (pos n ∷ xs) e = (refl, none_from (i + 1) xs e)
none_from i (negsuc n ∷ xs) e = absurd cc

none_to : (i : ℕ) (xs : List ℤ) → AllByRecursion (λ x. is_negative x ≡ false) xs → position_from is_negative i xs ≡ None
none_to i [] h = refl
none_to i (pos n ∷ xs) h = none_to (i + 1) xs h.1
none_to i (negsuc n ∷ xs) h = absurd cc

is_none_at : (section : ℕ) (o : Option ℕ) → no_negative_at section o ≡ Ok tt → o ≡ None
is_none_at section None e = refl
is_none_at section (Some index) e = absurd cc

pub signs_take : (section : ℕ) (xs : List ℤ) → no_negative section xs ≡ Ok tt → AllByRecursion (λ x. is_negative x ≡ false) xs
signs_take section xs e = none_from 0 xs (sym (position_from-zero is_negative xs) ∙ is_none_at section (position is_negative xs) e)

pub signs_again : (section : ℕ) (xs : List ℤ) → AllByRecursion (λ x. is_negative x ≡ false) xs → no_negative section xs ≡ Ok tt
signs_again section xs h = ap (no_negative_at section) (position_from-zero is_negative xs ∙ none_to 0 xs h)
