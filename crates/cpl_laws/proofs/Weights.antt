-- Weights of the items that pass a test, one after another.
use Rattle.std.proofs.Common.{◌≡◌, ◌∙◌, refl, sym, ap, subst, Bool, true, false, cond, ℕ, zero, suc, ◌+◌, ◌<◌, arith, inl, inr, List, [], ◌∷◌, map, length, get_or, take}
use Rattle.std.specs.Prelude.{ℤ, pos, ◌+ℤ◌, ◌-ℤ◌, ◌≤ℤ◌, All}
use Rattle.std.specs.List.{filter, list_any}
use Rattle.std.proofs.lemmas.Int.{ints}
use Rattle.std.proofs.lemmas.Bool.{cases_Bool}
use Rattle.std.proofs.lemmas.List.{take_all}
use Rattle.std.proofs.lemmas.List.Elements.{All-tail}
use Rattle.cpl_fixed.specs.Totals.{total_of}
use Rattle.cpl_xgrid.specs.Groups.{numbers_from}
use Rattle.cpl_laws.proofs.Groups.{total_cond}

-- the weight of the items that pass
abbrev pub measured : {T : Type 0} → (T → Bool) → (T → ℤ) → List T → ℤ
measured passes own items = total_of (map own (filter passes items))

filtered : {T : Type 0} (own : T → ℤ) (b : Bool) (item : T) (items : List T) → total_of (map own (cond b (item ∷ items) items)) ≡ cond b (own item) (pos 0) +ℤ total_of (map own items)
filtered own true item items = refl
filtered own false item items = omega (arith, ints)

pub measured_first : {T : Type 0} (passes : T → Bool) (own : T → ℤ) (item : T) (items : List T) → measured passes own (item ∷ items) ≡ cond (passes item) (own item) (pos 0) +ℤ measured passes own items
measured_first passes own item items = filtered own (passes item) item (filter passes items)

pub measured_more : {T : Type 0} (passes : T → Bool) (own : T → ℤ) (items : List T) (k : ℕ) (d : T) → k < length items
    → measured passes own (take (suc k) items) ≡ measured passes own (take k items) +ℤ cond (passes (get_or items k d)) (own (get_or items k d)) (pos 0)
measured_more passes own [] k d l = absurd (omega arith)
measured_more passes own (item ∷ items) zero d l = let e = measured_first passes own item [] in omega (arith, ints, e)
measured_more passes own (item ∷ items) (suc k) d l =
    let rest = measured_more passes own items k d (omega arith) in
    let first = measured_first passes own item (take (suc k) items) in
    let same = measured_first passes own item (take k items) in
    omega (arith, ints, rest, first, same)

cond_natural : (b : Bool) (x : ℤ) → pos 0 ≤ℤ x → pos 0 ≤ℤ cond b x (pos 0)
cond_natural true x h = h
cond_natural false x h = omega (arith, ints)

-- the first ones weigh no less than nothing, and no more than all
pub measured_natural : {T : Type 0} (passes : T → Bool) (own : T → ℤ) (items : List T) → All (λ x. pos 0 ≤ℤ own x) items → (k : ℕ) → pos 0 ≤ℤ measured passes own (take k items)
measured_natural passes own items are zero = omega (arith, ints)
measured_natural passes own [] are (suc k) = omega (arith, ints)
measured_natural passes own (item ∷ items) are (suc k) =
    let first = measured_first passes own item (take k items) in
    let here = cond_natural (passes item) (own item) (are 0 item (omega arith)) in
    let rest = measured_natural passes own items (All-tail (λ x. pos 0 ≤ℤ own x) item items are) k in
    omega (arith, ints, first, here, rest)

pub measured_all : {T : Type 0} (passes : T → Bool) (own : T → ℤ) (items : List T) → All (λ x. pos 0 ≤ℤ own x) items → pos 0 ≤ℤ measured passes own items
measured_all passes own items are = subst (λ (xs : List _). pos 0 ≤ℤ measured passes own xs) (take_all (length items) items (omega arith)) (measured_natural passes own items are (length items))

pub measured_front : {T : Type 0} (passes : T → Bool) (own : T → ℤ) (items : List T) → All (λ x. pos 0 ≤ℤ own x) items → (k : ℕ) → measured passes own (take k items) ≤ℤ measured passes own items
measured_front passes own items are zero = measured_all passes own items are
measured_front passes own [] are (suc k) = omega (arith, ints)
measured_front passes own (item ∷ items) are (suc k) =
    let first = measured_first passes own item (take k items) in
    let all = measured_first passes own item items in
    let rest = measured_front passes own items (All-tail (λ x. pos 0 ≤ℤ own x) item items are) k in
    omega (arith, ints, first, all, rest)

-- an item that passes comes, with those before it, within all
pub with_own : {T : Type 0} (passes : T → Bool) (own : T → ℤ) (items : List T) (k : ℕ) (d : T) → All (λ x. pos 0 ≤ℤ own x) items → k < length items → passes (get_or items k d) ≡ true
    → (measured passes own (take k items) +ℤ own (get_or items k d)) ≤ℤ measured passes own items
with_own passes own items k d are l e =
    let more = measured_more passes own items k d l in
    let here : cond (passes (get_or items k d)) (own (get_or items k d)) (pos 0) ≡ own (get_or items k d) = ap (λ (b : Bool). cond b (own (get_or items k d)) (pos 0)) e in
    let most = measured_front passes own items are (suc k) in
    omega (arith, ints, more, here, most)

-- where an item passes, and each weighs something, they weigh something
some_first : {T : Type 0} (passes : T → Bool) (own : T → ℤ) (item : T) (items : List T) (b : Bool) → passes item ≡ b → (b ≡ false → pos 1 ≤ℤ measured passes own items) → pos 1 ≤ℤ own item → pos 0 ≤ℤ measured passes own items → pos 1 ≤ℤ measured passes own (item ∷ items)
some_first passes own item items true e later here rest =
    let first = measured_first passes own item items in
    let same = ap (λ (b : Bool). cond b (own item) (pos 0)) e in
    omega (arith, ints, first, same, here, rest)
some_first passes own item items false e later here rest =
    let first = measured_first passes own item items in
    let same = ap (λ (b : Bool). cond b (own item) (pos 0)) e in
    let more = later refl in
    omega (arith, ints, first, same, more)

pub measured_some : {T : Type 0} (passes : T → Bool) (own : T → ℤ) (items : List T) → All (λ x. pos 1 ≤ℤ own x) items → list_any passes items ≡ true → pos 1 ≤ℤ measured passes own items
measured_some passes own [] are any = absurd (cc)
measured_some passes own (item ∷ items) are any =
    let others = All-tail (λ x. pos 1 ≤ℤ own x) item items are in
    some_first passes own item items (passes item) refl (λ e. measured_some passes own items others (rw e at any))
    (are 0 item (omega arith)) (measured_all passes own items (λ k d l. let one = others k d l in omega (arith, ints, one)))

-- what lies between the running weights of the items that pass, summed up
pub running : {T : Type 0} (p : ℤ → ℤ) (before own : ℕ → ℤ) (passes : T → Bool) (d : T) (n : ℕ) (items : List T)
    → ((k : ℕ) → k < length items → before (n + suc k) ≡ before (n + k) +ℤ cond (passes (get_or items k d)) (own (n + k)) (pos 0))
    → total_of (map (λ m. p (before m +ℤ own m) -ℤ p (before m)) (numbers_from passes n items)) ≡ p (before (n + length items)) -ℤ p (before n)
running p before own passes d n [] more =
    let same = ap (λ (m : ℕ). p (before m)) (let e : n + 0 ≡ n = omega arith in e) in
    omega (arith, ints, same)
running p before own passes d n (item ∷ items) more =
    let f = λ (m : ℕ). p (before m +ℤ own m) -ℤ p (before m) in
    let rest = running p before own passes d (n + 1) items (λ k l.
    let a : n + suc (suc k) ≡ n + 1 + suc k = omega arith in
    let b : n + suc k ≡ n + 1 + k = omega arith in
    ap before (sym a) ∙ more (suc k) (omega arith) ∙ (λ i. before (b i) +ℤ cond (passes (get_or items k d)) (own (b i)) (pos 0))) in
    let split = total_cond f (passes item) n (numbers_from passes (n + 1) items) in
    let next : before (n + 1) ≡ before n +ℤ cond (passes item) (own n) (pos 0) =
    (let z : n + 0 ≡ n = omega arith in more 0 (omega arith) ∙ (λ i. before (z i) +ℤ cond (passes item) (own (z i)) (pos 0))) in
    let last = ap (λ (m : ℕ). p (before m)) (let e : n + suc (length items) ≡ n + 1 + length items = omega arith in e) in
    elim (cases_Bool (passes item)) [
      | inl there ↦
          let here = ap (λ (b : Bool). cond b (f n) (pos 0)) there in
          let step = ap p (next ∙ ap (λ (b : Bool). before n +ℤ cond b (own n) (pos 0)) there) in
          omega (arith, ints, rest, split, last, here, step)
      | inr none_there ↦
          let here = ap (λ (b : Bool). cond b (f n) (pos 0)) none_there in
          let none : before n +ℤ pos 0 ≡ before n = omega (arith, ints) in
          let step = ap p (next ∙ ap (λ (b : Bool). before n +ℤ cond b (own n) (pos 0)) none_there ∙ none) in
          omega (arith, ints, rest, split, last, here, step)
    ]
