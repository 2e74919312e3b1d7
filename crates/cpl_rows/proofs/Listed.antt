-- The numbers of the items of a list that pass a test: as a loop goes through them, where they stand, and grouped.
use Rattle.std.proofs.Common.{cond, ◌≡◌, ◌∙◌, refl, sym, ap, subst, ℕ, zero, suc, ◌+◌, ◌-◌, ◌<◌, ◌≤◌, ◌&&◌, arith, Bool, true, false, List, [], ◌∷◌, ◌++◌, length, get_or, take, map}
use Rattle.std.specs.List.{filter}
use Rattle.std.proofs.lemmas.Bool.{cond-true}
use Rattle.cpl_xgrid.specs.Groups.{numbers_from}
use Rattle.cpl_xgrid.proofs.CellRefs.{map_cond}

-- AS A LOOP GOES

-- one more item
abbrev pub one_number : {T : Type 0} → (T → Bool) → T → ℕ → List ℕ
one_number passes item n = cond (passes item) (n ∷ []) []

more_cond : (b : Bool) (n : ℕ) (xs ys : List ℕ) → cond b (n ∷ (xs ++ ys)) (xs ++ ys) ≡ cond b (n ∷ xs) xs ++ ys
more_cond true n xs ys = refl
more_cond false n xs ys = refl

numbers_next : {T : Type 0} (passes : T → Bool) (n k : ℕ) (items : List T) (d : T) → k < length items
    → numbers_from passes n (take (suc k) items) ≡ numbers_from passes n (take k items) ++ one_number passes (get_or items k d) (n + k)
numbers_next passes n k [] d l = absurd (omega arith)
numbers_next passes n zero (item ∷ items) d l =
    let same : n ≡ n + 0 = omega arith in ap (λ (m : ℕ). cond (passes item) (m ∷ []) []) same
numbers_next passes n (suc k) (item ∷ items) d l =
    let same : n + 1 + k ≡ n + suc k = omega arith in
    ap (λ (ms : List ℕ). cond (passes item) (n ∷ ms) ms) (numbers_next passes (n + 1) k items d (omega arith) ∙ ap (λ (m : ℕ). numbers_from passes (n + 1) (take k items) ++ one_number passes (get_or items k d) m) same)
    ∙ more_cond (passes item) n (numbers_from passes (n + 1) (take k items)) (one_number passes (get_or items k d) (n + suc k))

pub numbers_more : {T : Type 0} (passes : T → Bool) (k : ℕ) (items : List T) (d : T) → k < length items
    → numbers_from passes 0 (take (k + 1) items) ≡ numbers_from passes 0 (take k items) ++ one_number passes (get_or items k d) k
numbers_more passes k items d l =
    let next : k + 1 ≡ suc k = omega arith in
    let same : 0 + k ≡ k = omega arith in
    ap (λ (n : ℕ). numbers_from passes 0 (take n items)) next ∙ numbers_next passes 0 k items d l ∙ ap (λ (n : ℕ). numbers_from passes 0 (take k items) ++ one_number passes (get_or items k d) n) same

-- one that passes, and one that doesn't
pub numbers_push : {T : Type 0} (passes : T → Bool) (k : ℕ) (items : List T) (d : T) (b : Bool) (before after : List ℕ) → k < length items → before ≡ numbers_from passes 0 (take k items)
    → passes (get_or items k d) ≡ b → after ≡ before ++ cond b (k ∷ []) [] → after ≡ numbers_from passes 0 (take (k + 1) items)
numbers_push passes k items d b before after l was test is =
    is ∙ ap (λ (ns : List ℕ). ns ++ cond b (k ∷ []) []) was ∙ ap (λ (c : Bool). numbers_from passes 0 (take k items) ++ cond c (k ∷ []) []) (sym test) ∙ sym (numbers_more passes k items d l)

-- WHERE THEY STAND

-- each is the number of an item that passes, from the first on
pub record Passes {T : Type 0} (passes : T → Bool) (n : ℕ) (items : List T) (d : T) (number : ℕ) : Type 0 where
  pub low : n ≤ number
  pub within : number < n + length items
  pub test : passes (get_or items (number - n) d) ≡ true

passes_later : {T : Type 0} (passes : T → Bool) (n : ℕ) (item : T) (items : List T) (d : T) (number : ℕ) → Passes passes (n + 1) items d number → Passes passes n (item ∷ items) d number
passes_later passes n item items d number is =
    let low = is.low in let within = is.within in
    let same : suc (number - (n + 1)) ≡ number - n = omega arith in
    record { low = omega arith; within = omega arith; test = subst (λ (k : ℕ). passes (get_or (item ∷ items) k d) ≡ true) same is.test }

passes_cond : {T : Type 0} (passes : T → Bool) (n : ℕ) (item : T) (items : List T) (d : T) (b : Bool) → passes item ≡ b → (xs : List ℕ) → ((k : ℕ) → k < length xs → Passes passes (n + 1) items d (get_or xs k 0))
    → (k : ℕ) → k < length (cond b (n ∷ xs) xs) → Passes passes n (item ∷ items) d (get_or (cond b (n ∷ xs) xs) k 0)
passes_cond passes n item items d false test xs each k l = passes_later passes n item items d (get_or xs k 0) (each k l)
passes_cond passes n item items d true test xs each zero l =
    let none : 0 ≡ n - n = omega arith in
    record { low = omega arith; within = omega arith; test = subst (λ (k : ℕ). passes (get_or (item ∷ items) k d) ≡ true) none test }
passes_cond passes n item items d true test xs each (suc k) l = passes_later passes n item items d (get_or xs k 0) (each k (omega arith))

passes_all : {T : Type 0} (passes : T → Bool) (n : ℕ) (items : List T) (d : T) (k : ℕ) → k < length (numbers_from passes n items) → Passes passes n items d (get_or (numbers_from passes n items) k 0)
passes_all passes n [] d k l = absurd (omega arith)
passes_all passes n (item ∷ items) d k l =
    passes_cond passes n item items d (passes item) refl (numbers_from passes (n + 1) items) (passes_all passes (n + 1) items d) k l

-- the number of an item that passes stands there
pub record Stands (numbers : List ℕ) (number : ℕ) : Type 0 where
  pub place : ℕ
  pub within : place < length numbers
  pub is : get_or numbers place 0 ≡ number

stands_cond : (b : Bool) (n number : ℕ) (xs : List ℕ) → Stands xs number → Stands (cond b (n ∷ xs) xs) number
stands_cond false n number xs it = it
stands_cond true n number xs it = let within = it.within in record { place = suc it.place; within = omega arith; is = it.is }

pub stands_at : {T : Type 0} (passes : T → Bool) (n k : ℕ) (items : List T) (d : T) → k < length items → passes (get_or items k d) ≡ true → Stands (numbers_from passes n items) (n + k)
stands_at passes n k [] d l test = absurd (omega arith)
stands_at passes n zero (item ∷ items) d l test =
    let same : n ≡ n + 0 = omega arith in
    subst (λ (xs : List ℕ). Stands xs (n + 0)) (sym (cond-true (passes item) (n ∷ numbers_from passes (n + 1) items) (numbers_from passes (n + 1) items) test))
    (record { place = 0; within = omega arith; is = same })
stands_at passes n (suc k) (item ∷ items) d l test =
    let same : n + 1 + k ≡ n + suc k = omega arith in
    subst (λ (number : ℕ). Stands (numbers_from passes n (item ∷ items)) number) same
    (stands_cond (passes item) n (n + 1 + k) (numbers_from passes (n + 1) items) (stands_at passes (n + 1) k items d (omega arith) test))

-- they rise
rising_cond : (b : Bool) (n : ℕ) (xs : List ℕ) → ((k : ℕ) → k < length xs → n + 1 ≤ get_or xs k 0) → ((i j : ℕ) → i < j → j < length xs → get_or xs i 0 < get_or xs j 0)
    → (i j : ℕ) → i < j → j < length (cond b (n ∷ xs) xs) → get_or (cond b (n ∷ xs) xs) i 0 < get_or (cond b (n ∷ xs) xs) j 0
rising_cond false n xs low rise i j h l = rise i j h l
rising_cond true n xs low rise i zero h l = absurd (omega arith)
rising_cond true n xs low rise zero (suc j) h l = let least = low j (omega arith) in omega arith
rising_cond true n xs low rise (suc i) (suc j) h l = rise i j (omega arith) (omega arith)

pub numbers_rise : {T : Type 0} (passes : T → Bool) (n : ℕ) (items : List T) (i j : ℕ) → i < j → j < length (numbers_from passes n items)
    → get_or (numbers_from passes n items) i 0 < get_or (numbers_from passes n items) j 0
numbers_rise passes n [] i j h l = absurd (omega arith)
numbers_rise passes n (item ∷ items) i j h l =
    rising_cond (passes item) n (numbers_from passes (n + 1) items) (λ k b. (passes_all passes (n + 1) items item k b).low) (numbers_rise passes (n + 1) items) i j h l

-- of numbers from 0 on
pub passes_at : {T : Type 0} (passes : T → Bool) (items : List T) (d : T) (k : ℕ) → k < length (numbers_from passes 0 items)
    → (get_or (numbers_from passes 0 items) k 0 < length items) × (passes (get_or items (get_or (numbers_from passes 0 items) k 0) d) ≡ true)
passes_at passes items d k l =
    let it = passes_all passes 0 items d k l in
    let within = it.within in
    let number = get_or (numbers_from passes 0 items) k 0 in
    let same : number - 0 ≡ number = omega arith in
    (omega arith, subst (λ (m : ℕ). passes (get_or items m d) ≡ true) same it.test)

-- the same test
pub numbers_agree : {T : Type 0} (p q : T → Bool) (n : ℕ) (items : List T) → ((k : ℕ) (d : T) → k < length items → p (get_or items k d) ≡ q (get_or items k d)) → numbers_from p n items ≡ numbers_from q n items
numbers_agree p q n [] each = refl
numbers_agree p q n (item ∷ items) each =
    let first : p item ≡ q item = each 0 item (omega arith) in
    let rest = numbers_agree p q (n + 1) items (λ k d h. each (suc k) d (omega arith)) in cc

-- GROUPED

-- each item of a list stands in another, so many places later
abbrev pub StandLater : {T : Type 0} → (n : ℕ) (items all : List T) (d : T) → Type 0
StandLater n items all d = (k : ℕ) → k < length items → get_or all (n + k) d ≡ get_or items k d

stand_on : {T : Type 0} (n : ℕ) (item : T) (items all : List T) (d : T) → StandLater n (item ∷ items) all d → StandLater (n + 1) items all d
stand_on n item items all d later k l = let same : n + 1 + k ≡ n + suc k = omega arith in ap (λ (m : ℕ). get_or all m d) same ∙ later (suc k) (omega arith)

stand_first : {T : Type 0} (n : ℕ) (item : T) (items all : List T) (d : T) → StandLater n (item ∷ items) all d → get_or all n d ≡ item
stand_first n item items all d later = let same : n ≡ n + 0 = omega arith in ap (λ (m : ℕ). get_or all m d) same ∙ later 0 (omega arith)

picked_from : {T : Type 0} (passes : T → Bool) (n : ℕ) (items all : List T) (d : T) → StandLater n items all d → map (λ m. get_or all m d) (numbers_from passes n items) ≡ filter passes items
picked_from passes n [] all d later = refl
picked_from passes n (item ∷ items) all d later =
    let rest = picked_from passes (n + 1) items all d (stand_on n item items all d later) in
    map_cond (λ m. get_or all m d) (passes item) n (numbers_from passes (n + 1) items)
    ∙ (λ t. cond (passes item) (stand_first n item items all d later t ∷ rest t) (rest t))

-- the items of the numbers are those that pass
pub picked : {T : Type 0} (passes : T → Bool) (items : List T) (d : T) → map (λ m. get_or items m d) (numbers_from passes 0 items) ≡ filter passes items
picked passes items d = picked_from passes 0 items items d (λ k l. let same : 0 + k ≡ k = omega arith in ap (λ (m : ℕ). get_or items m d) same)

filter_cond : (test : ℕ → Bool) (b : Bool) (n : ℕ) (xs : List ℕ) → filter test (cond b (n ∷ xs) xs) ≡ cond (b && test n) (n ∷ filter test xs) (filter test xs)
filter_cond test true n xs = refl
filter_cond test false n xs = refl

both_from : {T : Type 0} (p q : T → Bool) (n : ℕ) (items all : List T) (d : T) → StandLater n items all d
    → filter (λ m. q (get_or all m d)) (numbers_from p n items) ≡ numbers_from (λ item. p item && q item) n items
both_from p q n [] all d later = refl
both_from p q n (item ∷ items) all d later =
    let rest = both_from p q (n + 1) items all d (stand_on n item items all d later) in
    filter_cond (λ m. q (get_or all m d)) (p item) n (numbers_from p (n + 1) items)
    ∙ (λ t. cond (p item && q (stand_first n item items all d later t)) (n ∷ rest t) (rest t))

-- of those that pass one test, those whose items pass another
pub both : {T : Type 0} (p q : T → Bool) (items : List T) (d : T) → filter (λ m. q (get_or items m d)) (numbers_from p 0 items) ≡ numbers_from (λ item. p item && q item) 0 items
both p q items d = both_from p q 0 items items d (λ k l. let same : 0 + k ≡ k = omega arith in ap (λ (m : ℕ). get_or items m d) same)
