-- Sums of lists, place by place.
use Rattle.std.proofs.Common.{◌≡◌, ◌∙◌, ap, sym, refl, subst, ℕ, zero, suc, ◌+◌, ◌<◌, ◌≤◌, arith, List, [], ◌∷◌, ◌++◌, length, map, take, get_or, set}
use Rattle.std.specs.Prelude.{ℤ, pos, ◌+ℤ◌, All, zip}
use Rattle.std.proofs.lemmas.List.{take_all, take_at, drop_at, take_more_set}
use Rattle.std.proofs.lemmas.List.Elements.{All-take, All-drop, All-get_or}
use Rattle.cpl_stocks.specs.Partials.{each_sum, row_sums, in_rows}

-- pairs of one more element
zip_more : {A B C : Type 0} (f : A × B → C) (xs : List A) (ys : List B) (i : ℕ) (x : A) (y : B) → i < length xs → i < length ys
    → map f (zip (take (suc i) xs) (take (suc i) ys)) ≡ map f (zip (take i xs) (take i ys)) ++ f (get_or xs i x, get_or ys i y) ∷ []
zip_more f [] ys i a b l m = absurd (omega arith)
zip_more f (x ∷ xs) [] i a b l m = absurd (omega arith)
zip_more f (x ∷ xs) (y ∷ ys) zero a b l m = refl
zip_more {C = C} f (x ∷ xs) (y ∷ ys) (suc i) a b l m = ap (λ (rest : List C). f (x, y) ∷ rest) (zip_more f xs ys i a b (omega arith) (omega arith))

-- the element at a place
at_zip : {A B C : Type 0} (f : A × B → C) (xs : List A) (ys : List B) (i : ℕ) (x : A) (y : B) (z : C) → i < length xs → i < length ys
    → get_or (map f (zip xs ys)) i z ≡ f (get_or xs i x, get_or ys i y)
at_zip f [] ys i a b c l m = absurd (omega arith)
at_zip f (x ∷ xs) [] i a b c l m = absurd (omega arith)
at_zip f (x ∷ xs) (y ∷ ys) zero a b c l m = refl
at_zip f (x ∷ xs) (y ∷ ys) (suc i) a b c l m = at_zip f xs ys i a b c (omega arith) (omega arith)

count_zip : {A B C : Type 0} (f : A × B → C) (xs : List A) (ys : List B) → length ys ≡ length xs → length (map f (zip xs ys)) ≡ length xs
count_zip f [] ys e = refl
count_zip f (x ∷ xs) [] e = absurd (omega arith)
count_zip f (x ∷ xs) (y ∷ ys) e = ap suc (count_zip f xs ys (omega arith))

-- one more place has its sum
pub written_more : {A B C : Type 0} (f : A × B → C) (xs : List A) (ys : List B) (now : List C) (i : ℕ) (x : A) (y : B) (z : C)
    → i < length xs → i < length ys → i < length now → take i now ≡ map f (zip (take i xs) (take i ys)) → z ≡ f (get_or xs i x, get_or ys i y)
    → take (i + 1) (set now i z) ≡ map f (zip (take (i + 1) xs) (take (i + 1) ys))
written_more {C = C} f xs ys now i x y z l m k before is =
    let next : suc i ≡ i + 1 = omega arith in
    take_more_set now i z k
    ∙ ap (λ (front : List C). front ++ z ∷ []) before
    ∙ ap (λ (last : C). map f (zip (take i xs) (take i ys)) ++ last ∷ []) is
    ∙ sym (zip_more f xs ys i x y l m)
    ∙ ap (λ n. map f (zip (take n xs) (take n ys))) next

-- all places have theirs
pub written_all : {A B C : Type 0} (f : A × B → C) (xs : List A) (ys : List B) (now : List C) (n : ℕ)
    → length xs ≤ n → length ys ≤ n → length now ≤ n → take n now ≡ map f (zip (take n xs) (take n ys)) → now ≡ map f (zip xs ys)
written_all f xs ys now n l m k done =
    sym (take_all n now k) ∙ done ∙ (λ i. map f (zip (take_all n xs l i) (take_all n ys m i)))

-- what holds of each sum holds of the sum at a place
pub each_fits : (P : ℤ → Type 0) (xs ys : List ℤ) (i : ℕ) → length ys ≡ length xs → i < length xs → All P (each_sum xs ys) → P (get_or xs i (pos 0) +ℤ get_or ys i (pos 0))
each_fits P xs ys i e l all =
    let count = count_zip (λ (p : ℤ × ℤ). p.0 +ℤ p.1) xs ys e in
    subst P (at_zip (λ (p : ℤ × ℤ). p.0 +ℤ p.1) xs ys i (pos 0) (pos 0) (pos 0) l (omega arith)) (All-get_or P (each_sum xs ys) i (pos 0) (omega arith) all)

-- what holds of all numbers of two lists, of those of one, and of those of a row
pub all_front : (P : ℤ → Type 0) (xs ys : List ℤ) → All P (xs ++ ys) → All P xs
all_front P xs ys all = subst (All P) (take_at xs ys (length xs) refl) (All-take P (length xs) (xs ++ ys) all)

pub all_back : (P : ℤ → Type 0) (xs ys : List ℤ) → All P (xs ++ ys) → All P ys
all_back P xs ys all = subst (All P) (drop_at xs ys (length xs) refl) (All-drop P (length xs) (xs ++ ys) all)

all_row : (P : ℤ → Type 0) (rows : List (List ℤ)) (i : ℕ) → i < length rows → All P (in_rows rows) → All P (get_or rows i [])
all_row P [] i l all = absurd (omega arith)
all_row P (row ∷ rows) zero l all = all_front P row (in_rows rows) all
all_row P (row ∷ rows) (suc i) l all = all_row P rows i (omega arith) (all_back P row (in_rows rows) all)

pub row_fits : (P : ℤ → Type 0) (xs ys : List (List ℤ)) (i : ℕ) → length ys ≡ length xs → i < length xs → All P (in_rows (row_sums xs ys))
    → All P (each_sum (get_or xs i []) (get_or ys i []))
row_fits P xs ys i e l all =
    let count = count_zip (λ (p : List ℤ × List ℤ). each_sum p.0 p.1) xs ys e in
    subst (All P) (at_zip (λ (p : List ℤ × List ℤ). each_sum p.0 p.1) xs ys i [] [] [] l (omega arith)) (all_row P (row_sums xs ys) i (omega arith) all)
