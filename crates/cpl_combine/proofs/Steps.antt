-- A step of the loops over places.
use Rattle.std.proofs.Common.{◌≡◌, ◌∙◌, sym, ap, ℕ, zero, suc, ◌+◌, ◌<◌, ◌≤◌, arith, add-one, true, false, inl, inr, List, [], ◌∷◌, ◌++◌, map, length, get_or, take, drop, ℤ, pos, append_assoc, refl}
use Rattle.std.specs.Prelude.{All, AllPairs, Bool, count_by, ◌-◌}
use Rattle.std.specs.List.Sorted.{IsNonDecreasingBy}
use Rattle.std.proofs.lemmas.Bool.{cases_eq}
use Rattle.std.proofs.lemmas.List.{take_all, get_or-take, get_or-drop, length-take-le, length-drop}
use Rattle.std.proofs.lemmas.List.FromFn.{get_or-range_with_len, length-range_with_len}
use Rattle.std.proofs.lemmas.List.Sums.{count_by_more_yes, count_by_more_no}
use Rattle.cpl_faces.specs.declared.face.Face.{Face}
use Rattle.cpl_faces.specs.Faces.{Precedes}
use Rattle.cpl_fixed.specs.declared.words.Component.{Component}
use Rattle.cpl_fixed.specs.declared.words.Component.TheVariants.{Atmos, Land, Ice, Ocean}
use Rattle.cpl_restart.specs.Numbers.{section_bytes}
use Rattle.cpl_combine.specs.Cuts.{all_gathered}
use Rattle.cpl_combine.specs.Places.{of_component, section_count, sections_before}
use Rattle.std.specs.List.{flat_map, range_with_len}
use Rattle.std.proofs.lemmas.List.{take_more, append-nil}
use Rattle.std.proofs.lemmas.List.Concat.{flat_map-append}
use Rattle.cpl_faces.proofs.Listed.{flat_map_next}
use Rattle.cpl_restart.specs.Numbers.{number_bytes}
use Rattle.cpl_combine.specs.Cuts.{gathered}

-- one more of what a list's items make
pub flat_map_more : {X Y : Type 0} (f : X → List Y) (xs : List X) (i : ℕ) (d : X) → i < length xs → flat_map f (take (i + 1) xs) ≡ flat_map f (take i xs) ++ f (get_or xs i d)
flat_map_more f xs i d below =
    ap (flat_map f) (take_more xs i d below)
    ∙ flat_map-append f (take i xs) (get_or xs i d ∷ [])
    ∙ ap (λ t. flat_map f (take i xs) ++ t) (append-nil (f (get_or xs i d)))

map_next : {X Y : Type 0} (f : X → Y) (xs : List X) (i : ℕ) (d : X) → i < length xs → map f (take (suc i) xs) ≡ map f (take i xs) ++ f (get_or xs i d) ∷ []
map_next f [] i d below = absurd (omega arith)
map_next f (x ∷ xs) zero d below = refl
map_next f (x ∷ xs) (suc i) d below = ap (λ t. f x ∷ t) (map_next f xs i d (omega arith))

pub map_more : {X Y : Type 0} (f : X → Y) (xs : List X) (i : ℕ) (d : X) → i < length xs → map f (take (i + 1) xs) ≡ map f (take i xs) ++ f (get_or xs i d) ∷ []
map_more f xs i d below = rw add-one (map_next f xs i d below)

-- one more row
pub row_more : {X : Type 0} (f : ℕ → List X) (n : ℕ) → flat_map f (range_with_len 0 (n + 1)) ≡ flat_map f (range_with_len 0 n) ++ f n
row_more f n = rw add-one (flat_map_next f 0 n n (omega arith))

range_next : (from n : ℕ) → range_with_len from (suc n) ≡ range_with_len from n ++ (from + n) ∷ []
range_next from zero = ap (λ (m : ℕ). m ∷ []) (let e : from ≡ from + 0 = omega arith in e)
range_next from (suc n) =
    let next : from + 1 + n ≡ from + suc n = omega arith in
    ap (λ (ns : List ℕ). from ∷ ns) (range_next (from + 1) n ∙ ap (λ (m : ℕ). range_with_len (from + 1) n ++ m ∷ []) next)

-- a run from a number to another, with one number more
pub run_more : (from n : ℕ) → from ≤ n → range_with_len from (n + 1 - from) ≡ range_with_len from (n - from) ++ n ∷ []
run_more from n le =
    let next : n + 1 - from ≡ suc (n - from) = omega arith in
    let here : from + (n - from) ≡ n = omega arith in
    rw next (range_next from (n - from) ∙ ap (λ (m : ℕ). range_with_len from (n - from) ++ m ∷ []) here)

-- bytes that were written one part after another
pub spelled : (marked headed all mark head parts wanted : List ℕ) → marked ≡ mark → headed ≡ marked ++ head → all ≡ headed ++ parts → parts ≡ wanted → all ≡ mark ++ (head ++ wanted)
spelled marked headed all mark head parts wanted m h p w =
    p ∙ ap (λ t. t ++ parts) (h ∙ ap (λ t. t ++ head) m) ∙ append_assoc mark head parts ∙ ap (λ t. mark ++ (head ++ t)) w

-- the numbers at one place more, as bytes
pub gathered_more : (numbers : List ℤ) (places : List ℕ) (i : ℕ) → i < length places
    → flat_map number_bytes (gathered numbers (take (i + 1) places)) ≡ flat_map number_bytes (gathered numbers (take i places)) ++ number_bytes (get_or numbers (get_or places i 0) (pos 0))
gathered_more numbers places i below =
    ap (flat_map number_bytes) (map_more (λ n. get_or numbers n (pos 0)) places i 0 below)
    ∙ flat_map-append number_bytes (map (λ n. get_or numbers n (pos 0)) (take i places)) (get_or numbers (get_or places i 0) (pos 0) ∷ [])
    ∙ ap (λ t. flat_map number_bytes (map (λ n. get_or numbers n (pos 0)) (take i places)) ++ t) (append-nil (number_bytes (get_or numbers (get_or places i 0) (pos 0))))

-- rows one after another, with one row more
pub rows_next : (f : ℕ → List ℕ) (items more run : List ℕ) (j : ℕ) → more ≡ items ++ run → items ≡ flat_map f (range_with_len 0 j) → run ≡ f j → more ≡ flat_map f (range_with_len 0 (j + 1))
rows_next f items more run j e before is = e ∙ ap (λ t. t ++ run) before ∙ ap (λ t. flat_map f (range_with_len 0 j) ++ t) is ∙ sym (row_more f j)

-- numbers that follow each other are below their end
pub range_below : (from count most : ℕ) → from + count ≤ most → All (λ n. n < most) (range_with_len from count)
range_below from count most le k d below =
    let short : k < count = omega (arith, length-range_with_len from count) in
    rw get_or-range_with_len (omega arith)

-- ---- how many faces come before a cell's

pub count_front : (p : Face → Bool) (xs : List Face) (d : Face) (k : ℕ) → k ≤ length xs → ((j : ℕ) → j < k → p (get_or xs j d) ≡ true) → count_by p (take k xs) ≡ k
count_front p xs d zero le before = refl
count_front p xs d (suc k) le before =
    let one : suc k ≡ k + 1 = omega arith in
    rw one (count_by_more_yes p xs k d (omega arith) (before k (omega arith)) ∙ ap (λ n. n + 1) (count_front p xs d k (omega arith) (λ j h. before j (omega arith))))

pub count_on : (p : Face → Bool) (xs : List Face) (d : Face) (i m : ℕ) → i + m ≤ length xs → ((j : ℕ) → j < i → p (get_or xs j d) ≡ true) → ((j : ℕ) → i ≤ j → j < length xs → p (get_or xs j d) ≡ false) → count_by p (take (i + m) xs) ≡ i
count_on p xs d i zero le before after = let same : i + 0 ≡ i = omega arith in rw same (count_front p xs d i (omega arith) before)
count_on p xs d i (suc m) le before after =
    let one : i + suc m ≡ i + m + 1 = omega arith in
    rw one (count_by_more_no p xs (i + m) d (omega arith) (after (i + m) (omega arith) (omega arith)) ∙ count_on p xs d i m (omega arith) before after)

pub count_is : (p : Face → Bool) (xs : List Face) (d : Face) (i : ℕ) → i ≤ length xs → ((j : ℕ) → j < i → p (get_or xs j d) ≡ true) → ((j : ℕ) → i ≤ j → j < length xs → p (get_or xs j d) ≡ false) → count_by p xs ≡ i
count_is p xs d i le before after =
    let rest = length xs - i in
    let all : length xs ≤ i + rest = omega arith in
    ap (count_by p) (sym (take_all (i + rest) xs all)) ∙ count_on p xs d i rest (omega arith) before after

pub faces_rise : (faces : List Face) → AllPairs Precedes faces → IsNonDecreasingBy (λ (face : Face). face.first) faces
faces_rise faces sorted i j d le below = elim (cases_eq i j) [
  | inl same ↦ let e = ap (λ (k : ℕ). (get_or faces k d).first) same in omega (arith, e)
  | inr other ↦ elim (sorted i j d (omega arith) below) [ inl h ↦ omega arith | inr h ↦ let e = h.0 in omega arith ]
]

-- ---- the sections of a component

pub all_gathered_at : (sections : List (List ℤ)) (places : List (List ℕ)) (i : ℕ) → i < length sections → i < length places
    → get_or (all_gathered sections places) i [] ≡ gathered (get_or sections i []) (get_or places i [])
all_gathered_at [] places i h g = absurd (omega arith)
all_gathered_at (numbers ∷ sections) [] i h g = absurd (omega arith)
all_gathered_at (numbers ∷ sections) (at ∷ places) zero h g = refl
all_gathered_at (numbers ∷ sections) (at ∷ places) (suc i) h g = all_gathered_at sections places i (omega arith) (omega arith)

pub length-all_gathered : (sections : List (List ℤ)) (places : List (List ℕ)) → length sections ≡ length places → length (all_gathered sections places) ≡ length sections
length-all_gathered [] places e = refl
length-all_gathered (numbers ∷ sections) [] e = absurd (omega arith)
length-all_gathered (numbers ∷ sections) (at ∷ places) e = ap suc (length-all_gathered sections places (omega arith))

pub length-of_component : {A : Type 0} (component : Component) (xs : List A) → length xs ≡ 14 → length (of_component component xs) ≡ section_count component
length-of_component Atmos xs e = length-take-le 3 xs (omega arith)
length-of_component Land xs e = length-take-le 2 (drop 3 xs) (omega (arith, length-drop 3 xs))
length-of_component Ice xs e = omega (arith, length-drop 5 xs)
length-of_component Ocean xs e = omega (arith, length-drop 5 xs)

pub of_component_at : {A : Type 0} (component : Component) (xs : List A) (d : A) (i : ℕ) → i < section_count component → get_or (of_component component xs) i d ≡ get_or xs (sections_before component + i) d
of_component_at Atmos xs d i h = let same : i ≡ 0 + i = omega arith in get_or-take 3 xs i d h ∙ ap (λ (n : ℕ). get_or xs n d) same
of_component_at Land xs d i h = get_or-take 2 (drop 3 xs) i d h ∙ get_or-drop 3 xs i d
of_component_at Ice xs d i h = get_or-drop 5 xs i d
of_component_at Ocean xs d i h = get_or-drop 5 xs i d

-- a section more of a component
pub part_more : (component : Component) (sections : List (List ℤ)) (places : List (List ℕ)) (i k : ℕ) → length sections ≡ 14 → length places ≡ 14 → i < section_count component → sections_before component + i ≡ k
    → flat_map section_bytes (take (i + 1) (all_gathered (of_component component sections) (of_component component places)))
    ≡ flat_map section_bytes (take i (all_gathered (of_component component sections) (of_component component places))) ++ section_bytes (gathered (get_or sections k []) (get_or places k []))
part_more component sections places i k all every below at =
    let own = of_component component sections in
    let own_places = of_component component places in
    let many = length-of_component component sections all in
    let places_many = length-of_component component places every in
    let count = length-all_gathered own own_places (many ∙ sym places_many) in
    let first : get_or own i [] ≡ get_or sections k [] = of_component_at component sections [] i below ∙ ap (λ (n : ℕ). get_or sections n []) at in
    let second : get_or own_places i [] ≡ get_or places k [] = of_component_at component places [] i below ∙ ap (λ (n : ℕ). get_or places n []) at in
    let here : get_or (all_gathered own own_places) i [] ≡ gathered (get_or sections k []) (get_or places k []) =
    all_gathered_at own own_places i (omega arith) (omega arith) ∙ (λ s. gathered (first s) (second s)) in
    flat_map_more section_bytes (all_gathered own own_places) i [] (omega arith)
    ∙ ap (λ (part : List ℤ). flat_map section_bytes (take i (all_gathered own own_places)) ++ section_bytes part) here

pub part_next : (component : Component) (sections : List (List ℤ)) (places : List (List ℕ)) (k : ℕ) → length sections ≡ 14 → length places ≡ 14 → sections_before component ≤ k → k < sections_before component + section_count component
    → flat_map section_bytes (take (k + 1 - sections_before component) (all_gathered (of_component component sections) (of_component component places)))
    ≡ flat_map section_bytes (take (k - sections_before component) (all_gathered (of_component component sections) (of_component component places))) ++ section_bytes (gathered (get_or sections k []) (get_or places k []))
part_next component sections places k all every from below =
    let i = k - sections_before component in
    let next : k + 1 - sections_before component ≡ k - sections_before component + 1 = omega arith in
    rw next (part_more component sections places (k - sections_before component) k all every (omega arith) (omega arith))

-- all of them
pub parts_end : (component : Component) (sections : List (List ℤ)) (places : List (List ℕ)) (k : ℕ) → length sections ≡ 14 → length places ≡ 14 → k ≡ sections_before component + section_count component
    → take (k - sections_before component) (all_gathered (of_component component sections) (of_component component places)) ≡ all_gathered (of_component component sections) (of_component component places)
parts_end component sections places k all every end =
    let own = of_component component sections in
    let own_places = of_component component places in
    let many = length-of_component component sections all in
    let count = length-all_gathered own own_places (many ∙ sym (length-of_component component places every)) in
    take_all (k - sections_before component) (all_gathered own own_places) (omega arith)
