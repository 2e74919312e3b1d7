-- The faults of a restart's bytes, from spellings.
use Rattle.std.proofs.Common.{◌≡◌, ◌≢◌, ℕ, zero, suc, ◌+◌, ◌-◌, ◌^◌, ◌<◌, ◌≤◌, false, true, eqb, ltb, List, [], ◌∷◌, ◌++◌, length, take, drop, get_or, Ok, Err, ℤ, pos, refl, sym, ap, ◌∙◌, append_assoc, arith, inl, inr}
use Rattle.std.specs.Int.{w64}
use Rattle.std.specs.Int.RustNames.{FitsSigned}
use Rattle.std.specs.List.{AllByRecursion, flat_map}
use Rattle.std.specs.Str.{bytes_eq}
use Rattle.std.proofs.lemmas.Bool.{cases_lt, le-ltb, lt-ltb, ne_eqb}
use Rattle.std.proofs.lemmas.List.{append-nil, drop_at, length-append, take-append-le, length-take-le}
use Rattle.std.proofs.lemmas.Slice.Eq.{bytes_eq-Decides}
use Rattle.byteorder.specs.Endian.{big_number}
use Rattle.cpl_fixed.specs.Results.{◌>>=◌}
use Rattle.cpl_xgrid.specs.declared.grid.Grid.{Grid}
use Rattle.cpl_restart.specs.Lawful.{judged}
use Rattle.cpl_restart.specs.Numbers.{number_bytes, section_bytes}
use Rattle.cpl_restart.specs.Sections.{section_at, wrapped_sum, after_sum, nothing_after}
use Rattle.cpl_restart.specs.RestartBytes.{HasSections, after_sum_in, count_of, counts_of, elapsed_at, elapsed_bytes, first_mark, front_bytes, mark_of, second_mark, section_of, sections_at, sections_of, state_at, sum_bytes, summed_at, summed_bytes, version_at, whole_bytes, whole_of, whole_with}
use Rattle.cpl_restart.specs.declared.start_error.StartError.{StartError}
use Rattle.cpl_restart.specs.declared.start_error.StartError.TheVariants.{Short, Magic, Shape, Sum, Trailing}
use Rattle.cpl_restart.specs.declared.version.Version.{Version}
use Rattle.cpl_restart.specs.declared.version.Version.TheVariants.{First, Second}
use Rattle.cpl_state.specs.declared.whole.Whole.{Whole}
use Rattle.cpl_restart.proofs.Faults.{take_past}
use Rattle.cpl_restart.proofs.Parts.{IsSection, bind_at, bind_err, more_behind, not_true, section_again, section_shape, section_short}
use Rattle.cpl_restart.proofs.RestartLaws.{ended, with_elapsed, with_state}
use Rattle.cpl_restart.proofs.RestartParts.{AreSections, elapsed_again, sections_again, summed_again, version_again}
use Rattle.cpl_restart.proofs.SectionSteps.{none_left, opened, with_first}
use Rattle.cpl_restart.proofs.Words.{count_back, length-number_bytes, number_back}

-- ---- one section

sum_other : (section found stated : ℕ) (rest : List ℕ) → stated < 2 ^ 64 → stated ≢ found → after_sum section found (number_bytes (pos stated) ++ rest) ≡ Err (Sum section stated found)
sum_other section found stated rest small ne =
    let word = number_bytes (pos stated) in
    let long : ltb (length (word ++ rest)) 8 ≡ false = le-ltb _ _ (omega (arith, length-append word rest, length-number_bytes (pos stated))) in
    let is : big_number 8 (word ++ rest) ≡ stated = count_back stated rest small in
    let differs : eqb stated found ≡ false = ne_eqb _ _ ne in
    rw (long, is, differs) refl

sum_short : (version : Version) (section : ℕ) (xs : List ℤ) (m : ℕ) → m < length (sum_bytes version xs) → after_sum_in version section xs (take m (sum_bytes version xs)) ≡ Err Short
sum_short First section xs m lt = absurd (omega arith)
sum_short Second section xs m lt =
    let word = number_bytes (pos (wrapped_sum xs)) in
    let size : length word ≡ 8 = length-number_bytes (pos (wrapped_sum xs)) in
    let short : ltb (length (take m word)) 8 ≡ true = lt-ltb _ _ (omega (arith, length-take-le m word (omega arith))) in
    rw short refl

abbrev counted : List ℤ → List ℤ
counted xs = pos (length xs) ∷ xs

-- a section without its sum was read
summed_opened : (version : Version) (section n : ℕ) (xs : List ℤ) (bytes : List ℕ) → n < 2 ^ 64 → IsSection n xs
    → summed_at version section n (section_bytes xs ++ bytes) ≡ (after_sum_in version section (counted xs) bytes >>= λ rest. Ok (xs, rest))
unfolding summed_at
summed_opened version section n xs bytes small is =
    bind_at (section_at section n (section_bytes xs ++ bytes)) (xs, bytes) (λ y. after_sum_in version section (counted y.0) y.1 >>= λ rest. Ok (y.0, rest)) (section_again section n xs bytes small is)

section_fails : (version : Version) (section n : ℕ) (bytes : List ℕ) (e : StartError) → section_at section n bytes ≡ Err e → summed_at version section n bytes ≡ Err e
unfolding summed_at
section_fails version section n bytes e fails = bind_err (section_at section n bytes) e (λ y. after_sum_in version section (counted y.0) y.1 >>= λ rest. Ok (y.0, rest)) fails

summed_short : (version : Version) (section n : ℕ) (xs : List ℤ) (m : ℕ) → n < 2 ^ 64 → IsSection n xs → m < length (summed_bytes version xs) → summed_at version section n (take m (summed_bytes version xs)) ≡ Err Short
summed_short version section n xs m small is lt =
    let text = section_bytes xs in
    let sum = sum_bytes version (counted xs) in
    elim (cases_lt m (length text)) [
      | inl few ↦ ap (summed_at version section n) (take-append-le m text sum (omega arith)) ∙ section_fails version section n (take m text) Short (section_short section n xs m small is few)
      | inr le ↦
          ap (summed_at version section n) (take_past text sum m le)
          ∙ summed_opened version section n xs (take (m - length text) sum) small is
          ∙ bind_err (after_sum_in version section (counted xs) (take (m - length text) sum)) Short (λ rest. Ok (xs, rest)) (sum_short version section (counted xs) (m - length text) (omega (arith, length-append text sum)))
    ]

-- ---- several sections

first_fails : (version : Version) (section n : ℕ) (counts : List ℕ) (bytes : List ℕ) (e : StartError) → summed_at version section n bytes ≡ Err e → sections_at version section (n ∷ counts) bytes ≡ Err e
unfolding sections_at
first_fails version section n counts bytes e fails = bind_err (summed_at version section n bytes) e (λ first. with_first first.0 (sections_at version (section + 1) counts first.1)) fails

next_fails : (version : Version) (section n : ℕ) (counts : List ℕ) (xs : List ℤ) (rest : List ℕ) (e : StartError) → n < 2 ^ 32 → IsSection n xs → sections_at version (section + 1) counts rest ≡ Err e
    → sections_at version section (n ∷ counts) (summed_bytes version xs ++ rest) ≡ Err e
next_fails version section n counts xs rest e small is fails =
    opened version section n counts (summed_bytes version xs ++ rest) (xs, rest) (summed_again version section n xs rest (omega arith) is) ∙ ap (with_first xs) fails

at_fails : (version : Version) (section k : ℕ) (counts : List ℕ) (bytes : List ℕ) (e : StartError) → k < length counts → summed_at version section (get_or counts k 0) bytes ≡ Err e → sections_at version section (drop k counts) bytes ≡ Err e
at_fails version section k [] bytes e lt fails = absurd (omega arith)
at_fails version section zero (n ∷ counts) bytes e lt fails = first_fails version section n counts bytes e fails
at_fails version section (suc k) (n ∷ counts) bytes e lt fails = at_fails version section k counts bytes e (omega arith) fails

past_fails : (version : Version) (section k : ℕ) (counts : List ℕ) (sections : List (List ℤ)) (rest : List ℕ) (e : StartError) → AllByRecursion (λ n. n < 2 ^ 32) counts → AreSections counts sections
    → sections_at version (section + k) (drop k counts) rest ≡ Err e → sections_at version section counts (flat_map (summed_bytes version) (take k sections) ++ rest) ≡ Err e
unfolding AreSections
past_fails version section k [] (xs ∷ sections) rest e small are fails = absurd are
past_fails version section k (n ∷ counts) [] rest e small are fails = absurd are
past_fails version section zero [] [] rest e small are fails =
    let same : section ≡ section + 0 = omega arith in
    ap (λ (s : ℕ). sections_at version s [] rest) same ∙ fails
past_fails version section (suc k) [] [] rest e small are fails = absurd (let h = none_left version (section + suc k) rest in cc)
past_fails version section zero (n ∷ counts) (xs ∷ sections) rest e small are fails =
    let same : section ≡ section + 0 = omega arith in
    ap (λ (s : ℕ). sections_at version s (n ∷ counts) rest) same ∙ fails
past_fails version section (suc k) (n ∷ counts) (xs ∷ sections) rest e small are fails =
    let front = flat_map (summed_bytes version) (take k sections) in
    let same : (section + 1) + k ≡ section + suc k = omega arith in
    let later : sections_at version (section + 1) counts (front ++ rest) ≡ Err e = past_fails version (section + 1) k counts sections rest e small.1 are.1 (ap (λ (s : ℕ). sections_at version s (drop k counts) rest) same ∙ fails) in
    ap (sections_at version section (n ∷ counts)) (append_assoc (summed_bytes version xs) front rest) ∙ next_fails version section n counts xs (front ++ rest) e small.0 are.0 later

sections_short : (version : Version) (section : ℕ) (counts : List ℕ) (sections : List (List ℤ)) (m : ℕ) → AllByRecursion (λ n. n < 2 ^ 32) counts → AreSections counts sections
    → m < length (flat_map (summed_bytes version) sections) → sections_at version section counts (take m (flat_map (summed_bytes version) sections)) ≡ Err Short
unfolding AreSections
sections_short version section [] [] m small are lt = absurd (omega arith)
sections_short version section [] (xs ∷ sections) m small are lt = absurd are
sections_short version section (n ∷ counts) [] m small are lt = absurd are
sections_short version section (n ∷ counts) (xs ∷ sections) m small are lt =
    let first = summed_bytes version xs in
    let later = flat_map (summed_bytes version) sections in
    let few = small.0 in
    elim (cases_lt m (length first)) [
      | inl lt ↦ ap (sections_at version section (n ∷ counts)) (take-append-le m first later (omega arith)) ∙ first_fails version section n counts (take m first) Short (summed_short version section n xs m (omega arith) are.0 lt)
      | inr le ↦
          ap (sections_at version section (n ∷ counts)) (take_past first later m le)
          ∙ next_fails version section n counts xs (take (m - length first) later) Short small.0 are.0 (sections_short version (section + 1) counts sections (m - length first) small.1 are.1 (omega (arith, length-append first later)))
    ]

-- ---- the whole file

is_sections : (grid : Grid) (whole : Whole) → HasSections grid whole → AreSections (counts_of grid) (sections_of whole)
unfolding AreSections
is_sections grid whole has = (record { count = has.lengths.air_heat; each = has.each.0 }, (record { count = has.lengths.air_vapour; each = has.each.1.0 }, (record { count = has.lengths.air_sun; each = has.each.1.1.0 }, (record { count = has.lengths.land_heat; each = has.each.1.1.1.0 }, (record { count = has.lengths.land_water; each = has.each.1.1.1.1.0 }, (record { count = has.lengths.parts; each = has.each.1.1.1.1.1.0 }, (record { count = has.lengths.ice; each = has.each.1.1.1.1.1.1.0 }, (record { count = has.lengths.ice_heat; each = has.each.1.1.1.1.1.1.1.0 }, (record { count = has.lengths.water; each = has.each.1.1.1.1.1.1.1.1.0 }, (record { count = has.lengths.heat; each = has.each.1.1.1.1.1.1.1.1.1.0 }, (record { count = has.lengths.salt; each = has.each.1.1.1.1.1.1.1.1.1.1.0 }, (record { count = has.lengths.faces; each = has.each.1.1.1.1.1.1.1.1.1.1.1.0 }, (record { count = has.lengths.to_ice; each = has.each.1.1.1.1.1.1.1.1.1.1.1.1.0 }, (record { count = has.lengths.to_ocean; each = has.each.1.1.1.1.1.1.1.1.1.1.1.1.1.0 }, tt))))))))))))))

state_fails : (grid : Grid) (version : Version) (elapsed : ℤ) (bytes : List ℕ) (e : StartError) → sections_at version 1 (counts_of grid) bytes ≡ Err e → state_at grid version elapsed bytes ≡ Err e
unfolding state_at
state_fails grid version elapsed bytes e fails = bind_err (sections_at version 1 (counts_of grid) bytes) e (λ sections. Ok (whole_with elapsed sections.0, sections.1)) fails

state_is : (grid : Grid) (version : Version) (whole : Whole) (rest : List ℕ) → HasSections grid whole → state_at grid version whole.elapsed (flat_map (summed_bytes version) (sections_of whole) ++ rest) ≡ Ok (whole, rest)
unfolding state_at
state_is grid version whole rest has =
    bind_at (sections_at version 1 (counts_of grid) (flat_map (summed_bytes version) (sections_of whole) ++ rest)) (sections_of whole, rest) (λ sections. Ok (whole_with whole.elapsed sections.0, sections.1))
    (sections_again version 1 (counts_of grid) (sections_of whole) rest has.small (is_sections grid whole has))

marked : (grid : Grid) (version : Version) (rest : List ℕ) → whole_of grid (mark_of version ++ rest) ≡ with_elapsed grid version rest
unfolding whole_of
marked grid version rest = bind_at (version_at (mark_of version ++ rest)) (version, rest) (λ start. with_elapsed grid start.0 start.1) (version_again version rest)

timed : (grid : Grid) (version : Version) (elapsed : ℤ) (rest : List ℕ) → FitsSigned w64 elapsed → with_elapsed grid version (elapsed_bytes version elapsed ++ rest) ≡ with_state grid version elapsed rest
timed grid version elapsed rest fits = bind_at (elapsed_at version (elapsed_bytes version elapsed ++ rest)) (elapsed, rest) (λ x. with_state grid version x.0 x.1) (elapsed_again version elapsed rest fits)

-- what stands behind the elapsed seconds
behind : (grid : Grid) (version : Version) (elapsed : ℤ) (rest : List ℕ) → FitsSigned w64 elapsed → whole_of grid ((mark_of version ++ elapsed_bytes version elapsed) ++ rest) ≡ with_state grid version elapsed rest
behind grid version elapsed rest fits =
    ap (whole_of grid) (append_assoc (mark_of version) (elapsed_bytes version elapsed) rest) ∙ marked grid version (elapsed_bytes version elapsed ++ rest) ∙ timed grid version elapsed rest fits

sections_fail : (grid : Grid) (version : Version) (elapsed : ℤ) (bytes : List ℕ) (e : StartError) → sections_at version 1 (counts_of grid) bytes ≡ Err e → with_state grid version elapsed bytes ≡ Err e
sections_fail grid version elapsed bytes e fails = bind_err (state_at grid version elapsed bytes) e (λ state. ended grid state.0 state.1) (state_fails grid version elapsed bytes e fails)

front_fails : (grid : Grid) (version : Version) (whole : Whole) (k : ℕ) (rest : List ℕ) (e : StartError) → HasSections grid whole → k < 14 → summed_at version (1 + k) (count_of grid k) rest ≡ Err e
    → whole_of grid (front_bytes version whole k ++ rest) ≡ Err e
unfolding front_bytes
front_fails grid version whole k rest e has lt fails =
    let head = mark_of version ++ elapsed_bytes version whole.elapsed in
    let front = flat_map (summed_bytes version) (take k (sections_of whole)) in
    ap (whole_of grid) (append_assoc head front rest)
    ∙ behind grid version whole.elapsed (front ++ rest) has.elapsed
    ∙ sections_fail grid version whole.elapsed (front ++ rest) e (past_fails version 1 k (counts_of grid) (sections_of whole) rest e has.small (is_sections grid whole has) (at_fails version (1 + k) k (counts_of grid) rest e (omega arith) fails))

whole_read : (grid : Grid) (version : Version) (whole : Whole) (more : List ℕ) → HasSections grid whole → whole_of grid (whole_bytes version whole ++ more) ≡ ended grid whole more
unfolding whole_bytes
whole_read grid version whole more has =
    let head = mark_of version ++ elapsed_bytes version whole.elapsed in
    let text = flat_map (summed_bytes version) (sections_of whole) in
    ap (whole_of grid) (append_assoc head text more)
    ∙ behind grid version whole.elapsed (text ++ more) has.elapsed
    ∙ bind_at (state_at grid version whole.elapsed (text ++ more)) (whole, more) (λ state. ended grid state.0 state.1) (state_is grid version whole more has)

-- ---- the faults

pub is_no_mark : (grid : Grid) (bytes : List ℕ) → length bytes < 8 → whole_of grid bytes ≡ Err Short
unfolding whole_of
is_no_mark grid bytes lt =
    let short : ltb (length bytes) 8 ≡ true = lt-ltb _ _ lt in
    let fails : version_at bytes ≡ Err Short = rw short refl in
    bind_err (version_at bytes) Short (λ start. with_elapsed grid start.0 start.1) fails

pub is_magic : (grid : Grid) (bytes : List ℕ) → 8 ≤ length bytes → take 8 bytes ≢ first_mark → take 8 bytes ≢ second_mark → whole_of grid bytes ≡ Err Magic
unfolding whole_of
is_magic grid bytes le first second =
    let long : ltb (length bytes) 8 ≡ false = le-ltb _ _ le in
    let other : bytes_eq (take 8 bytes) first_mark ≡ false = not_true (bytes_eq (take 8 bytes) first_mark) (λ e. first ((bytes_eq-Decides (take 8 bytes) first_mark).0 e)) in
    let too : bytes_eq (take 8 bytes) second_mark ≡ false = not_true (bytes_eq (take 8 bytes) second_mark) (λ e. second ((bytes_eq-Decides (take 8 bytes) second_mark).0 e)) in
    let fails : version_at bytes ≡ Err Magic = rw (long, other, too) refl in
    bind_err (version_at bytes) Magic (λ start. with_elapsed grid start.0 start.1) fails

-- the elapsed seconds without their sum were read
elapsed_opened : (version : Version) (elapsed : ℤ) (bytes : List ℕ) → FitsSigned w64 elapsed → elapsed_at version (number_bytes elapsed ++ bytes) ≡ (after_sum_in version 0 (elapsed ∷ []) bytes >>= λ rest. Ok (elapsed, rest))
elapsed_opened version elapsed bytes fits =
    let word = number_bytes elapsed in
    let long : ltb (length (word ++ bytes)) 8 ≡ false = le-ltb _ _ (omega (arith, length-append word bytes, length-number_bytes elapsed)) in
    rw (long, number_back elapsed bytes fits, drop_at word bytes 8 (length-number_bytes elapsed)) refl

pub is_elapsed : (grid : Grid) (stated : ℕ) (whole : Whole) (rest : List ℕ) → HasSections grid whole → stated < 2 ^ 64 → stated ≢ wrapped_sum (whole.elapsed ∷ [])
    → whole_of grid (second_mark ++ (number_bytes whole.elapsed ++ (number_bytes (pos stated) ++ rest))) ≡ Err (Sum 0 stated (wrapped_sum (whole.elapsed ∷ [])))
is_elapsed grid stated whole rest has small ne =
    let fault = Sum 0 stated (wrapped_sum (whole.elapsed ∷ [])) in
    let bytes = number_bytes (pos stated) ++ rest in
    let fails = elapsed_opened Second whole.elapsed bytes has.elapsed ∙ bind_err (after_sum_in Second 0 (whole.elapsed ∷ []) bytes) fault (λ rest. Ok (whole.elapsed, rest)) (sum_other 0 (wrapped_sum (whole.elapsed ∷ [])) stated rest small ne) in
    marked grid Second (number_bytes whole.elapsed ++ bytes) ∙ bind_err (elapsed_at Second (number_bytes whole.elapsed ++ bytes)) fault (λ x. with_state grid Second x.0 x.1) fails

pub is_shape : (grid : Grid) (version : Version) (k n : ℕ) (whole : Whole) (rest : List ℕ) → HasSections grid whole → k < 14 → n < 2 ^ 64 → n ≢ count_of grid k
    → whole_of grid (front_bytes version whole k ++ (number_bytes (pos n) ++ rest)) ≡ Err (Shape (1 + k))
is_shape grid version k n whole rest has lt small ne =
    front_fails grid version whole k (number_bytes (pos n) ++ rest) (Shape (1 + k)) has lt (section_fails version (1 + k) (count_of grid k) (number_bytes (pos n) ++ rest) (Shape (1 + k)) (section_shape (1 + k) (count_of grid k) n rest small ne))

section_here : (counts : List ℕ) (sections : List (List ℤ)) (k : ℕ) → AllByRecursion (λ n. n < 2 ^ 32) counts → AreSections counts sections → k < length counts → (get_or counts k 0 < 2 ^ 32) × IsSection (get_or counts k 0) (section_of sections k)
unfolding AreSections
section_here [] [] k small are lt = absurd (omega arith)
section_here [] (xs ∷ sections) k small are lt = absurd are
section_here (n ∷ counts) [] k small are lt = absurd are
section_here (n ∷ counts) (xs ∷ sections) zero small are lt = (small.0, are.0)
section_here (n ∷ counts) (xs ∷ sections) (suc k) small are lt = section_here counts sections k small.1 are.1 (omega arith)

pub is_sum : (grid : Grid) (k stated : ℕ) (whole : Whole) (rest : List ℕ) → HasSections grid whole → k < 14 → stated < 2 ^ 64 → stated ≢ wrapped_sum (counted (section_of (sections_of whole) k))
    → whole_of grid (front_bytes Second whole k ++ (section_bytes (section_of (sections_of whole) k) ++ (number_bytes (pos stated) ++ rest))) ≡ Err (Sum (1 + k) stated (wrapped_sum (counted (section_of (sections_of whole) k))))
is_sum grid k stated whole rest has lt small ne =
    let xs = section_of (sections_of whole) k in
    let fault = Sum (1 + k) stated (wrapped_sum (counted xs)) in
    let bytes = number_bytes (pos stated) ++ rest in
    let here = section_here (counts_of grid) (sections_of whole) k has.small (is_sections grid whole has) (omega arith) in
    let few = here.0 in
    front_fails grid Second whole k (section_bytes xs ++ bytes) fault has lt
    (summed_opened Second (1 + k) (count_of grid k) xs bytes (omega arith) here.1 ∙ bind_err (after_sum_in Second (1 + k) (counted xs) bytes) fault (λ rest. Ok (xs, rest)) (sum_other (1 + k) (wrapped_sum (counted xs)) stated rest small ne))

pub is_trailing : (grid : Grid) (version : Version) (whole : Whole) (more : List ℕ) → HasSections grid whole → 0 < length more → whole_of grid (whole_bytes version whole ++ more) ≡ Err Trailing
is_trailing grid version whole more has lt = whole_read grid version whole more has ∙ bind_err (nothing_after more) Trailing (λ end. judged grid whole >>= λ lawful. Ok whole) (more_behind more lt)

pub is_rule : (grid : Grid) (version : Version) (whole : Whole) (fault : StartError) → HasSections grid whole → judged grid whole ≡ Err fault → whole_of grid (whole_bytes version whole) ≡ Err fault
is_rule grid version whole fault has broken =
    ap (whole_of grid) (sym (append-nil (whole_bytes version whole))) ∙ whole_read grid version whole [] has ∙ bind_err (judged grid whole) fault (λ lawful. Ok whole) broken

-- ---- what is cut

elapsed_short : (version : Version) (elapsed : ℤ) (m : ℕ) → FitsSigned w64 elapsed → m < length (elapsed_bytes version elapsed) → elapsed_at version (take m (elapsed_bytes version elapsed)) ≡ Err Short
elapsed_short version elapsed m fits lt =
    let word = number_bytes elapsed in
    let sum = sum_bytes version (elapsed ∷ []) in
    let size : length word ≡ 8 = length-number_bytes elapsed in
    elim (cases_lt m 8) [
      | inl few ↦
          let short : ltb (length (take m (word ++ sum))) 8 ≡ true = lt-ltb _ _ (omega (arith, length-take-le m (word ++ sum) (omega arith))) in
          rw short refl
      | inr le ↦
          ap (elapsed_at version) (take_past word sum m (omega arith))
          ∙ elapsed_opened version elapsed (take (m - length word) sum) fits
          ∙ bind_err (after_sum_in version 0 (elapsed ∷ []) (take (m - length word) sum)) Short (λ rest. Ok (elapsed, rest)) (sum_short version 0 (elapsed ∷ []) (m - length word) (omega (arith, length-append word sum)))
    ]

rest_short : (grid : Grid) (version : Version) (whole : Whole) (m : ℕ) → HasSections grid whole → m < length (elapsed_bytes version whole.elapsed ++ flat_map (summed_bytes version) (sections_of whole))
    → with_elapsed grid version (take m (elapsed_bytes version whole.elapsed ++ flat_map (summed_bytes version) (sections_of whole))) ≡ Err Short
rest_short grid version whole m has lt =
    let first = elapsed_bytes version whole.elapsed in
    let text = flat_map (summed_bytes version) (sections_of whole) in
    elim (cases_lt m (length first)) [
      | inl few ↦
          ap (with_elapsed grid version) (take-append-le m first text (omega arith))
          ∙ bind_err (elapsed_at version (take m first)) Short (λ x. with_state grid version x.0 x.1) (elapsed_short version whole.elapsed m has.elapsed few)
      | inr le ↦
          ap (with_elapsed grid version) (take_past first text m le)
          ∙ timed grid version whole.elapsed (take (m - length first) text) has.elapsed
          ∙ sections_fail grid version whole.elapsed (take (m - length first) text) Short (sections_short version 1 (counts_of grid) (sections_of whole) (m - length first) has.small (is_sections grid whole has) (omega (arith, length-append first text)))
    ]

mark_size : (version : Version) → length (mark_of version) ≡ 8
mark_size First = refl
mark_size Second = refl

pub is_short : (grid : Grid) (version : Version) (n : ℕ) (whole : Whole) → HasSections grid whole → n < length (whole_bytes version whole) → whole_of grid (take n (whole_bytes version whole)) ≡ Err Short
unfolding whole_bytes
is_short grid version n whole has lt =
    let mark = mark_of version in
    let rest = elapsed_bytes version whole.elapsed ++ flat_map (summed_bytes version) (sections_of whole) in
    let grouped : whole_bytes version whole ≡ mark ++ rest = append_assoc mark (elapsed_bytes version whole.elapsed) (flat_map (summed_bytes version) (sections_of whole)) in
    let size : length (whole_bytes version whole) ≡ 8 + length rest = ap length grouped ∙ length-append mark rest ∙ ap (λ (k : ℕ). k + length rest) (mark_size version) in
    elim (cases_lt n 8) [
      | inl few ↦ is_no_mark grid (take n (whole_bytes version whole)) (omega (arith, length-take-le n (whole_bytes version whole) (omega arith)))
      | inr le ↦
          ap (λ (t : List ℕ). whole_of grid (take n t)) grouped
          ∙ ap (whole_of grid) (take_past mark rest n (omega (arith, mark_size version)))
          ∙ marked grid version (take (n - length mark) rest)
          ∙ rest_short grid version whole (n - length mark) has (omega (arith, mark_size version))
    ]
