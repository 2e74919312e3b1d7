-- A state that is read is lawful and spelled so, and a lawful state that is spelled so is read.
use Rattle.std.proofs.Common.{◌≡◌, ℕ, zero, suc, ◌^◌, ◌<◌, ◌≤◌, List, [], ◌∷◌, ◌++◌, length, get_or, Result, Ok, Err, ℤ, refl, sym, ap, subst, ◌∙◌, append_assoc, arith}
use Rattle.std.specs.Prelude.{IfOk, map}
use Rattle.std.specs.Int.{w64}
use Rattle.std.specs.Int.RustNames.{FitsSigned}
use Rattle.std.specs.List.{AllByRecursion, flat_map, range_with_len}
use Rattle.std.proofs.lemmas.List.{append-nil, ext_get_or}
use Rattle.std.proofs.lemmas.List.FromFn.{length-map-range_with_len, get_or-map-range_with_len}
use Rattle.cpl_fixed.specs.Results.{◌>>=◌, Fails}
use Rattle.cpl_xgrid.specs.declared.grid.Grid.{Grid}
use Rattle.cpl_restart.specs.Lawful.{judged}
use Rattle.cpl_restart.specs.Sections.{Reads, is_memory, nothing_after}
use Rattle.cpl_restart.specs.Counts.{AreCounts, AreShort}
use Rattle.cpl_state.specs.States.{HasLengths, IsWhole}
use Rattle.cpl_restart.specs.declared.counts.Counts.{Counts}
use Rattle.cpl_restart.specs.RestartBytes.{IsSpelled, counts_of, elapsed_at, elapsed_bytes, mark_of, section_of, sections_at, sections_of, state_at, summed_bytes, version_at, whole_bytes, whole_of, whole_with}
use Rattle.cpl_restart.specs.declared.start_error.StartError.{StartError}
use Rattle.cpl_restart.specs.declared.version.Version.{Version}
use Rattle.cpl_state.specs.declared.whole.Whole.{Whole}
use Rattle.cpl_restart.proofs.LawfulLaws.{AllFit, Knows, all_fit, is_lawful, lawful_is}
use Rattle.cpl_restart.proofs.Parts.{IsSection, Takes, Takes-then, bind_at, bind_ok, end_takes, ok_is}
use Rattle.cpl_restart.proofs.RestartParts.{AreSections, elapsed_again, elapsed_takes, sections_again, sections_take, version_again, version_takes}
use Rattle.cpl_restart.proofs.SectionSteps.{fails_more}
use Rattle.cpl_restart.proofs.Words.{IsBytes}

-- ---- sections and states

section_is : (counts : List ℕ) (sections : List (List ℤ)) (k : ℕ) → AreSections counts sections → k < length counts → IsSection (get_or counts k 0) (section_of sections k)
unfolding AreSections
section_is [] [] k are lt = absurd (omega arith)
section_is [] (xs ∷ sections) k are lt = absurd are
section_is (n ∷ counts) [] k are lt = absurd are
section_is (n ∷ counts) (xs ∷ sections) zero are lt = are.0
section_is (n ∷ counts) (xs ∷ sections) (suc k) are lt = section_is counts sections k are.1 (omega arith)

as_many : (counts : List ℕ) (sections : List (List ℤ)) → AreSections counts sections → length sections ≡ length counts
unfolding AreSections
as_many [] [] are = refl
as_many [] (xs ∷ sections) are = absurd are
as_many (n ∷ counts) [] are = absurd are
as_many (n ∷ counts) (xs ∷ sections) are = ap suc (as_many counts sections are.1)

-- the sections of a state that was made of sections
rebuilt : (elapsed : ℤ) (sections : List (List ℤ)) → length sections ≡ 14 → sections_of (whole_with elapsed sections) ≡ sections
rebuilt elapsed sections size =
    ext_get_or [] (map (section_of sections) (range_with_len 0 14)) sections (length-map-range_with_len (section_of sections) 0 14 ∙ sym size) (λ k lt.
    get_or-map-range_with_len (section_of sections) 0 14 k k [] (omega (arith, length-map-range_with_len (section_of sections) 0 14)) (omega arith))

state_lengths : (grid : Grid) (elapsed : ℤ) (sections : List (List ℤ)) → AreSections (counts_of grid) sections → HasLengths grid (whole_with elapsed sections)
state_lengths grid elapsed sections are = record {
  air_heat = (section_is (counts_of grid) sections 0 are (omega arith)).count;
  air_vapour = (section_is (counts_of grid) sections 1 are (omega arith)).count;
  air_sun = (section_is (counts_of grid) sections 2 are (omega arith)).count;
  land_heat = (section_is (counts_of grid) sections 3 are (omega arith)).count;
  land_water = (section_is (counts_of grid) sections 4 are (omega arith)).count;
  parts = (section_is (counts_of grid) sections 5 are (omega arith)).count;
  ice = (section_is (counts_of grid) sections 6 are (omega arith)).count;
  ice_heat = (section_is (counts_of grid) sections 7 are (omega arith)).count;
  water = (section_is (counts_of grid) sections 8 are (omega arith)).count;
  heat = (section_is (counts_of grid) sections 9 are (omega arith)).count;
  salt = (section_is (counts_of grid) sections 10 are (omega arith)).count;
  faces = (section_is (counts_of grid) sections 11 are (omega arith)).count;
  to_ice = (section_is (counts_of grid) sections 12 are (omega arith)).count;
  to_ocean = (section_is (counts_of grid) sections 13 are (omega arith)).count;
}

state_fits : (grid : Grid) (elapsed : ℤ) (sections : List (List ℤ)) → FitsSigned w64 elapsed → AreSections (counts_of grid) sections → AllFit (whole_with elapsed sections)
state_fits grid elapsed sections fits are = record {
  elapsed = fits;
  air_heat = (section_is (counts_of grid) sections 0 are (omega arith)).each;
  air_vapour = (section_is (counts_of grid) sections 1 are (omega arith)).each;
  air_sun = (section_is (counts_of grid) sections 2 are (omega arith)).each;
  land_heat = (section_is (counts_of grid) sections 3 are (omega arith)).each;
  land_water = (section_is (counts_of grid) sections 4 are (omega arith)).each;
  parts = (section_is (counts_of grid) sections 5 are (omega arith)).each;
  ice = (section_is (counts_of grid) sections 6 are (omega arith)).each;
  ice_heat = (section_is (counts_of grid) sections 7 are (omega arith)).each;
  water = (section_is (counts_of grid) sections 8 are (omega arith)).each;
  heat = (section_is (counts_of grid) sections 9 are (omega arith)).each;
  salt = (section_is (counts_of grid) sections 10 are (omega arith)).each;
  faces = (section_is (counts_of grid) sections 11 are (omega arith)).each;
  to_ice = (section_is (counts_of grid) sections 12 are (omega arith)).each;
  to_ocean = (section_is (counts_of grid) sections 13 are (omega arith)).each;
}

are_sections : (grid : Grid) (whole : Whole) → HasLengths grid whole → AllFit whole → AreSections (counts_of grid) (sections_of whole)
unfolding AreSections
are_sections grid whole lengths fits =
    (record { count = lengths.air_heat; each = fits.air_heat }, (record { count = lengths.air_vapour; each = fits.air_vapour }, (record { count = lengths.air_sun; each = fits.air_sun }, (record { count = lengths.land_heat; each = fits.land_heat }, (record { count = lengths.land_water; each = fits.land_water }, (record { count = lengths.parts; each = fits.parts }, (record { count = lengths.ice; each = fits.ice }, (record { count = lengths.ice_heat; each = fits.ice_heat }, (record { count = lengths.water; each = fits.water }, (record { count = lengths.heat; each = fits.heat }, (record { count = lengths.salt; each = fits.salt }, (record { count = lengths.faces; each = fits.faces }, (record { count = lengths.to_ice; each = fits.to_ice }, (record { count = lengths.to_ocean; each = fits.to_ocean }, tt))))))))))))))

-- what was read of all sections
record State (grid : Grid) (version : Version) (bytes : List ℕ) (x : Whole × List ℕ) : Type 0 where
  text : Takes bytes (flat_map (summed_bytes version) (sections_of x.0)) x.1
  lengths : HasLengths grid x.0
  fits : AllFit x.0

state_takes : (grid : Grid) (version : Version) (elapsed : ℤ) (bytes : List ℕ) (x : Whole × List ℕ) → IsBytes bytes → FitsSigned w64 elapsed → state_at grid version elapsed bytes ≡ Ok x
    → State grid version bytes x × (x.0.elapsed ≡ elapsed)
unfolding state_at
state_takes grid version elapsed bytes x fits small e =
    let a = bind_ok (sections_at version 1 (counts_of grid) bytes) (λ sections. Ok (whole_with elapsed sections.0, sections.1)) x e in
    let sections = a.0.0 in
    let read = sections_take version 1 (counts_of grid) bytes a.0 fits a.1 in
    let same = rebuilt elapsed sections (as_many (counts_of grid) sections read.1) in
    let text : Takes bytes (flat_map (summed_bytes version) (sections_of (whole_with elapsed sections))) a.0.1 = subst (λ (ss : List (List ℤ)). Takes bytes (flat_map (summed_bytes version) ss) a.0.1) (sym same) read.0 in
    subst (λ (y : Whole × List ℕ). State grid version bytes y × (y.0.elapsed ≡ elapsed)) (ok_is (whole_with elapsed sections, a.0.1) x a.2)
    (record { text = text; lengths = state_lengths grid elapsed sections read.1; fits = state_fits grid elapsed sections small read.1 }, refl)

all_smaller : (counts : List ℕ) → AllByRecursion (λ n. n ≤ 2 ^ 24) counts → AllByRecursion (λ n. n < 2 ^ 32) counts
all_smaller [] small = tt
all_smaller (n ∷ counts) small = (let h = small.0 in omega arith, all_smaller counts small.1)

state_again : (grid : Grid) (version : Version) (whole : Whole) (rest : List ℕ) → AllByRecursion (λ n. n ≤ 2 ^ 24) (counts_of grid) → HasLengths grid whole → AllFit whole
    → state_at grid version whole.elapsed (flat_map (summed_bytes version) (sections_of whole) ++ rest) ≡ Ok (whole, rest)
unfolding state_at
state_again grid version whole rest small lengths fits =
    bind_at (sections_at version 1 (counts_of grid) (flat_map (summed_bytes version) (sections_of whole) ++ rest)) (sections_of whole, rest) (λ sections. Ok (whole_with whole.elapsed sections.0, sections.1))
    (sections_again version 1 (counts_of grid) (sections_of whole) rest (all_smaller (counts_of grid) small) (are_sections grid whole lengths fits))

-- ---- the whole file

abbrev pub ended : Grid → Whole → List ℕ → Result Whole StartError
ended grid whole bytes = nothing_after bytes >>= λ end. judged grid whole >>= λ lawful. Ok whole

abbrev pub with_state : Grid → Version → ℤ → List ℕ → Result Whole StartError
with_state grid version elapsed bytes = state_at grid version elapsed bytes >>= λ state. ended grid state.0 state.1

abbrev pub with_elapsed : Grid → Version → List ℕ → Result Whole StartError
with_elapsed grid version bytes = elapsed_at version bytes >>= λ elapsed. with_state grid version elapsed.0 elapsed.1

-- the lengths of what is read, for the rules
pub read_lengths : (grid : Grid) (bytes : List ℕ) (a : Version × List ℕ) (b : ℤ × List ℕ) (elapsed : ℤ) (x : Whole × List ℕ) → IsBytes bytes → version_at bytes ≡ Ok a → elapsed_at a.0 a.1 ≡ Ok b
    → state_at grid a.0 elapsed b.1 ≡ Ok x → HasLengths grid x.0
unfolding state_at
read_lengths grid bytes a b elapsed x fits first second third =
    let mark = version_takes bytes a fits first in
    let seconds = elapsed_takes a.0 a.1 b mark.rest_fits second in
    let s = bind_ok (sections_at a.0 1 (counts_of grid) b.1) (λ sections. Ok (whole_with elapsed sections.0, sections.1)) x third in
    let read = sections_take a.0 1 (counts_of grid) b.1 s.0 seconds.0.rest_fits s.1 in
    subst (λ (y : Whole × List ℕ). HasLengths grid y.0) (ok_is (whole_with elapsed s.0.0, s.0.1) x s.2) (state_lengths grid elapsed s.0.0 read.1)

pub are_short : (grid : Grid) (counts : Counts) (whole : Whole) → AreCounts grid counts → HasLengths grid whole → AreShort whole
are_short grid counts whole are lengths =
    let small : AllByRecursion (λ n. n ≤ 2 ^ 24) (counts_of grid) = subst (AllByRecursion (λ n. n ≤ 2 ^ 24)) are.are are.small in
    record {
      air_heat = rw lengths.air_heat small.0;
      air_vapour = rw lengths.air_vapour small.1.0;
      air_sun = rw lengths.air_sun small.1.1.0;
      land_heat = rw lengths.land_heat small.1.1.1.0;
      land_water = rw lengths.land_water small.1.1.1.1.0;
      parts = rw lengths.parts small.1.1.1.1.1.0;
      ice = rw lengths.ice small.1.1.1.1.1.1.0;
      ice_heat = rw lengths.ice_heat small.1.1.1.1.1.1.1.0;
      water = rw lengths.water small.1.1.1.1.1.1.1.1.0;
      heat = rw lengths.heat small.1.1.1.1.1.1.1.1.1.0;
      salt = rw lengths.salt small.1.1.1.1.1.1.1.1.1.1.0;
      faces = rw lengths.faces small.1.1.1.1.1.1.1.1.1.1.1.0;
      to_ice = rw lengths.to_ice small.1.1.1.1.1.1.1.1.1.1.1.1.0;
      to_ocean = rw lengths.to_ocean small.1.1.1.1.1.1.1.1.1.1.1.1.1.0;
    }

-- a file whose sections were read, by what stands behind them and by the rules
pub whole_opened : (grid : Grid) (bytes : List ℕ) (a : Version × List ℕ) (b : ℤ × List ℕ) (elapsed : ℤ) (x : Whole × List ℕ) → IsBytes bytes → version_at bytes ≡ Ok a → elapsed_at a.0 a.1 ≡ Ok b
    → (FitsSigned w64 b.0 → elapsed ≡ b.0) → state_at grid a.0 elapsed b.1 ≡ Ok x → whole_of grid bytes ≡ ended grid x.0 x.1
unfolding whole_of
whole_opened grid bytes a b elapsed x fits first second back third =
    let mark = version_takes bytes a fits first in
    let seconds = elapsed_takes a.0 a.1 b mark.rest_fits second in
    let same : state_at grid a.0 b.0 b.1 ≡ Ok x = ap (λ (e : ℤ). state_at grid a.0 e b.1) (sym (back seconds.1)) ∙ third in
    bind_at (version_at bytes) a (λ start. with_elapsed grid start.0 start.1) first
    ∙ bind_at (elapsed_at a.0 a.1) b (λ y. with_state grid a.0 y.0 y.1) second
    ∙ bind_at (state_at grid a.0 b.0 b.1) x (λ y. ended grid y.0 y.1) same

pub end_fails : (e : StartError) (grid : Grid) (bytes : List ℕ) (whole : Whole) (rest : List ℕ) → whole_of grid bytes ≡ ended grid whole rest → Fails is_memory e (nothing_after rest) → Fails is_memory e (whole_of grid bytes)
end_fails e grid bytes whole rest opened fails =
    fails_more e (nothing_after rest) (whole_of grid bytes) (λ h. opened ∙ ap (λ (q : Result (Unit {0}) StartError). q >>= λ end. judged grid whole >>= λ lawful. Ok whole) h) fails

pub rule_fails : (e : StartError) (grid : Grid) (bytes : List ℕ) (whole : Whole) (rest : List ℕ) → whole_of grid bytes ≡ ended grid whole rest → nothing_after rest ≡ Ok tt → Fails is_memory e (judged grid whole) → Fails is_memory e (whole_of grid bytes)
rule_fails e grid bytes whole rest opened end fails =
    fails_more e (judged grid whole) (whole_of grid bytes)
    (λ h. opened ∙ bind_at (nothing_after rest) tt (λ end. judged grid whole >>= λ lawful. Ok whole) end ∙ ap (λ (q : Result (Unit {0}) StartError). q >>= λ lawful. Ok whole) h) fails

pub whole_takes : (grid : Grid) (bytes : List ℕ) (whole : Whole) → IsBytes bytes → whole_of grid bytes ≡ Ok whole → IsWhole grid whole × IsSpelled bytes whole
unfolding whole_of whole_bytes
whole_takes grid bytes whole fits e =
    let a = bind_ok (version_at bytes) (λ start. with_elapsed grid start.0 start.1) whole e in
    let version = a.0.0 in
    let b = bind_ok (elapsed_at version a.0.1) (λ elapsed. with_state grid version elapsed.0 elapsed.1) whole a.2 in
    let elapsed = b.0.0 in
    let s = bind_ok (state_at grid version elapsed b.0.1) (λ state. ended grid state.0 state.1) whole b.2 in
    let made = s.0.0 in
    let d = bind_ok (nothing_after s.0.1) (λ end. judged grid made >>= λ lawful. Ok made) whole s.2 in
    let j = bind_ok (judged grid made) (λ lawful. Ok made) whole d.2 in
    let mark = version_takes bytes a.0 fits a.1 in
    let first = elapsed_takes version a.0.1 b.0 mark.rest_fits b.1 in
    let state = state_takes grid version elapsed b.0.1 s.0 first.0.rest_fits first.1 s.1 in
    let two = Takes-then bytes (mark_of version) a.0.1 (elapsed_bytes version elapsed) b.0.1 mark first.0 in
    let text = flat_map (summed_bytes version) (sections_of made) in
    let three = Takes-then bytes (mark_of version ++ elapsed_bytes version elapsed) b.0.1 text s.0.1 two state.0.text in
    let spelled : bytes ≡ whole_bytes version made =
    three.parts ∙ ap (λ (r : List ℕ). ((mark_of version ++ elapsed_bytes version elapsed) ++ text) ++ r) (end_takes s.0.1 d.1) ∙ append-nil ((mark_of version ++ elapsed_bytes version elapsed) ++ text)
    ∙ ap (λ (x : ℤ). (mark_of version ++ elapsed_bytes version x) ++ text) (sym state.1) in
    subst (λ (w : Whole). IsWhole grid w × IsSpelled bytes w) (ok_is made whole j.2) (lawful_is grid made state.0.lengths state.0.fits j.1, (version, spelled))

pub whole_again : (grid : Grid) (version : Version) (whole : Whole) → AllByRecursion (λ n. n ≤ 2 ^ 24) (counts_of grid) → Knows grid → IsWhole grid whole → whole_of grid (whole_bytes version whole) ≡ Ok whole
unfolding whole_of whole_bytes
whole_again grid version whole small knows is =
    let mark = mark_of version in
    let elapsed = elapsed_bytes version whole.elapsed in
    let text = flat_map (summed_bytes version) (sections_of whole) in
    let fits = all_fit grid whole is in
    let grouped : (mark ++ elapsed) ++ text ≡ mark ++ (elapsed ++ (text ++ [])) = append_assoc mark elapsed text ∙ ap (λ (r : List ℕ). mark ++ (elapsed ++ r)) (sym (append-nil text)) in
    ap (whole_of grid) grouped
    ∙ bind_at (version_at (mark ++ (elapsed ++ (text ++ [])))) (version, elapsed ++ (text ++ [])) (λ start. with_elapsed grid start.0 start.1) (version_again version (elapsed ++ (text ++ [])))
    ∙ bind_at (elapsed_at version (elapsed ++ (text ++ []))) (whole.elapsed, text ++ []) (λ x. with_state grid version x.0 x.1) (elapsed_again version whole.elapsed (text ++ []) fits.elapsed)
    ∙ bind_at (state_at grid version whole.elapsed (text ++ [])) (whole, []) (λ x. ended grid x.0 x.1) (state_again grid version whole [] small is.lengths fits)
    ∙ bind_at (judged grid whole) tt (λ lawful. Ok whole) (is_lawful grid whole knows is)

-- ---- the same of what a reader returned

pub is_whole : (grid : Grid) (bytes : List ℕ) (r : Result Whole StartError) → IsBytes bytes → Reads (λ (whole : Whole). whole) r (whole_of grid bytes) → IfOk r (IsWhole grid)
is_whole grid bytes (Ok whole) fits given = (whole_takes grid bytes whole fits given).0
is_whole grid bytes (Err e) fits given = tt

pub is_spelled : (grid : Grid) (bytes : List ℕ) (r : Result Whole StartError) → IsBytes bytes → Reads (λ (whole : Whole). whole) r (whole_of grid bytes) → IfOk r (λ whole. IsSpelled bytes whole)
is_spelled grid bytes (Ok whole) fits given = (whole_takes grid bytes whole fits given).1
is_spelled grid bytes (Err e) fits given = tt

pub only_this : (grid : Grid) (bytes : List ℕ) (r : Result Whole StartError) (whole : Whole) → AllByRecursion (λ n. n ≤ 2 ^ 24) (counts_of grid) → Knows grid → IsWhole grid whole → IsSpelled bytes whole
    → Reads (λ (whole : Whole). whole) r (whole_of grid bytes) → Reads (λ (whole : Whole). whole) r (Ok whole)
only_this grid bytes r whole small knows is spelled given =
    subst (λ (answer : Result Whole StartError). Reads (λ (whole : Whole). whole) r answer) (ap (whole_of grid) spelled.1 ∙ whole_again grid spelled.0 whole small knows is) given

pub reads_back : (grid : Grid) (version : Version) (r : List ℕ) (whole : Whole) → AllByRecursion (λ n. n ≤ 2 ^ 24) (counts_of grid) → Knows grid → IsWhole grid whole → r ≡ whole_bytes version whole → whole_of grid r ≡ Ok whole
reads_back grid version r whole small knows is e = ap (whole_of grid) e ∙ whole_again grid version whole small knows is
