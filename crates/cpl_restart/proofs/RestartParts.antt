-- The parts of a restart: what is read is spelled so, and what is spelled so is read.
use Rattle.std.proofs.Common.{◌≡◌, ℕ, ◌+◌, ◌^◌, ◌<◌, ◌≤◌, true, false, cond, eqb, ltb, List, [], ◌∷◌, ◌++◌, length, take, drop, Result, Ok, Err, ℤ, pos, refl, sym, ap, subst, ◌∙◌, append_assoc, eq-eqb, arith, inl, inr}
use Rattle.std.specs.Int.{cast_signed, cast_unsigned, w64}
use Rattle.std.specs.Int.RustNames.{FitsSigned}
use Rattle.std.specs.List.{AllByRecursion, flat_map}
use Rattle.std.specs.Str.{bytes_eq}
use Rattle.std.proofs.lemmas.Bool.{ltb-false, le-ltb, eqb-true, cases_Bool, cond-true, cond-false}
use Rattle.std.proofs.lemmas.Int.{of_z-to_z}
use Rattle.std.proofs.lemmas.List.{drop_at, take-append-drop, length-append}
use Rattle.std.proofs.lemmas.Nat.{mod_below}
use Rattle.std.proofs.lemmas.Slice.Eq.{bytes_eq-Decides}
use Rattle.byteorder.specs.Endian.{big_number, big_bytes}
use Rattle.cpl_fixed.specs.Results.{◌>>=◌}
use Rattle.cpl_restart.specs.Numbers.{number_bytes, number_in, section_bytes}
use Rattle.cpl_restart.specs.Sections.{section_at, wrapped_sum}
use Rattle.cpl_restart.specs.RestartBytes.{first_mark, second_mark, mark_of, sum_bytes, elapsed_bytes, summed_bytes, version_at, after_sum_in, elapsed_at, summed_at, sections_at}
use Rattle.cpl_restart.specs.declared.start_error.StartError.{StartError}
use Rattle.cpl_restart.specs.declared.start_error.StartError.TheVariants.{Short, Magic, Sum}
use Rattle.cpl_restart.specs.declared.version.Version.{Version}
use Rattle.cpl_restart.specs.declared.version.Version.TheVariants.{First, Second}
use Rattle.cpl_restart.proofs.Parts.{Takes, Takes-then, IsSection, bind_at, bind_ok, ok_is, refused_ok, asked_ok, section_takes, section_again}
use Rattle.cpl_restart.proofs.SectionSteps.{none_left, read_on, with_first}
use Rattle.cpl_restart.proofs.Words.{IsBytes, IsBytes-drop, length-number_bytes, number_again, number_back, number_fits, count_again, count_back}

-- ---- sums

pub sum_small : (xs : List ℤ) → wrapped_sum xs < 2 ^ 64
sum_small xs = mod_below _ (2 ^ 64) (omega arith)

sum_takes : (version : Version) (section : ℕ) (xs : List ℤ) (bytes rest : List ℕ) → IsBytes bytes → after_sum_in version section xs bytes ≡ Ok rest → Takes bytes (sum_bytes version xs) rest
sum_takes First section xs bytes rest fits e = subst (Takes bytes []) (ok_is bytes rest e) (record { parts = refl; rest_fits = fits })
sum_takes Second section xs bytes rest fits e =
    let found = wrapped_sum xs in
    let a = refused_ok (ltb (length bytes) 8) Short (cond (eqb (big_number 8 bytes) found) (Ok (drop 8 bytes)) (Err (Sum section (big_number 8 bytes) found))) rest e in
    let b = asked_ok (eqb (big_number 8 bytes) found) (Ok (drop 8 bytes)) (Sum section (big_number 8 bytes) found) rest a.1 in
    let long : 8 ≤ length bytes = ltb-false _ _ a.0 in
    let is : number_bytes (pos found) ≡ take 8 bytes = count_again found bytes long fits (eqb-true _ _ b.0) in
    let whole : Takes bytes (number_bytes (pos found)) (drop 8 bytes) = record { parts = sym (take-append-drop 8 bytes) ∙ ap (λ (w : List ℕ). w ++ drop 8 bytes) (sym is); rest_fits = IsBytes-drop 8 bytes fits } in
    subst (Takes bytes (number_bytes (pos found))) (ok_is (drop 8 bytes) rest b.1) whole

pub sum_again : (version : Version) (section : ℕ) (xs : List ℤ) (rest : List ℕ) → after_sum_in version section xs (sum_bytes version xs ++ rest) ≡ Ok rest
sum_again First section xs rest = refl
sum_again Second section xs rest =
    let found = wrapped_sum xs in
    let word = number_bytes (pos found) in
    let len : length word ≡ 8 = length-number_bytes (pos found) in
    let long : ltb (length (word ++ rest)) 8 ≡ false = le-ltb _ _ (omega (arith, length-append word rest)) in
    let same : eqb (big_number 8 (word ++ rest)) found ≡ true = eq-eqb _ _ (count_back found rest (sum_small xs)) in
    rw (long, same, drop_at word rest 8 len) refl

-- a sum that was written as a signed number
pub again_word : (n : ℕ) (x : ℤ) → n < 2 ^ 64 → x ≡ cast_signed w64 n → number_bytes (cast_signed w64 (cast_unsigned w64 x)) ≡ number_bytes (pos n)
unfolding number_bytes
again_word n x small e =
    let same : cast_unsigned w64 x ≡ n = ap (cast_unsigned w64) e ∙ of_z-to_z w64 n small in
    ap (λ (m : ℕ). big_bytes 8 (cast_unsigned w64 (cast_signed w64 m))) same ∙ ap (big_bytes 8) (of_z-to_z w64 n small)

-- ---- sections with their sums

pub summed_takes : (version : Version) (section n : ℕ) (bytes : List ℕ) (x : List ℤ × List ℕ) → IsBytes bytes → summed_at version section n bytes ≡ Ok x → Takes bytes (summed_bytes version x.0) x.1 × IsSection n x.0
unfolding summed_at
summed_takes version section n bytes x fits e =
    let a = bind_ok (section_at section n bytes) (λ y. after_sum_in version section (pos (length y.0) ∷ y.0) y.1 >>= λ rest. Ok (y.0, rest)) x e in
    let numbers = a.0.0 in
    let b = bind_ok (after_sum_in version section (pos (length numbers) ∷ numbers) a.0.1) (λ rest. Ok (numbers, rest)) x a.2 in
    let first = section_takes section n bytes a.0 fits a.1 in
    let second = sum_takes version section (pos (length numbers) ∷ numbers) a.0.1 b.0 first.0.rest_fits b.1 in
    let both = Takes-then bytes (section_bytes numbers) a.0.1 (sum_bytes version (pos (length numbers) ∷ numbers)) b.0 first.0 second in
    subst (λ (y : List ℤ × List ℕ). Takes bytes (summed_bytes version y.0) y.1 × IsSection n y.0) (ok_is (numbers, b.0) x b.2) (both, first.1)

pub summed_again : (version : Version) (section n : ℕ) (xs : List ℤ) (rest : List ℕ) → n < 2 ^ 64 → IsSection n xs → summed_at version section n (summed_bytes version xs ++ rest) ≡ Ok (xs, rest)
unfolding summed_at
summed_again version section n xs rest small is =
    let sum = sum_bytes version (pos (length xs) ∷ xs) in
    let grouped : summed_bytes version xs ++ rest ≡ section_bytes xs ++ (sum ++ rest) = append_assoc (section_bytes xs) sum rest in
    let read = section_again section n xs (sum ++ rest) small is in
    ap (summed_at version section n) grouped
    ∙ bind_at (section_at section n (section_bytes xs ++ (sum ++ rest))) (xs, sum ++ rest) (λ y. after_sum_in version section (pos (length y.0) ∷ y.0) y.1 >>= λ rest. Ok (y.0, rest)) read
    ∙ bind_at (after_sum_in version section (pos (length xs) ∷ xs) (sum ++ rest)) rest (λ rest. Ok (xs, rest)) (sum_again version section (pos (length xs) ∷ xs) rest)

-- sections of these counts
unfoldable pub AreSections : List ℕ → List (List ℤ) → Type 0
AreSections [] [] = Unit {0}
AreSections [] (xs ∷ sections) = ⊥
AreSections (n ∷ counts) [] = ⊥
AreSections (n ∷ counts) (xs ∷ sections) = IsSection n xs × AreSections counts sections

pub sections_take : (version : Version) (section : ℕ) (counts : List ℕ) (bytes : List ℕ) (x : List (List ℤ) × List ℕ) → IsBytes bytes → sections_at version section counts bytes ≡ Ok x
    → Takes bytes (flat_map (summed_bytes version) x.0) x.1 × AreSections counts x.0
unfolding sections_at AreSections
sections_take version section [] bytes x fits e =
    let same = ok_is ([], bytes) x e in
    subst (λ (y : List (List ℤ) × List ℕ). Takes bytes (flat_map (summed_bytes version) y.0) y.1 × AreSections [] y.0) same (record { parts = refl; rest_fits = fits }, tt)
sections_take version section (n ∷ counts) bytes x fits e =
    let a = bind_ok (summed_at version section n bytes) (λ first. with_first first.0 (sections_at version (section + 1) counts first.1)) x e in
    let b = bind_ok (sections_at version (section + 1) counts a.0.1) (λ others. Ok (a.0.0 ∷ others.0, others.1)) x a.2 in
    let first = summed_takes version section n bytes a.0 fits a.1 in
    let later = sections_take version (section + 1) counts a.0.1 b.0 first.0.rest_fits b.1 in
    let both = Takes-then bytes (summed_bytes version a.0.0) a.0.1 (flat_map (summed_bytes version) b.0.0) b.0.1 first.0 later.0 in
    subst (λ (y : List (List ℤ) × List ℕ). Takes bytes (flat_map (summed_bytes version) y.0) y.1 × AreSections (n ∷ counts) y.0) (ok_is (a.0.0 ∷ b.0.0, b.0.1) x b.2) (both, (first.1, later.1))

pub sections_again : (version : Version) (section : ℕ) (counts : List ℕ) (sections : List (List ℤ)) (rest : List ℕ) → AllByRecursion (λ n. n < 2 ^ 32) counts → AreSections counts sections
    → sections_at version section counts (flat_map (summed_bytes version) sections ++ rest) ≡ Ok (sections, rest)
unfolding AreSections
sections_again version section [] [] rest small are = none_left version section rest
sections_again version section [] (xs ∷ sections) rest small are = absurd are
sections_again version section (n ∷ counts) [] rest small are = absurd are
sections_again version section (n ∷ counts) (xs ∷ sections) rest small are =
    let later = flat_map (summed_bytes version) sections in
    let le = small.0 in
    ap (sections_at version section (n ∷ counts)) (append_assoc (summed_bytes version xs) later rest)
    ∙ read_on version section n counts (summed_bytes version xs ++ (later ++ rest)) (xs, later ++ rest) (sections, rest) (summed_again version section n xs (later ++ rest) (omega arith) are.0)
    (sections_again version (section + 1) counts sections rest small.1 are.1)

-- ---- the elapsed seconds

pub elapsed_takes : (version : Version) (bytes : List ℕ) (x : ℤ × List ℕ) → IsBytes bytes → elapsed_at version bytes ≡ Ok x → Takes bytes (elapsed_bytes version x.0) x.1 × FitsSigned w64 x.0
elapsed_takes version bytes x fits e =
    let elapsed = number_in bytes in
    let a = refused_ok (ltb (length bytes) 8) Short (after_sum_in version 0 (elapsed ∷ []) (drop 8 bytes) >>= λ rest. Ok (elapsed, rest)) x e in
    let b = bind_ok (after_sum_in version 0 (elapsed ∷ []) (drop 8 bytes)) (λ rest. Ok (elapsed, rest)) x a.1 in
    let long : 8 ≤ length bytes = ltb-false _ _ a.0 in
    let first : Takes bytes (number_bytes elapsed) (drop 8 bytes) = record { parts = sym (take-append-drop 8 bytes) ∙ ap (λ (w : List ℕ). w ++ drop 8 bytes) (sym (number_again bytes long fits)); rest_fits = IsBytes-drop 8 bytes fits } in
    let second = sum_takes version 0 (elapsed ∷ []) (drop 8 bytes) b.0 first.rest_fits b.1 in
    let both = Takes-then bytes (number_bytes elapsed) (drop 8 bytes) (sum_bytes version (elapsed ∷ [])) b.0 first second in
    subst (λ (y : ℤ × List ℕ). Takes bytes (elapsed_bytes version y.0) y.1 × FitsSigned w64 y.0) (ok_is (elapsed, b.0) x b.2) (both, number_fits bytes fits)

pub elapsed_again : (version : Version) (elapsed : ℤ) (rest : List ℕ) → FitsSigned w64 elapsed → elapsed_at version (elapsed_bytes version elapsed ++ rest) ≡ Ok (elapsed, rest)
elapsed_again version elapsed rest fits =
    let word = number_bytes elapsed in
    let sum = sum_bytes version (elapsed ∷ []) in
    let grouped : elapsed_bytes version elapsed ++ rest ≡ word ++ (sum ++ rest) = append_assoc word sum rest in
    let len : length word ≡ 8 = length-number_bytes elapsed in
    let long : ltb (length (word ++ (sum ++ rest))) 8 ≡ false = le-ltb _ _ (omega (arith, length-append word (sum ++ rest))) in
    let read : number_in (word ++ (sum ++ rest)) ≡ elapsed = number_back elapsed (sum ++ rest) fits in
    let behind : drop 8 (word ++ (sum ++ rest)) ≡ sum ++ rest = drop_at word (sum ++ rest) 8 len in
    let summed = sum_again version 0 (elapsed ∷ []) rest in
    ap (elapsed_at version) grouped
    ∙ rw (long, read, behind) (bind_at (after_sum_in version 0 (elapsed ∷ []) (sum ++ rest)) rest (λ rest. Ok (elapsed, rest)) summed)

-- ---- the mark

abbrev marked_rest : List ℕ → Result (Version × List ℕ) StartError
marked_rest bytes = cond (bytes_eq (take 8 bytes) second_mark) (Ok (Second, drop 8 bytes)) (Err Magic)

pub version_takes : (bytes : List ℕ) (x : Version × List ℕ) → IsBytes bytes → version_at bytes ≡ Ok x → Takes bytes (mark_of x.0) x.1
version_takes bytes x fits e =
    let a = refused_ok (ltb (length bytes) 8) Short (cond (bytes_eq (take 8 bytes) first_mark) (Ok (First, drop 8 bytes)) (marked_rest bytes)) x e in
    let split : bytes ≡ take 8 bytes ++ drop 8 bytes = sym (take-append-drop 8 bytes) in
    let behind = IsBytes-drop 8 bytes fits in
    elim (cases_Bool (bytes_eq (take 8 bytes) first_mark)) [
      | inl same ↦
          let is : take 8 bytes ≡ first_mark = (bytes_eq-Decides (take 8 bytes) first_mark).0 same in
          let whole : Takes bytes first_mark (drop 8 bytes) = record { parts = split ∙ ap (λ (m : List ℕ). m ++ drop 8 bytes) is; rest_fits = behind } in
          let there : (First, drop 8 bytes) ≡ x = ok_is (First, drop 8 bytes) x (sym (cond-true (bytes_eq (take 8 bytes) first_mark) (Ok (First, drop 8 bytes)) (marked_rest bytes) same) ∙ a.1) in
          subst (λ (y : Version × List ℕ). Takes bytes (mark_of y.0) y.1) there whole
      | inr other ↦
          let b = asked_ok (bytes_eq (take 8 bytes) second_mark) (Ok (Second, drop 8 bytes)) Magic x (sym (cond-false (bytes_eq (take 8 bytes) first_mark) (Ok (First, drop 8 bytes)) (marked_rest bytes) other) ∙ a.1) in
          let is : take 8 bytes ≡ second_mark = (bytes_eq-Decides (take 8 bytes) second_mark).0 b.0 in
          let whole : Takes bytes second_mark (drop 8 bytes) = record { parts = split ∙ ap (λ (m : List ℕ). m ++ drop 8 bytes) is; rest_fits = behind } in
          let there : (Second, drop 8 bytes) ≡ x = ok_is (Second, drop 8 bytes) x b.1 in
          subst (λ (y : Version × List ℕ). Takes bytes (mark_of y.0) y.1) there whole
    ]

pub version_again : (version : Version) (rest : List ℕ) → version_at (mark_of version ++ rest) ≡ Ok (version, rest)
version_again First rest =
    let long : ltb (length (first_mark ++ rest)) 8 ≡ false = le-ltb _ _ (omega (arith, length-append first_mark rest)) in
    rw long refl
version_again Second rest =
    let long : ltb (length (second_mark ++ rest)) 8 ≡ false = le-ltb _ _ (omega (arith, length-append second_mark rest)) in
    rw long refl
