-- An air state that is read is spelled so, and what is spelled so is read.
use Rattle.std.proofs.Common.{◌≡◌, ℕ, ◌^◌, ◌<◌, false, List, [], ◌∷◌, ◌++◌, Result, Ok, Err, ℤ, pos, negsuc, refl, sym, ap, subst, ◌∙◌, append_assoc, arith}
use Rattle.std.specs.Prelude.{IfOk}
use Rattle.std.specs.Int.{w64}
use Rattle.std.specs.Int.RustNames.{FitsSigned}
use Rattle.std.specs.List.{AllByRecursion}
use Rattle.std.proofs.lemmas.Int.{ints}
use Rattle.std.proofs.lemmas.List.{append-nil}
use Rattle.std.proofs.lemmas.List.Elements.{All-from_recursion, recursion_from_All}
use Rattle.cpl_restart.specs.Numbers.{section_bytes, is_negative}
use Rattle.cpl_state.specs.Stored.{IsStored}
use Rattle.cpl_fixed.specs.Results.{◌>>=◌}
use Rattle.cpl_restart.specs.Sections.{after_mark, section_at, nothing_after, no_negative}
use Rattle.cpl_restart.specs.AirBytes.{Reads, IsAir, air_mark, air_bytes, air_of}
use Rattle.cpl_state.specs.declared.air.Air.{Air}
use Rattle.cpl_restart.specs.declared.start_error.StartError.{StartError}
use Rattle.cpl_restart.proofs.Words.{IsBytes}
use Rattle.cpl_restart.proofs.Parts.{bind_at, bind_ok, ok_is, Takes-then, mark_takes, mark_again, section_takes, section_again, end_takes, signs_take, signs_again}

amount : (x : ℤ) → FitsSigned w64 x → is_negative x ≡ false → IsStored x
amount (pos n) fits e = (omega (arith, ints), omega (arith, ints))
amount (negsuc n) fits e = absurd cc

word : (x : ℤ) → IsStored x → FitsSigned w64 x × (is_negative x ≡ false)
word (pos n) h = (record { sfits = omega (arith, ints, h.1) }, refl)
word (negsuc n) h = absurd (omega (arith, ints, h.0))

pub amounts : (xs : List ℤ) → AllByRecursion (FitsSigned w64) xs → AllByRecursion (λ x. is_negative x ≡ false) xs → AllByRecursion IsStored xs
amounts [] fits signs = tt
amounts (x ∷ xs) fits signs = (amount x fits.0 signs.0, amounts xs fits.1 signs.1)

pub words : (xs : List ℤ) → AllByRecursion IsStored xs → AllByRecursion (FitsSigned w64) xs × AllByRecursion (λ x. is_negative x ≡ false) xs
words [] h = (tt, tt)
words (x ∷ xs) h = (((word x h.0).0, (words xs h.1).0), ((word x h.0).1, (words xs h.1).1))

-- ---- the parts of an air state in their order

abbrev pub made : (heat vapour : List ℤ) → Air
made heat vapour = record { heat = heat; vapour = vapour }

abbrev pub signed : (heat vapour : List ℤ) → Result Air StartError
signed heat vapour = no_negative 1 heat >>= λ h. no_negative 2 vapour >>= λ v. Ok (made heat vapour)

abbrev pub ended : (heat vapour : List ℤ) → List ℕ → Result Air StartError
ended heat vapour bytes = nothing_after bytes >>= λ whole. signed heat vapour

abbrev pub with_vapour : ℕ → List ℤ → List ℕ → Result Air StartError
with_vapour cells heat bytes = section_at 2 cells bytes >>= λ vapour. ended heat vapour.0 vapour.1

abbrev pub with_heat : ℕ → List ℕ → Result Air StartError
with_heat cells bytes = section_at 1 cells bytes >>= λ heat. with_vapour cells heat.0 heat.1

pub air_takes : (cells : ℕ) (bytes : List ℕ) (air : Air) → IsBytes bytes → air_of cells bytes ≡ Ok air → IsAir cells air × (bytes ≡ air_bytes air)
unfolding air_of
air_takes cells bytes air fits e =
    let a = bind_ok (after_mark air_mark bytes) (with_heat cells) air e in
    let b = bind_ok (section_at 1 cells a.0) (λ heat. with_vapour cells heat.0 heat.1) air a.2 in
    let c = bind_ok (section_at 2 cells b.0.1) (λ vapour. ended b.0.0 vapour.0 vapour.1) air b.2 in
    let d = bind_ok (nothing_after c.0.1) (λ whole. signed b.0.0 c.0.0) air c.2 in
    let h = bind_ok (no_negative 1 b.0.0) (λ h. no_negative 2 c.0.0 >>= λ v. Ok (made b.0.0 c.0.0)) air d.2 in
    let v = bind_ok (no_negative 2 c.0.0) (λ v. Ok (made b.0.0 c.0.0)) air h.2 in
    let mark = mark_takes air_mark bytes a.0 fits a.1 in
    let heat = section_takes 1 cells a.0 b.0 mark.rest_fits b.1 in
    let vapour = section_takes 2 cells b.0.1 c.0 heat.0.rest_fits c.1 in
    let two = Takes-then bytes air_mark a.0 (section_bytes b.0.0) b.0.1 mark heat.0 in
    let three = Takes-then bytes (air_mark ++ section_bytes b.0.0) b.0.1 (section_bytes c.0.0) c.0.1 two vapour.0 in
    let whole : bytes ≡ air_bytes (made b.0.0 c.0.0) = three.parts ∙ ap (λ (r : List ℕ). air_bytes (made b.0.0 c.0.0) ++ r) (end_takes c.0.1 d.1) ∙ append-nil (air_bytes (made b.0.0 c.0.0)) in
    let is : IsAir cells (made b.0.0 c.0.0) = record {
      heat_length = heat.1.count;
      vapour_length = vapour.1.count;
      heat = All-from_recursion IsStored b.0.0 (amounts b.0.0 heat.1.each (signs_take 1 b.0.0 h.1));
      vapour = All-from_recursion IsStored c.0.0 (amounts c.0.0 vapour.1.each (signs_take 2 c.0.0 v.1));
    } in
    subst (λ (x : Air). IsAir cells x × (bytes ≡ air_bytes x)) (ok_is (made b.0.0 c.0.0) air v.2) (is, whole)

pub air_again : (cells : ℕ) (air : Air) → cells < 2 ^ 64 → IsAir cells air → air_of cells (air_bytes air) ≡ Ok air
unfolding air_of
air_again cells air small is =
    let heat = section_bytes air.heat in
    let vapour = section_bytes air.vapour in
    let h = words air.heat (recursion_from_All IsStored air.heat is.heat) in
    let v = words air.vapour (recursion_from_All IsStored air.vapour is.vapour) in
    let grouped : air_bytes air ≡ air_mark ++ (heat ++ (vapour ++ [])) = append_assoc air_mark heat vapour ∙ ap (λ (r : List ℕ). air_mark ++ (heat ++ r)) (sym (append-nil vapour)) in
    ap (air_of cells) grouped
    ∙ bind_at (after_mark air_mark (air_mark ++ (heat ++ (vapour ++ [])))) (heat ++ (vapour ++ [])) (with_heat cells) (mark_again air_mark (heat ++ (vapour ++ [])) refl)
    ∙ bind_at (section_at 1 cells (heat ++ (vapour ++ []))) (air.heat, vapour ++ []) (λ x. with_vapour cells x.0 x.1) (section_again 1 cells air.heat (vapour ++ []) small (record { count = is.heat_length; each = h.0 }))
    ∙ bind_at (section_at 2 cells (vapour ++ [])) (air.vapour, []) (λ x. ended air.heat x.0 x.1) (section_again 2 cells air.vapour [] small (record { count = is.vapour_length; each = v.0 }))
    ∙ bind_at (no_negative 1 air.heat) tt (λ x. no_negative 2 air.vapour >>= λ y. Ok air) (signs_again 1 air.heat h.1)
    ∙ bind_at (no_negative 2 air.vapour) tt (λ y. Ok air) (signs_again 2 air.vapour v.1)

-- the same of what a reader returned
pub is_air : (cells : ℕ) (bytes : List ℕ) (r : Result Air StartError) → IsBytes bytes → Reads (λ (air : Air). air) r (air_of cells bytes) → IfOk r (IsAir cells)
is_air cells bytes (Ok air) fits given = (air_takes cells bytes air fits given).0
is_air cells bytes (Err e) fits given = tt

pub is_spelled : (cells : ℕ) (bytes : List ℕ) (r : Result Air StartError) → IsBytes bytes → Reads (λ (air : Air). air) r (air_of cells bytes) → IfOk r (λ air. bytes ≡ air_bytes air)
is_spelled cells bytes (Ok air) fits given = (air_takes cells bytes air fits given).1
is_spelled cells bytes (Err e) fits given = tt
