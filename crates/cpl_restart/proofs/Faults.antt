-- The faults of an air state's bytes, from its spelling.
use Rattle.std.proofs.Common.{◌≡◌, ◌≢◌, pos, ℕ, ◌+◌, ◌-◌, ◌^◌, ◌<◌, ◌≤◌, List, [], ◌++◌, length, take, Some, None, Ok, Err, inl, inr, refl, sym, ap, ◌∙◌, append_assoc, arith}
use Rattle.std.specs.Int.{w64}
use Rattle.std.specs.Int.RustNames.{FitsSigned}
use Rattle.std.specs.List.{position}
use Rattle.std.proofs.Math.Seq.{take-append-add}
use Rattle.std.proofs.lemmas.Bool.{cases_lt}
use Rattle.std.proofs.lemmas.List.{append-nil, length-append, take-append-le, length-take-le}
use Rattle.std.proofs.lemmas.List.Elements.{recursion_from_All}
use Rattle.cpl_restart.specs.Numbers.{number_bytes, section_bytes, is_negative}
use Rattle.cpl_fixed.specs.Results.{◌>>=◌}
use Rattle.cpl_restart.specs.Sections.{after_mark, section_at, nothing_after, no_negative_at, no_negative}
use Rattle.cpl_restart.specs.AirBytes.{HasSections, air_mark, air_bytes, air_of}
use Rattle.cpl_state.specs.declared.air.Air.{Air}
use Rattle.cpl_restart.specs.declared.start_error.StartError.TheVariants.{Short, Magic, Shape, Trailing, Negative}
use Rattle.cpl_restart.proofs.Parts.{bind_at, bind_err, mark_again, mark_short, mark_other, IsSection, section_again, section_few, section_short, section_shape, more_behind}
use Rattle.cpl_restart.proofs.AirLaws.{signed, ended, with_vapour, with_heat}

-- the sections of such a state
heat_is : (cells : ℕ) (air : Air) → HasSections cells air → IsSection cells air.heat
heat_is cells air has = record { count = has.heat_length; each = recursion_from_All (FitsSigned w64) air.heat has.heat }

vapour_is : (cells : ℕ) (air : Air) → HasSections cells air → IsSection cells air.vapour
vapour_is cells air has = record { count = has.vapour_length; each = recursion_from_All (FitsSigned w64) air.vapour has.vapour }

-- bytes with a mark, by what stands behind it
marked : (cells : ℕ) (bytes : List ℕ) → air_of cells (air_mark ++ bytes) ≡ with_heat cells bytes
unfolding air_of
marked cells bytes = bind_at (after_mark air_mark (air_mark ++ bytes)) bytes (with_heat cells) (mark_again air_mark bytes refl)

-- and with heats
heated : (cells : ℕ) (air : Air) (bytes : List ℕ) → cells < 2 ^ 64 → HasSections cells air → air_of cells (air_mark ++ (section_bytes air.heat ++ bytes)) ≡ with_vapour cells air.heat bytes
heated cells air bytes small has =
    marked cells (section_bytes air.heat ++ bytes)
    ∙ bind_at (section_at 1 cells (section_bytes air.heat ++ bytes)) (air.heat, bytes) (λ x. with_vapour cells x.0 x.1) (section_again 1 cells air.heat bytes small (heat_is cells air has))

-- and with vapours
filled : (cells : ℕ) (air : Air) (bytes : List ℕ) → cells < 2 ^ 64 → HasSections cells air → air_of cells (air_bytes air ++ bytes) ≡ ended air.heat air.vapour bytes
filled cells air bytes small has =
    let heat = section_bytes air.heat in
    let vapour = section_bytes air.vapour in
    let grouped : air_bytes air ++ bytes ≡ air_mark ++ (heat ++ (vapour ++ bytes)) = append_assoc (air_mark ++ heat) vapour bytes ∙ append_assoc air_mark heat (vapour ++ bytes) in
    ap (air_of cells) grouped
    ∙ heated cells air (vapour ++ bytes) small has
    ∙ bind_at (section_at 2 cells (vapour ++ bytes)) (air.vapour, bytes) (λ x. ended air.heat x.0 x.1) (section_again 2 cells air.vapour bytes small (vapour_is cells air has))

pub is_magic : (cells : ℕ) (bytes : List ℕ) → 8 ≤ length bytes → take 8 bytes ≢ air_mark → air_of cells bytes ≡ Err Magic
unfolding air_of
is_magic cells bytes le ne = bind_err (after_mark air_mark bytes) Magic (with_heat cells) (mark_other air_mark bytes le ne)

pub is_no_mark : (cells : ℕ) (bytes : List ℕ) → length bytes < 8 → air_of cells bytes ≡ Err Short
unfolding air_of
is_no_mark cells bytes lt = bind_err (after_mark air_mark bytes) Short (with_heat cells) (mark_short air_mark bytes lt)

pub is_no_first_count : (cells : ℕ) (bytes : List ℕ) → length bytes < 8 → air_of cells (air_mark ++ bytes) ≡ Err Short
is_no_first_count cells bytes lt =
    marked cells bytes ∙ bind_err (section_at 1 cells bytes) Short (λ x. with_vapour cells x.0 x.1) (section_few 1 cells bytes lt)

pub is_no_second_count : (cells : ℕ) (air : Air) (bytes : List ℕ) → cells < 2 ^ 64 → HasSections cells air → length bytes < 8 → air_of cells (air_mark ++ (section_bytes air.heat ++ bytes)) ≡ Err Short
is_no_second_count cells air bytes small has lt =
    heated cells air bytes small has ∙ bind_err (section_at 2 cells bytes) Short (λ x. ended air.heat x.0 x.1) (section_few 2 cells bytes lt)

pub is_first_shape : (cells n : ℕ) (rest : List ℕ) → n < 2 ^ 64 → n ≢ cells → air_of cells (air_mark ++ (number_bytes (pos n) ++ rest)) ≡ Err (Shape 1)
is_first_shape cells n rest small ne =
    marked cells (number_bytes (pos n) ++ rest)
    ∙ bind_err (section_at 1 cells (number_bytes (pos n) ++ rest)) (Shape 1) (λ x. with_vapour cells x.0 x.1) (section_shape 1 cells n rest small ne)

pub is_second_shape : (cells n : ℕ) (air : Air) (rest : List ℕ) → cells < 2 ^ 64 → HasSections cells air → n < 2 ^ 64 → n ≢ cells → air_of cells (air_mark ++ (section_bytes air.heat ++ (number_bytes (pos n) ++ rest))) ≡ Err (Shape 2)
is_second_shape cells n air rest fits has small ne =
    heated cells air (number_bytes (pos n) ++ rest) fits has
    ∙ bind_err (section_at 2 cells (number_bytes (pos n) ++ rest)) (Shape 2) (λ x. ended air.heat x.0 x.1) (section_shape 2 cells n rest small ne)

pub is_trailing : (cells : ℕ) (air : Air) (more : List ℕ) → cells < 2 ^ 64 → HasSections cells air → 0 < length more → air_of cells (air_bytes air ++ more) ≡ Err Trailing
is_trailing cells air more small has lt =
    filled cells air more small has ∙ bind_err (nothing_after more) Trailing (λ whole. signed air.heat air.vapour) (more_behind more lt)

-- all of the bytes, by the signs
whole : (cells : ℕ) (air : Air) → cells < 2 ^ 64 → HasSections cells air → air_of cells (air_bytes air) ≡ signed air.heat air.vapour
whole cells air small has = ap (air_of cells) (sym (append-nil (air_bytes air))) ∙ filled cells air [] small has

pub is_first_negative : (cells index : ℕ) (air : Air) → cells < 2 ^ 64 → HasSections cells air → position is_negative air.heat ≡ Some index → air_of cells (air_bytes air) ≡ Err (Negative 1 index)
is_first_negative cells index air small has found =
    whole cells air small has
    ∙ bind_err (no_negative 1 air.heat) (Negative 1 index) (λ h. no_negative 2 air.vapour >>= λ v. Ok air) (ap (no_negative_at 1) found)

pub is_second_negative : (cells index : ℕ) (air : Air) → cells < 2 ^ 64 → HasSections cells air → position is_negative air.heat ≡ None → position is_negative air.vapour ≡ Some index → air_of cells (air_bytes air) ≡ Err (Negative 2 index)
is_second_negative cells index air small has none found =
    whole cells air small has
    ∙ bind_at (no_negative 1 air.heat) tt (λ h. no_negative 2 air.vapour >>= λ v. Ok air) (ap (no_negative_at 1) none)
    ∙ bind_err (no_negative 2 air.vapour) (Negative 2 index) (λ v. Ok air) (ap (no_negative_at 2) found)

-- a front that ends behind the first part
pub take_past : (xs ys : List ℕ) (n : ℕ) → length xs ≤ n → take n (xs ++ ys) ≡ xs ++ take (n - length xs) ys
take_past xs ys n le =
    let split : n ≡ length xs + (n - length xs) = omega arith in
    ap (λ (k : ℕ). take k (xs ++ ys)) split ∙ take-append-add xs ys (n - length xs)

short_vapour : (cells m : ℕ) (air : Air) → cells < 2 ^ 64 → HasSections cells air → m < length (section_bytes air.vapour) → with_vapour cells air.heat (take m (section_bytes air.vapour)) ≡ Err Short
short_vapour cells m air small has lt =
    bind_err (section_at 2 cells (take m (section_bytes air.vapour))) Short (λ x. ended air.heat x.0 x.1) (section_short 2 cells air.vapour m small (vapour_is cells air has) lt)

short_heat : (cells m : ℕ) (air : Air) → cells < 2 ^ 64 → HasSections cells air → m < length (section_bytes air.heat ++ section_bytes air.vapour) → air_of cells (air_mark ++ take m (section_bytes air.heat ++ section_bytes air.vapour)) ≡ Err Short
short_heat cells m air small has lt =
    let heat = section_bytes air.heat in
    let vapour = section_bytes air.vapour in
    elim (cases_lt m (length heat)) [
      | inl few ↦
          marked cells (take m (heat ++ vapour))
          ∙ ap (with_heat cells) (take-append-le m heat vapour (omega arith))
          ∙ bind_err (section_at 1 cells (take m heat)) Short (λ x. with_vapour cells x.0 x.1) (section_short 1 cells air.heat m small (heat_is cells air has) few)
      | inr le ↦
          ap (λ (r : List ℕ). air_of cells (air_mark ++ r)) (take_past heat vapour m le)
          ∙ heated cells air (take (m - length heat) vapour) small has
          ∙ short_vapour cells (m - length heat) air small has (omega (arith, length-append heat vapour))
    ]

pub is_short : (cells n : ℕ) (air : Air) → cells < 2 ^ 64 → HasSections cells air → n < length (air_bytes air) → air_of cells (take n (air_bytes air)) ≡ Err Short
unfolding air_of
is_short cells n air small has lt =
    let sections = section_bytes air.heat ++ section_bytes air.vapour in
    let grouped : air_bytes air ≡ air_mark ++ sections = append_assoc air_mark (section_bytes air.heat) (section_bytes air.vapour) in
    let size : length (air_bytes air) ≡ 8 + length sections = ap length grouped ∙ length-append air_mark sections in
    elim (cases_lt n 8) [
      | inl few ↦ bind_err (after_mark air_mark (take n (air_bytes air))) Short (with_heat cells) (mark_short air_mark (take n (air_bytes air)) (omega (arith, length-take-le n (air_bytes air) (omega arith))))
      | inr le ↦ ap (λ (r : List ℕ). air_of cells (take n r)) grouped ∙ ap (air_of cells) (take_past air_mark sections n le) ∙ short_heat cells (n - 8) air small has (omega arith)
    ]
