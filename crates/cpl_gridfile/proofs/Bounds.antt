-- Limits as tests and as facts.
use Rattle.std.proofs.Common.{◌≡◌, ◌∙◌, refl, sym, ap, subst, ℕ, ◌+◌, ◌*◌, ◌≤◌, List, [], ◌∷◌, map, codes, Bool, true, false, All, arith, leb, ℤ, pos, negsuc, inl, inr, Some}
use Rattle.std.specs.List.{list_all}
use Rattle.std.specs.Prelude.{◌==◌}
use Rattle.std.proofs.lemmas.Bool.{leb-true, le-leb, and_parts, and_from, or_cases, eqb-true}
use Rattle.std.proofs.lemmas.Bool.Decides.{nat_tests}
use Rattle.std.proofs.lemmas.Int.{ints}
use Rattle.std.proofs.lemmas.List.Elements.{All-nil, All-cons, All-head, All-tail}
use Rattle.cpl_fixed.specs.declared.limits.TheConstants.{MOST_AREA, MOST_CELLS}
use Rattle.cpl_mosaic.specs.declared.parts.Side.{Side}
use Rattle.cpl_mosaic.specs.declared.parts.Side.TheVariants.{W, E, S, N}
use Rattle.cpl_mosaic.specs.declared.parts.Span.{Span}
use Rattle.cpl_mosaic.specs.declared.parts.Contact.{Contact}
use Rattle.cpl_mosaic.specs.declared.parts.Tile.{Tile}
use Rattle.cpl_mosaic.specs.Contacts.{IsTile}
use Rattle.cpl_lines.specs.Fields.{Number, Letter, IsShort, is_one_of}
use Rattle.cpl_lines.specs.Lines.{Line, IsOfForm, at}
use Rattle.cpl_lines.proofs.RowForms.{line_is}
use Rattle.cpl_gridfile.specs.MeshFormat.{magnitude, side_letter, side_of, flip_letter, contact_line, contact_form, contact_of, span_keeps_limits, contact_keeps_limits, tile_keeps_limits}
use Rattle.cpl_gridfile.specs.Within.{IsAmount, IsArea, SpanIsWithin, ContactIsWithin}

-- ---- amounts

pub amount_is : (most : ℕ) (amount : ℤ) → IsAmount most amount → (magnitude amount ≤ most) × (pos (magnitude amount) ≡ amount)
amount_is most (pos n) within = (omega (arith, ints), refl)
amount_is most (negsuc n) within = absurd (omega (arith, ints))

pub amount_from : (most n : ℕ) → n ≤ most → IsAmount most (pos n)
amount_from most n le = (omega (arith, ints), omega (arith, ints))

-- areas as the numbers that the text has, and back
pub pos_magnitudes : (areas : List ℤ) → All IsArea areas → map pos (map magnitude areas) ≡ areas
pos_magnitudes [] each = refl
pos_magnitudes (area ∷ areas) each = λ i. (amount_is MOST_AREA area (All-head IsArea area areas each)).1 i ∷ pos_magnitudes areas (All-tail IsArea area areas each) i

pub magnitudes_pos : (numbers : List ℕ) → map magnitude (map pos numbers) ≡ numbers
magnitudes_pos [] = refl
magnitudes_pos (n ∷ numbers) = ap (λ (l : List ℕ). n ∷ l) (magnitudes_pos numbers)

pub areas_keep : (areas : List ℤ) → All IsArea areas → list_all (λ n. leb n MOST_AREA) (map magnitude areas) ≡ true
areas_keep [] each = refl
areas_keep (area ∷ areas) each =
    and_from _ _ (le-leb (magnitude area) MOST_AREA (amount_is MOST_AREA area (All-head IsArea area areas each)).0) (areas_keep areas (All-tail IsArea area areas each))

pub areas_are_short : (areas : List ℤ) → All IsArea areas → All IsShort (map magnitude areas)
areas_are_short [] each = All-nil IsShort
areas_are_short (area ∷ areas) each =
    let least = (amount_is MOST_AREA area (All-head IsArea area areas each)).0 in
    All-cons IsShort (magnitude area) (map magnitude areas) (omega (arith, least)) (areas_are_short areas (All-tail IsArea area areas each))

pub areas_within : (numbers : List ℕ) → list_all (λ n. leb n MOST_AREA) numbers ≡ true → All IsArea (map pos numbers)
areas_within [] keep = All-nil IsArea
areas_within (n ∷ numbers) keep =
    let p = and_parts (leb n MOST_AREA) (list_all (λ m. leb m MOST_AREA) numbers) keep in
    All-cons IsArea (pos n) (map pos numbers) (amount_from MOST_AREA n (leb-true n MOST_AREA p.0)) (areas_within numbers p.1)

-- ---- tiles

pub tile_keeps : (cells : ℕ) (tile : Tile) → IsTile tile → cells + tile.nx * tile.ny ≤ MOST_CELLS → tile_keeps_limits cells tile.nx tile.ny ≡ true
tile_keeps cells tile is few = grind (arith, nat_tests)

pub tile_within : (cells nx ny : ℕ) → tile_keeps_limits cells nx ny ≡ true → IsTile (record { nx = nx; ny = ny }) × (cells + nx * ny ≤ MOST_CELLS)
tile_within cells nx ny keeps = (
  record {
    nx_least = grind (arith, nat_tests);
    nx_most = grind (arith, nat_tests);
    ny_least = grind (arith, nat_tests);
    ny_most = grind (arith, nat_tests);
  },
  grind (arith, nat_tests),
)

-- ---- contacts

span_keeps : (span : Span) → SpanIsWithin span → span_keeps_limits span ≡ true
span_keeps span within = grind (arith, nat_tests)

span_within : (span : Span) → span_keeps_limits span ≡ true → SpanIsWithin span
span_within span keeps = record { tile = grind (arith, nat_tests); lo = grind (arith, nat_tests); hi = grind (arith, nat_tests) }

pub contact_keeps : (contact : Contact) → ContactIsWithin contact → contact_keeps_limits contact ≡ true
contact_keeps contact within = and_from _ _ (span_keeps contact.first within.first) (span_keeps contact.second within.second)

pub contact_within : (contact : Contact) → contact_keeps_limits contact ≡ true → ContactIsWithin contact
contact_within contact keeps =
    let p = and_parts (span_keeps_limits contact.first) (span_keeps_limits contact.second) keeps in
    record { first = span_within contact.first p.0; second = span_within contact.second p.1 }

side_is_letter : (side : Side) → is_one_of (codes "WESN") (side_letter side) ≡ true
side_is_letter W = refl
side_is_letter E = refl
side_is_letter S = refl
side_is_letter N = refl

side_again : (side : Side) → side_of (side_letter side) ≡ side
side_again W = refl
side_again E = refl
side_again S = refl
side_again N = refl

flip_is_letter : (flip : Bool) → is_one_of (codes "01") (flip_letter flip) ≡ true
flip_is_letter true = refl
flip_is_letter false = refl

flip_again : (flip : Bool) → (flip_letter flip == 49) ≡ flip
flip_again true = refl
flip_again false = refl

-- a contact's line tells the contact
pub contact_again : (contact : Contact) → contact_of (contact_line contact) ≡ contact
contact_again contact = λ i. record {
  first = record { tile = contact.first.tile; side = side_again contact.first.side i; lo = contact.first.lo; hi = contact.first.hi };
  second = record { tile = contact.second.tile; side = side_again contact.second.side i; lo = contact.second.lo; hi = contact.second.hi };
  flip = flip_again contact.flip i;
}

pub contact_has_form : (contact : Contact) → ContactIsWithin contact → IsOfForm (Some contact_form) (contact_line contact)
contact_has_form contact within = (
  refl,
  (
    omega (arith, within.first.tile),
    (
      side_is_letter contact.first.side,
      (
        omega (arith, within.first.lo),
        (
          omega (arith, within.first.hi),
          (
            omega (arith, within.second.tile),
            (side_is_letter contact.second.side, (omega (arith, within.second.lo), (omega (arith, within.second.hi), (flip_is_letter contact.flip, tt)))),
          ),
        ),
      ),
    ),
  ),
)

-- a letter of a side tells the side
side_back : (letter : ℕ) → is_one_of (codes "WESN") letter ≡ true → side_letter (side_of letter) ≡ letter
side_back letter among = elim (or_cases _ _ among) [
  | inl west ↦ let is : 87 ≡ letter = eqb-true 87 letter west in subst (λ (l : ℕ). side_letter (side_of l) ≡ l) is refl
  | inr more ↦ elim (or_cases _ _ more) [
    | inl east ↦ let is : 69 ≡ letter = eqb-true 69 letter east in subst (λ (l : ℕ). side_letter (side_of l) ≡ l) is refl
    | inr others ↦ elim (or_cases _ _ others) [
      | inl south ↦ let is : 83 ≡ letter = eqb-true 83 letter south in subst (λ (l : ℕ). side_letter (side_of l) ≡ l) is refl
      | inr last ↦ elim (or_cases _ _ last) [
        | inl north ↦ let is : 78 ≡ letter = eqb-true 78 letter north in subst (λ (l : ℕ). side_letter (side_of l) ≡ l) is refl
        | inr none ↦ absurd cc
      ]
    ]
  ]
]

flip_back : (letter : ℕ) → is_one_of (codes "01") letter ≡ true → flip_letter (letter == 49) ≡ letter
flip_back letter among = elim (or_cases _ _ among) [
  | inl off ↦ let is : 48 ≡ letter = eqb-true 48 letter off in subst (λ (l : ℕ). flip_letter (l == 49) ≡ l) is refl
  | inr more ↦ elim (or_cases _ _ more) [
    | inl on ↦ let is : 49 ≡ letter = eqb-true 49 letter on in subst (λ (l : ℕ). flip_letter (l == 49) ≡ l) is refl
    | inr none ↦ absurd cc
  ]
]

-- a line of a contact's form is that of the contact that it tells
pub contact_back : (line : Line) → IsOfForm (Some contact_form) line → line ≡ contact_line (contact_of line)
contact_back line is =
    let same = line_is contact_form line is in
    let parts = subst (IsOfForm (Some contact_form)) same is in
    let first = side_back (at line 1) parts.1.1.0 in
    let second = side_back (at line 5) parts.1.1.1.1.1.1.0 in
    let flip = flip_back (at line 8) parts.1.1.1.1.1.1.1.1.1.0 in
    same ∙ λ i. record {
      word = codes "contact";
      fields = Number (at line 0) ∷ Letter (sym first i) ∷ Number (at line 2) ∷ Number (at line 3)
          ∷ Number (at line 4) ∷ Letter (sym second i) ∷ Number (at line 6) ∷ Number (at line 7) ∷ Letter (sym flip i) ∷ [];
    }
