-- A strip that is looked up by its pieces.
use Rattle.std.proofs.Common.{◌≡◌, ◌∙◌, sym, ap, subst, ℕ, ◌-◌, ◌<◌, ◌&&◌, arith, List, [], get_or, eqb, Some, None}
use Rattle.std.specs.Prelude.{slice_get}
use Rattle.cpl_strip.specs.declared.parts.Strip.{Strip}
use Rattle.cpl_strip.specs.declared.parts.FaceStrip.{FaceStrip}
use Rattle.cpl_xgrid.specs.Groups.{numbers_from}
use Rattle.cpl_wires.specs.Tables.{AreFound, AreFacesFound, pair_number, pairs_most, strip_key, face_strip_key, strip_with, face_strip_with}
use Rattle.cpl_wires.proofs.Most.{pairs_most_is}
use Rattle.cpl_wires.proofs.Grouped.{group_of, pair_eq}
use Rattle.cpl_wires.proofs.Found.{IsFirst, none_first, some_first}

module _ (strips : List Strip) (numbers : List (List ℕ)) (from to pair : ℕ) (group : List ℕ) (are : AreFound strips numbers) (l : from < 64) (h : to < 64) (at : group ≡ get_or numbers pair []) (is : pair ≡ pair_number from to) where
  abbrev pub no_strip : Strip
  no_strip = record { from = 0; to = 0; places = []; holes = [] }

  group_is : group ≡ numbers_from (λ (strip : Strip). eqb strip.from from && eqb strip.to to) 0 strips
  group_is =
      at ∙ (λ t. get_or (are.numbers_are t) (is t) [])
      ∙ group_of pairs_most strip_key (λ (strip : Strip). eqb strip.from from && eqb strip.to to) strips (pair_number from to) (let most = pairs_most_is in omega arith)
      (λ k d b. let strip = get_or strips k d in pair_eq strip.from strip.to from to (are.pieces k d b).1 h)

  pub no_such : None ≡ slice_get group 0 → strip_with strips from to ≡ None
  no_such none = none_first (λ (strip : Strip). eqb strip.from from && eqb strip.to to) 0 strips (ap (λ (xs : List ℕ). slice_get xs 0) (sym group_is) ∙ sym none)

  pub such : (n : ℕ) → Some n ≡ slice_get group 0 → IsFirst (λ (strip : Strip). eqb strip.from from && eqb strip.to to) strips n no_strip
  such n found =
      let same : n - 0 ≡ n = omega arith in
      subst (λ (k : ℕ). IsFirst (λ (strip : Strip). eqb strip.from from && eqb strip.to to) strips k no_strip) same
      (some_first (λ (strip : Strip). eqb strip.from from && eqb strip.to to) 0 n strips no_strip (ap (λ (xs : List ℕ). slice_get xs 0) (sym group_is) ∙ sym found)).1

module _ (strips : List FaceStrip) (numbers : List (List ℕ)) (from to pair : ℕ) (group : List ℕ) (are : AreFacesFound strips numbers) (l : from < 64) (h : to < 64) (at : group ≡ get_or numbers pair []) (is : pair ≡ pair_number from to) where
  abbrev pub no_face_strip : FaceStrip
  no_face_strip = record { from = 0; to = 0; sources = []; targets = [] }

  face_group_is : group ≡ numbers_from (λ (strip : FaceStrip). eqb strip.from from && eqb strip.to to) 0 strips
  face_group_is =
      at ∙ (λ t. get_or (are.numbers_are t) (is t) [])
      ∙ group_of pairs_most face_strip_key (λ (strip : FaceStrip). eqb strip.from from && eqb strip.to to) strips (pair_number from to) (let most = pairs_most_is in omega arith)
      (λ k d b. let strip = get_or strips k d in pair_eq strip.from strip.to from to (are.pieces k d b).1 h)

  pub no_such_face : None ≡ slice_get group 0 → face_strip_with strips from to ≡ None
  no_such_face none = none_first (λ (strip : FaceStrip). eqb strip.from from && eqb strip.to to) 0 strips (ap (λ (xs : List ℕ). slice_get xs 0) (sym face_group_is) ∙ sym none)

  pub such_face : (n : ℕ) → Some n ≡ slice_get group 0 → IsFirst (λ (strip : FaceStrip). eqb strip.from from && eqb strip.to to) strips n no_face_strip
  such_face n found =
      let same : n - 0 ≡ n = omega arith in
      subst (λ (k : ℕ). IsFirst (λ (strip : FaceStrip). eqb strip.from from && eqb strip.to to) strips k no_face_strip) same
      (some_first (λ (strip : FaceStrip). eqb strip.from from && eqb strip.to to) 0 n strips no_face_strip (ap (λ (xs : List ℕ). slice_get xs 0) (sym face_group_is) ∙ sym found)).1
