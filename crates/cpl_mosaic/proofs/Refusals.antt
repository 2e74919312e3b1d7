-- The first contact that a test refuses, found contact by contact.
use Rattle.std.proofs.Common.{◌≡◌, refl, sym, ◌∙◌, ap, Bool, true, false, not, ℕ, zero, suc, ◌+◌, ◌<◌, ◌≤◌, arith, List, [], ◌∷◌, ◌++◌, length, get_or, take, drop, Option, Some, None, inl, inr}
use Rattle.std.specs.Prelude.{All}
use Rattle.std.proofs.lemmas.Bool.{cond-true, cond-false, cases_Bool, not-false}
use Rattle.std.proofs.lemmas.List.{drop_more, take_more, drop_all, length-take-le}
use Rattle.cpl_mosaic.specs.declared.parts.Contact.{Contact}
use Rattle.cpl_mosaic.specs.declared.parts.Tile.{Tile}
use Rattle.cpl_mosaic.specs.declared.parts.MosaicError.{MosaicError}
use Rattle.cpl_mosaic.specs.declared.parts.MosaicError.TheVariants.{ContactRange}
use Rattle.cpl_mosaic.specs.Contacts.{as_fault, first_refused, is_in_range, range_fault}

-- the test passes all contacts before the n-th
abbrev pub PassedTo : (List Contact → Contact → Bool) → List Contact → ℕ → Type 0
PassedTo refuses contacts n = first_refused refuses [] contacts ≡ first_refused refuses (take n contacts) (drop n contacts)

at_contact : (refuses : List Contact → Contact → Bool) (contacts : List Contact) (n : ℕ) (contact : Contact) → n < length contacts → contact ≡ get_or contacts n contact → PassedTo refuses contacts n → first_refused refuses [] contacts ≡ first_refused refuses (take n contacts) (contact ∷ drop (n + 1) contacts)
at_contact refuses contacts n contact below is passed =
    passed ∙ ap (first_refused refuses (take n contacts)) (drop_more contacts n contact below ∙ ap (λ (x : Contact). x ∷ drop (n + 1) contacts) (sym is))

pub passed_more : (refuses : List Contact → Contact → Bool) (contacts : List Contact) (n : ℕ) (contact : Contact) → n < length contacts → contact ≡ get_or contacts n contact → PassedTo refuses contacts n → refuses (take n contacts) contact ≡ false → PassedTo refuses contacts (n + 1)
passed_more refuses contacts n contact below is passed e =
    at_contact refuses contacts n contact below is passed
    ∙ cond-false (refuses (take n contacts) contact) (Some (length (take n contacts))) (first_refused refuses (take n contacts ++ contact ∷ []) (drop (n + 1) contacts)) e
    ∙ ap (λ (front : List Contact). first_refused refuses front (drop (n + 1) contacts)) (sym (take_more contacts n contact below ∙ ap (λ (x : Contact). take n contacts ++ x ∷ []) (sym is)))

pub refused_at : (refuses : List Contact → Contact → Bool) (contacts : List Contact) (n : ℕ) (contact : Contact) → n < length contacts → contact ≡ get_or contacts n contact → PassedTo refuses contacts n → refuses (take n contacts) contact ≡ true → Some n ≡ first_refused refuses [] contacts
refused_at refuses contacts n contact below is passed e =
    sym (
    at_contact refuses contacts n contact below is passed
    ∙ cond-true (refuses (take n contacts) contact) (Some (length (take n contacts))) (first_refused refuses (take n contacts ++ contact ∷ []) (drop (n + 1) contacts)) e
    ∙ ap Some (length-take-le n contacts (omega arith))
    )

pub passed_all : (refuses : List Contact → Contact → Bool) (contacts : List Contact) (n : ℕ) → length contacts ≤ n → PassedTo refuses contacts n → None ≡ first_refused refuses [] contacts
passed_all refuses contacts n past passed = sym (passed ∙ ap (first_refused refuses (take n contacts)) (drop_all n contacts past))

each_from : (P : Contact → Type 0) (contact : Contact) (contacts : List Contact) → P contact → All P contacts → All P (contact ∷ contacts)
each_from P contact contacts first rest zero d below = first
each_from P contact contacts first rest (suc k) d below = rest k d (omega arith)

-- a test that refuses none passes each contact
passes_each : (test : Contact → Bool) (earlier contacts : List Contact) → first_refused (λ _ contact. not (test contact)) earlier contacts ≡ None → All (λ contact. test contact ≡ true) contacts
passes_each test earlier [] e k d below = absurd (omega arith)
passes_each test earlier (contact ∷ contacts) e k d below =
    let rest = first_refused (λ (_ : List Contact) (x : Contact). not (test x)) (earlier ++ contact ∷ []) contacts in
    elim (cases_Bool (not (test contact))) [
      | inl refused ↦ absurd (let at = cond-true (not (test contact)) (Some (length earlier)) (first_refused (λ (_ : List Contact) (x : Contact). not (test x)) (earlier ++ contact ∷ []) contacts) refused in cc)
      | inr passed ↦
          let later = sym (cond-false (not (test contact)) (Some (length earlier)) (first_refused (λ (_ : List Contact) (x : Contact). not (test x)) (earlier ++ contact ∷ []) contacts) passed) ∙ e in
          each_from (λ (x : Contact). test x ≡ true) contact contacts (not-false (test contact) passed) (passes_each test (earlier ++ contact ∷ []) contacts later) k d below
    ]

-- no fault is no contact
no_fault : (fault : ℕ → MosaicError) (n : Option ℕ) → as_fault fault n ≡ None → n ≡ None
no_fault fault None e = refl
no_fault fault (Some n) e = absurd (cc)

-- where no contact breaks the rule of ranges, each keeps it
pub no_range_fault : (tiles : List Tile) (contacts : List Contact) → range_fault tiles contacts ≡ None → All (λ contact. is_in_range tiles contact ≡ true) contacts
no_range_fault tiles contacts e =
    passes_each (is_in_range tiles) [] contacts (no_fault ContactRange (first_refused (λ _ contact. not (is_in_range tiles contact)) [] contacts) e)
