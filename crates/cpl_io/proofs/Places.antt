-- What a crash may leave of one name, and what a renaming, a removing and a waiting make of it.
use Rattle.std.proofs.Common.{◌≡◌, ◌≢◌, ◌⊎◌, inl, inr, refl, sym, ◌∙◌, ap, subst, ℕ, List, Bool, true, false, Option, Result, Ok, Err, IsOk}
use Rattle.std.specs.Prelude.{Decides, bytes_eq}
use Rattle.std.proofs.lemmas.Slice.Eq.{bytes_eq-Decides}
use Rattle.cpl_io.specs.declared.shelf.ShelfError.{ShelfError}
use Rattle.cpl_io.specs.Disk.{Place, Nothing, IsFile, MayLeave, settled, Removes, Settles}
use Rattle.cpl_io.specs.Whole.{OldOrNew}

pub is_old : (old place : Place) (bytes : List ℕ) → place ≡ old → OldOrNew old bytes place
is_old old place bytes is = record { shown = inl (ap (λ (p : Place). p.now) is); left = λ left may. inl (subst (λ (p : Place). MayLeave p left) is may) }

pub is_settled : (old place : Place) (bytes : List ℕ) → OldOrNew old bytes place → OldOrNew old bytes (settled place)
is_settled old place bytes one = record { shown = one.shown; left = λ left may. one.left left (now_leaves left may) }
  where
    now_leaves : (left : Option (List ℕ)) → MayLeave (settled place) left → MayLeave place left
    now_leaves left (inl now) = inl now
    now_leaves left (inr none) = absurd none

-- a file that was removed, or wasn't there, is not there
pub removed_part : (name : List ℕ) (old new : List ℕ → Place) (result : Result Unit ShelfError) → Removes name old new result → IsFile (old name).now ⊎ ((old name).now ≡ Nothing) → (IsFile (old name).now → IsOk result) → (new name).now ≡ Nothing
removed_part name old new (Ok x) only was sure = ap (λ (p : Place). p.now) only.is
removed_part name old new (Err error) (inr only) was sure = ap (λ (p : Place). p.now) only.is
removed_part name old new (Err error) (inl same) (inl file) sure = cc (sure file)
removed_part name old new (Err error) (inl same) (inr none) sure = ap (λ (p : Place). p.now) (same name) ∙ none

pub removed_others : (name other : List ℕ) (old new : List ℕ → Place) (result : Result Unit ShelfError) → Removes name old new result → other ≢ name → new other ≡ old other
removed_others name other old new (Ok x) only ne = only.others other ne
removed_others name other old new (Err error) (inl same) ne = same other
removed_others name other old new (Err error) (inr only) ne = only.others other ne

-- waiting for a folder changes nothing that is shown, and at this name what a crash brings back
pub settled_others : (waits : Bool) (name other : List ℕ) (old new : List ℕ → Place) (result : Result Unit ShelfError) → Settles waits name old new result → other ≢ name → new other ≡ old other
settled_others true name other old new (Ok x) only ne = only.others other ne
settled_others false name other old new (Ok x) (inl same) ne = same other
settled_others false name other old new (Ok x) (inr only) ne = only.others other ne
settled_others true name other old new (Err error) (inl same) ne = same other
settled_others true name other old new (Err error) (inr only) ne = only.others other ne
settled_others false name other old new (Err error) (inl same) ne = same other
settled_others false name other old new (Err error) (inr only) ne = only.others other ne

pub settled_here : (waits : Bool) (name : List ℕ) (old new : List ℕ → Place) (result : Result Unit ShelfError) → Settles waits name old new result → (new name ≡ old name) ⊎ (new name ≡ settled (old name))
settled_here true name old new (Ok x) only = inr only.is
settled_here false name old new (Ok x) (inl same) = inl (same name)
settled_here false name old new (Ok x) (inr only) = inr only.is
settled_here true name old new (Err error) (inl same) = inl (same name)
settled_here true name old new (Err error) (inr only) = inr only.is
settled_here false name old new (Err error) (inl same) = inl (same name)
settled_here false name old new (Err error) (inr only) = inr only.is

-- the bytes are old or new as before
pub settled_one : (first old place : Place) (bytes : List ℕ) → OldOrNew first bytes old → (place ≡ old) ⊎ (place ≡ settled old) → OldOrNew first bytes place
settled_one first old place bytes one (inl is) = subst (OldOrNew first bytes) (sym is) one
settled_one first old place bytes one (inr is) = subst (OldOrNew first bytes) (sym is) (is_settled first old bytes one)

-- a name is another or it isn't
pub same_or_other : (a b : List ℕ) → (a ≡ b) ⊎ (a ≢ b)
same_or_other a b = decided (bytes_eq a b) (bytes_eq-Decides a b)
  where
    decided : (same : Bool) → Decides same (a ≡ b) → (a ≡ b) ⊎ (a ≢ b)
    decided true says = inl (says.0 refl)
    decided false says = inr (λ is. let yes : false ≡ true = says.1 is in let no : ⊥ = cc in no)
