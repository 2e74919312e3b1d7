-- How a run of calls on a disk goes on, name by name.
use Rattle.std.proofs.Common.{◌≡◌, inl, inr, ⊎_elim, refl, sym, ◌∙◌, subst, ℕ, List, ◌++◌, false}
use Rattle.cpl_io.specs.Disk.{Place, File, Elapses}
use Rattle.cpl_io.specs.Whole.{AtEachMoment, OldOrNew, Untouched, OthersUntouched}
use Rattle.cpl_io.proofs.Places.{is_old}

module _ {D : Type 0} (place : D → List ℕ → Place) (since : D → D → List ℕ → Place → Type 0) where
  -- before the first call
  pub started : (old : D) (name : List ℕ) → Untouched place since old old name
  started old name = record { is = refl; was = λ first had left. inl left }

  -- one call that leaves the name as it was
  pub stepped : (old new : D) (name : List ℕ) → Elapses place since old new → place new name ≡ place old name → Untouched place since old new name
  stepped old new name time is = record { is = is; was = λ first had left. ⊎_elim inl (λ now. inr (now ∙ is)) (time.nothing_else first name had left) }

  pub joined : (old mid new : D) (name : List ℕ) → Untouched place since old mid name → Untouched place since mid new name → Untouched place since old new name
  joined old mid new name so_far next = record {
    is = next.is ∙ so_far.is;
    was = λ first had left. ⊎_elim (so_far.was first had) (λ now. inr (now ∙ so_far.is)) (next.was first had left);
  }

  -- one call more that leaves the name as it was
  pub goes_on : (old mid new : D) (name : List ℕ) → Untouched place since old mid name → Elapses place since mid new → place new name ≡ place mid name → Untouched place since old new name
  goes_on old mid new name so_far time is = joined old mid new name so_far (stepped mid new name time is)

  -- a new file has a front of the bytes, and all other names stand
  pub record Filling (old now : D) (name bytes rest : List ℕ) : Type 0 where
    pub written : List ℕ
    pub whole : written ++ rest ≡ bytes
    pub is : (place now name).now ≡ File written false
    pub others : OthersUntouched place since old now name

  -- at each moment of two runs, one after the other
  pub then : (old mid new : D) (name : List ℕ) (P : Place → Type 0) → AtEachMoment since old mid name P → AtEachMoment since mid new name P → AtEachMoment since old new name P
  then old mid new name P so_far next first had left = ⊎_elim (so_far first had) inr (next first had left)

  -- one call, after which the name has a place with P
  pub at_step : (old new : D) (name : List ℕ) (P : Place → Type 0) → Elapses place since old new → P (place new name) → AtEachMoment since old new name P
  at_step old new name P time here first had left = ⊎_elim inl (λ now. inr (subst P (sym now) here)) (time.nothing_else first name had left)

  -- a name that is as it was has its old bytes
  pub stands : (old new : D) (name bytes : List ℕ) → Untouched place since old new name → AtEachMoment since old new name (OldOrNew (place old name) bytes)
  stands old new name bytes kept first had left = ⊎_elim inl (λ now. inr (is_old (place old name) had bytes now)) (kept.was first had left)

  -- the same after calls that left it as it was
  pub stands_then : (old mid new : D) (name bytes : List ℕ) → Untouched place since old mid name → AtEachMoment since mid new name (OldOrNew (place mid name) bytes) → AtEachMoment since old new name (OldOrNew (place old name) bytes)
  stands_then old mid new name bytes kept next =
      then old mid new name (OldOrNew (place old name) bytes) (stands old mid name bytes kept) (subst (λ p. AtEachMoment since mid new name (OldOrNew p bytes)) kept.is next)

  -- at the last of these moments too
  pub at_end : ((first disk : D) (name : List ℕ) → since first disk name (place disk name)) → ((disk : D) (name : List ℕ) (had : Place) → since disk disk name had → had ≡ place disk name)
      → (old new : D) (name bytes : List ℕ) → AtEachMoment since old new name (OldOrNew (place old name) bytes) → OldOrNew (place old name) bytes (place new name)
  at_end counts only old new name bytes each =
      ⊎_elim (λ was. is_old (place old name) (place new name) bytes (only old name (place new name) was)) (λ one. one) (each old (place new name) (counts old new name))
