-- What a step of reading took, and which way a test went.
use Rattle.std.proofs.Common.{◌≡◌, ℕ, List, ◌++◌, refl, Bool, true, false, cond, Option, Some, None, ◌⊎◌, inl, inr}
use Rattle.cpl_lines.specs.Reading.{◌>>=◌}

-- what was taken stands first in its spelling, is valid, and the rest comes after it
abbrev pub Takes : {A : Type 0} → (A → List ℕ) → (A → Type 0) → List ℕ → A × List ℕ → Type 0
Takes text IsValid bytes x = (bytes ≡ text x.0 ++ x.1) × IsValid x.0

-- a test that let something pass
pub cond_some : {A : Type 0} (test : Bool) (x y : A) → cond test (Some x) None ≡ Some y → (test ≡ true) × (x ≡ y)
cond_some true x y e = (refl, cc)
cond_some false x y e = absurd cc

-- which way a test went
pub chosen : {A : Type 0} (test : Bool) (x y z : A) → cond test x y ≡ z → ((test ≡ true) × (x ≡ z)) ⊎ ((test ≡ false) × (y ≡ z))
chosen true x y z e = inl (refl, e)
chosen false x y z e = inr (refl, e)

-- a step that found something
pub bind_some : {A B : Type 0} (step : Option A) (next : A → Option B) (y : B) → (step >>= next) ≡ Some y
    → (x : A) × (step ≡ Some x) × (next x ≡ Some y)
bind_some (Some x) next y e = (x, refl, e)
bind_some None next y e = absurd cc

-- what was found is one thing
pub some_is : {A : Type 0} {x y : A} → Some x ≡ Some y → x ≡ y
some_is e = cc
