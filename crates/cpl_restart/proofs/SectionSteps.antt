-- The sections of a restart, one after the other.
use Rattle.std.proofs.Common.{◌≡◌, ℕ, ◌+◌, List, [], ◌∷◌, ℤ, Bool, true, false, Result, Ok, Err, refl, sym, ap, ◌∙◌}
use Rattle.std.specs.Bool.{OnFalse}
use Rattle.cpl_fixed.specs.Results.{◌>>=◌, Fails}
use Rattle.cpl_xgrid.specs.declared.grid.Grid.{Grid}
use Rattle.cpl_restart.specs.Sections.{Reads, is_memory}
use Rattle.cpl_restart.specs.RestartBytes.{sections_at, state_at, summed_at, whole_with}
use Rattle.cpl_restart.specs.Counts.{AreCounts, counts_in}
use Rattle.cpl_restart.specs.declared.counts.Counts.{Counts}
use Rattle.cpl_restart.specs.declared.start_error.StartError.{StartError}
use Rattle.cpl_restart.specs.declared.version.Version.{Version}
use Rattle.cpl_restart.proofs.Parts.{bind_at}

-- where a fault is the answer's of a part, it is that of the whole
pub fails_more : {A B : Type 0} (e : StartError) (a : Result A StartError) (b : Result B StartError) → (a ≡ Err e → b ≡ Err e) → Fails is_memory e a → Fails is_memory e b
fails_more {A} {B} e a b more fails = mapped (is_memory e) fails
  where
    mapped : (free : Bool) → OnFalse free (a ≡ Err e) → OnFalse free (b ≡ Err e)
    mapped true fails = tt
    mapped false fails = more fails

pub exits : {X Y : Type 0} (view : X → Y) (r : Result X StartError) (e y : StartError) (answer : Result Y StartError) → r ≡ Err y → y ≡ e → Fails is_memory e answer → Reads view r answer
exits view r e y answer is same fails = rw (is, same) fails

-- a section more before what was read
abbrev pub with_first : List ℤ → Result (List (List ℤ) × List ℕ) StartError → Result (List (List ℤ) × List ℕ) StartError
with_first first others = others >>= λ others. Ok (first ∷ others.0, others.1)

pub opened : (version : Version) (section n : ℕ) (counts : List ℕ) (bytes : List ℕ) (x : List ℤ × List ℕ) → summed_at version section n bytes ≡ Ok x
    → sections_at version section (n ∷ counts) bytes ≡ with_first x.0 (sections_at version (section + 1) counts x.1)
unfolding sections_at
opened version section n counts bytes x e =
    bind_at (summed_at version section n bytes) x (λ first. with_first first.0 (sections_at version (section + 1) counts first.1)) e

pub fails_on : (e : StartError) (version : Version) (section n : ℕ) (counts : List ℕ) (bytes : List ℕ) (x : List ℤ × List ℕ) → summed_at version section n bytes ≡ Ok x
    → Fails is_memory e (sections_at version (section + 1) counts x.1) → Fails is_memory e (sections_at version section (n ∷ counts) bytes)
fails_on e version section n counts bytes x is fails =
    fails_more e (sections_at version (section + 1) counts x.1) (sections_at version section (n ∷ counts) bytes) (λ later. opened version section n counts bytes x is ∙ ap (with_first x.0) later) fails

pub fails_here : (e : StartError) (version : Version) (section n : ℕ) (counts : List ℕ) (bytes : List ℕ) → Fails is_memory e (summed_at version section n bytes) → Fails is_memory e (sections_at version section (n ∷ counts) bytes)
unfolding sections_at
fails_here e version section n counts bytes fails =
    fails_more e (summed_at version section n bytes) (sections_at version section (n ∷ counts) bytes) (λ here. ap (λ (q : Result (List ℤ × List ℕ) StartError). q >>= λ first. with_first first.0 (sections_at version (section + 1) counts first.1)) here) fails

pub read_on : (version : Version) (section n : ℕ) (counts : List ℕ) (bytes : List ℕ) (x : List ℤ × List ℕ) (y : List (List ℤ) × List ℕ) → summed_at version section n bytes ≡ Ok x
    → sections_at version (section + 1) counts x.1 ≡ Ok y → sections_at version section (n ∷ counts) bytes ≡ Ok (x.0 ∷ y.0, y.1)
read_on version section n counts bytes x y is later = opened version section n counts bytes x is ∙ ap (with_first x.0) later

pub none_left : (version : Version) (section : ℕ) (bytes : List ℕ) → sections_at version section [] bytes ≡ Ok ([], bytes)
unfolding sections_at
none_left version section bytes = refl

pub state_fails : (e : StartError) (grid : Grid) (counts : Counts) (version : Version) (elapsed : ℤ) (bytes : List ℕ) → AreCounts grid counts
    → Fails is_memory e (sections_at version 1 (counts_in counts) bytes) → Fails is_memory e (state_at grid version elapsed bytes)
unfolding state_at
state_fails e grid counts version elapsed bytes are fails =
    fails_more e (sections_at version 1 (counts_in counts) bytes) (state_at grid version elapsed bytes) (λ h. ap (λ (q : Result (List (List ℤ) × List ℕ) StartError). q >>= λ sections. Ok (whole_with elapsed sections.0, sections.1)) (ap (λ ns. sections_at version 1 ns bytes) (sym are.are) ∙ h)) fails

pub state_reads : (grid : Grid) (counts : Counts) (version : Version) (elapsed same : ℤ) (bytes : List ℕ) (x : List (List ℤ) × List ℕ) → AreCounts grid counts → same ≡ elapsed
    → sections_at version 1 (counts_in counts) bytes ≡ Ok x → state_at grid version elapsed bytes ≡ Ok (whole_with same x.0, x.1)
unfolding state_at
state_reads grid counts version elapsed same bytes x are is h =
    ap (λ (q : Result (List (List ℤ) × List ℕ) StartError). q >>= λ sections. Ok (whole_with elapsed sections.0, sections.1)) (ap (λ ns. sections_at version 1 ns bytes) (sym are.are) ∙ h)
    ∙ ap (λ (e : ℤ). Ok (whole_with e x.0, x.1)) (sym is)
