-- A reading, step by step.
use Rattle.std.proofs.Common.{◌≡◌, ℕ, List, ◌++◌, Result, Ok, sym, subst, ap, ◌∙◌, append_assoc}
use Rattle.cpl_fixed.specs.Results.{◌>>=◌}
use Rattle.cpl_restart.specs.Sections.{Reads}
use Rattle.cpl_restart.specs.declared.start_error.StartError.{StartError}

-- past a part that was read
pub reads_on : {X Y A : Type 0} (view : X → Y) (r : Result X StartError) (part : Result A StartError) (x : A) (rest : A → Result Y StartError)
    → part ≡ Ok x → Reads view r (rest x) → Reads view r (part >>= rest)
reads_on view r part x rest is reads = subst (λ (q : Result _ StartError). Reads view r (q >>= rest)) (sym is) reads

-- what was appended, moved to what comes behind it
pub one_before : (before after text behind : List ℕ) → after ≡ before ++ text → after ++ behind ≡ before ++ (text ++ behind)
one_before before after text behind e = ap (λ (t : List ℕ). t ++ behind) e ∙ append_assoc before text behind
