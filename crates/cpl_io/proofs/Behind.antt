-- Where a name leads to, link by link.
use Rattle.std.proofs.Common.{◌≡◌, ◌⊎◌, inl, inr, refl, ◌∙◌, ap, subst, ℕ, zero, suc, ◌<◌, List, Some, None, arith}
use Rattle.cpl_io.specs.declared.disk.Found.{Found}
use Rattle.cpl_io.specs.declared.disk.Found.TheVariants as seen
use Rattle.cpl_io.specs.Disk.{Place, Nothing, Link, Other, IsFile, Shows}
use Rattle.cpl_io.specs.Whole.{next, behind, target}

pub behind_link : (places : List ℕ → Place) (n m : ℕ) (name path : List ℕ) → n ≡ suc m → (places name).now ≡ Link path → behind n places name ≡ behind m places path
unfolding behind
behind_link places zero m name path less is = absurd (omega arith)
behind_link places (suc n) m name path less is =
    let same : n ≡ m = omega arith in
    ap (λ thing. next thing name (λ path. behind n places path)) is ∙ ap (λ (k : ℕ). behind k places path) same

pub behind_nothing : (places : List ℕ → Place) (n : ℕ) (name : List ℕ) → 0 < n → (places name).now ≡ Nothing → behind n places name ≡ Some name
unfolding behind
behind_nothing places zero name less is = absurd (omega arith)
behind_nothing places (suc n) name less is = ap (λ thing. next thing name (λ path. behind n places path)) is

pub behind_file : (places : List ℕ → Place) (n : ℕ) (name : List ℕ) → 0 < n → IsFile (places name).now → behind n places name ≡ Some name
unfolding behind
behind_file places zero name less is = absurd (omega arith)
behind_file places (suc n) name less is = ap (λ thing. next thing name (λ path. behind n places path)) is.2

pub behind_other : (places : List ℕ → Place) (n : ℕ) (name : List ℕ) → 0 < n → (places name).now ≡ Other → behind n places name ≡ None
unfolding behind
behind_other places zero name less is = absurd (omega arith)
behind_other places (suc n) name less is = ap (λ thing. next thing name (λ path. behind n places path)) is

pub behind_none : (places : List ℕ → Place) (n : ℕ) (name : List ℕ) → n ≡ 0 → behind n places name ≡ None
unfolding behind
behind_none places zero name is = refl
behind_none places (suc n) name is = absurd (omega arith)

-- what was seen now was so before
pub shown : (found : Found) (old now : List ℕ → Place) (asked path : List ℕ) → asked ≡ path → now path ≡ old path → Shows found (now asked).now → Shows found (old path).now
shown found old now asked path same is shows = subst (λ (p : Place). Shows found p.now) is (subst (λ (n : List ℕ). Shows found (now n).now) same shows)

pub behind_here : (found : Found) (places : List ℕ → Place) (n : ℕ) (name : List ℕ) → (found ≡ seen.Nothing) ⊎ (found ≡ seen.File) → 0 < n → Shows found (places name).now → behind n places name ≡ Some name
behind_here found places n name (inl is) less shows = behind_nothing places n name less (subst (λ found. Shows found (places name).now) is shows)
behind_here found places n name (inr is) less shows = behind_file places n name less (subst (λ found. Shows found (places name).now) is shows)

pub begins : (places : List ℕ → Place) (path name : List ℕ) → path ≡ name → behind 40 places path ≡ target places name
unfolding target
begins places path name same = ap (behind 40 places) same
