-- The first fault of items that are judged one after another.
use Rattle.std.proofs.Common.{◌≡◌, refl, sym, ◌∙◌, ap, subst, ℕ, zero, suc, ◌+◌, ◌<◌, arith, List, [], ◌∷◌, length, get_or, drop, Option, Some, None}
use Rattle.cpl_xgrid.specs.declared.error.XGridError.{XGridError}
use Rattle.cpl_xgrid.specs.declared.error.XGridError.TheVariants.{BadIndex, ZeroArea, AirSum, LandSum, OceanSum, Outlet, NoOutlet, Memory}
use Rattle.cpl_xgrid.specs.Rules.{or_else, first_fault, IsFirstFault}

-- no item before the n-th has a fault
abbrev pub JudgedTo : {T : Type 0} → (ℕ → T → Option XGridError) → List T → ℕ → Type 0
JudgedTo judge items n = first_fault judge 0 items ≡ first_fault judge n (drop n items)

-- rules that judge each item alike have the same first fault
pub faults_agree : {T : Type 0} (judge other : ℕ → T → Option XGridError) (n : ℕ) (items : List T)
    → ((k : ℕ) → k < n + length items → (x : T) → judge k x ≡ other k x) → first_fault judge n items ≡ first_fault other n items
faults_agree judge other n [] agree = refl
faults_agree judge other n (item ∷ items) agree =
    ap (λ (o : Option XGridError). or_else o (first_fault judge (n + 1) items)) (agree n (omega arith) item)
    ∙ ap (or_else (other n item)) (faults_agree judge other (n + 1) items (λ k h x. agree k (omega arith) x))

-- no fault is of neither part
pub first_none : (a b : Option XGridError) → or_else a b ≡ None → a ≡ None
first_none None b none = refl
first_none (Some fault) b none = absurd (cc)

pub rest_none : (a b : Option XGridError) → or_else a b ≡ None → b ≡ None
rest_none None b none = none
rest_none (Some fault) b none = absurd (cc)

-- where no item has a fault, each has none
pub none_faulty : {T : Type 0} (judge : ℕ → T → Option XGridError) (n : ℕ) (items : List T) → first_fault judge n items ≡ None → (k : ℕ) (d : T) → k < length items → judge (n + k) (get_or items k d) ≡ None
none_faulty judge n [] none k d h = absurd (omega arith)
none_faulty judge n (item ∷ items) none zero d h =
    let same : n + 0 ≡ n = omega arith in
    ap (λ (m : ℕ). judge m item) same ∙ first_none (judge n item) (first_fault judge (n + 1) items) none
none_faulty judge n (item ∷ items) none (suc k) d h =
    let same : n + suc k ≡ n + 1 + k = omega arith in
    ap (λ (m : ℕ). judge m (get_or items k d)) same
    ∙ none_faulty judge (n + 1) items (rest_none (judge n item) (first_fault judge (n + 1) items) none) k d (omega arith)

-- the fault that was found is the first
pub found_first : (found : Option XGridError) (fault : XGridError) → found ≡ Some fault → IsFirstFault found fault
found_first found (BadIndex list n) e = e
found_first found (ZeroArea list n) e = e
found_first found (AirSum n sum area) e = e
found_first found (LandSum n sum area) e = e
found_first found (OceanSum n sum area) e = e
found_first found (Outlet n) e = e
found_first found (NoOutlet n) e = e
found_first found Memory e = tt

-- a fault of the first part is that of the whole, and one of a later part where the first has none
pub first_part : (a b : Option XGridError) (fault : XGridError) → IsFirstFault a fault → IsFirstFault (or_else a b) fault
first_part a b (BadIndex list n) e = ap (λ (o : Option XGridError). or_else o b) e
first_part a b (ZeroArea list n) e = ap (λ (o : Option XGridError). or_else o b) e
first_part a b (AirSum n sum area) e = ap (λ (o : Option XGridError). or_else o b) e
first_part a b (LandSum n sum area) e = ap (λ (o : Option XGridError). or_else o b) e
first_part a b (OceanSum n sum area) e = ap (λ (o : Option XGridError). or_else o b) e
first_part a b (Outlet n) e = ap (λ (o : Option XGridError). or_else o b) e
first_part a b (NoOutlet n) e = ap (λ (o : Option XGridError). or_else o b) e
first_part a b Memory e = tt

pub later_part : (a b : Option XGridError) (fault : XGridError) → a ≡ None → IsFirstFault b fault → IsFirstFault (or_else a b) fault
later_part a b fault none later = subst (λ (o : Option XGridError). IsFirstFault (or_else o b) fault) (sym none) later

pub same_first : (a b : Option XGridError) (fault : XGridError) → a ≡ b → IsFirstFault a fault → IsFirstFault b fault
same_first a b fault same first = subst (λ (o : Option XGridError). IsFirstFault o fault) same first
