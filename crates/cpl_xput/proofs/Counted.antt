-- How many elements exchange cells have.
use Rattle.std.proofs.Common.{ℕ, ◌+◌, ◌*◌, ◌<◌, ◌≤◌, arith, List, length, get_or, take}
use Rattle.std.proofs.lemmas.List.Sums.{sum_by-le, sum_by_more_le}
use Rattle.cpl_fixed.specs.declared.limits.TheConstants.{MOST_CATEGORIES, MOST_EXCHANGE_CELLS}
use Rattle.cpl_xgrid.specs.declared.parts.XRef.{XRef}
use Rattle.cpl_xgrid.specs.declared.parts.Surface.{Surface}
use Rattle.cpl_xgrid.specs.declared.parts.Surface.TheVariants.{Land, Ocean}
use Rattle.cpl_xput.specs.Exchanges.{elements_on, elements_in}

-- an exchange cell has at most one element for each part
few_on : (categories : ℕ) (list : Surface) → categories ≤ MOST_CATEGORIES → elements_on categories list ≤ MOST_CATEGORIES + 1
few_on categories Land most = omega arith
few_on categories Ocean most = omega arith

-- the elements of the first exchange cells and those of the next one
pub few_elements : (categories : ℕ) (refs : List XRef) (n : ℕ) (d : XRef) → categories ≤ MOST_CATEGORIES → length refs ≤ MOST_EXCHANGE_CELLS → n < length refs
    → elements_in categories (take n refs) + elements_on categories (get_or refs n d).list ≤ MOST_EXCHANGE_CELLS * (MOST_CATEGORIES + 1)
few_elements categories refs n d most few within =
    let has = λ (ref : XRef). elements_on categories ref.list in
    let more = sum_by_more_le has refs n d within in
    let all = sum_by-le has (MOST_CATEGORIES + 1) refs (λ k e h. few_on categories (get_or refs k e).list most) in
    omega arith
