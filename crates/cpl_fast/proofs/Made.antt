-- Sums that were made over exchange cells.
use Rattle.std.proofs.Common.{◌≡◌, ◌∙◌, ℕ, ◌+◌, List, length, subst, sym}
use Rattle.cpl_xgrid.specs.Lists.{XGridLists}
use Rattle.cpl_xgrid.specs.Rows.{rows_of}
use Rattle.cpl_xgrid.specs.declared.parts.Surface.TheVariants.{Ocean}
use Rattle.cpl_xgrid.specs.declared.parts.XRef.{XRef}
use Rattle.cpl_xgrid.specs.declared.parts.XRow.{XRow}
use Rattle.cpl_fast.specs.declared.flows.Flow.{Flow}
use Rattle.cpl_fast.specs.declared.sums.Sums.{Sums}
use Rattle.cpl_fast.specs.declared.sums.Taken.{Taken}
use Rattle.cpl_fast.specs.Sums.{SumsAre, both_taken, in_part, sums_in}
use Rattle.cpl_fast.specs.Surfaces.{ocean_sums, refs_on, taken_to}
use Rattle.cpl_fast.proofs.Places.{total_more}

pub made_in : (sums : Sums) (flows : List Flow) (rows k : ℕ) (refs other : List XRef) → refs ≡ other → SumsAre sums (in_part flows rows k refs) → sums ≡ sums_in flows rows k other
unfolding sums_in
made_in sums flows rows k refs other e are =
    let here : SumsAre sums (in_part flows rows k other) = subst (λ (r : List XRef). SumsAre sums (in_part flows rows k r)) e are in
    λ i. record { heat = here.heat i; water = here.water i; sun = here.sun i; rain = here.rain i }

-- what one cell more takes
pub taken_more : (n : ℕ) (f : ℕ → Taken) → taken_to (n + 1) f ≡ both_taken (taken_to n f) (f n)
taken_more n f =
    let heat = total_more (λ k. (f k).heat) n in
    let water = total_more (λ k. (f k).water) n in
    λ i. record { heat = heat i; water = water i }

pub one_more : (all other next : Taken) (n : ℕ) (f : ℕ → Taken) → next ≡ both_taken all other → all ≡ taken_to n f → other ≡ f n → next ≡ taken_to (n + 1) f
one_more all other next n f e so_far here = e ∙ (λ i. both_taken (so_far i) (here i)) ∙ sym (taken_more n f)

-- the sums over the exchange cells of a cell are those of its part
pub sums_here : (xgrid : XGridLists) (flows : List Flow) (n k : ℕ) (refs : List XRef) (rows : List XRow) (sums : Sums) → rows ≡ rows_of xgrid Ocean → refs ≡ refs_on xgrid Ocean n
    → SumsAre sums (in_part flows (length rows) k refs) → sums ≡ ocean_sums xgrid flows n k
unfolding ocean_sums
sums_here xgrid flows n k refs rows sums rows_is refs_is are =
    made_in sums flows (length (rows_of xgrid Ocean)) k refs (refs_on xgrid Ocean n) refs_is
    (subst (λ (r : List XRow). SumsAre sums (in_part flows (length r) k refs)) rows_is are)
