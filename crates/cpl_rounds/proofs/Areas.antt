-- No fast step changes an area.
use Rattle.std.proofs.Common.{◌≡◌, ◌∙◌, refl, ap, ℕ, zero, suc, ◌+◌, arith, List, map, take}
use Rattle.std.specs.Prelude.{ℤ, ◌+ℤ◌}
use Rattle.cpl_fixed.specs.Amounts.{at}
use Rattle.cpl_fixed.specs.Shares.{share, shares_of}
use Rattle.cpl_fixed.specs.Totals.{total_of}
use Rattle.cpl_xgrid.specs.declared.grid.Grid.{Grid}
use Rattle.cpl_xgrid.specs.declared.parts.XRef.{XRef}
use Rattle.cpl_xgrid.specs.declared.parts.Surface.{Surface}
use Rattle.cpl_xgrid.specs.declared.parts.Surface.TheVariants.{Land, Ocean}
use Rattle.cpl_state.specs.declared.whole.Whole.{Whole}
use Rattle.cpl_state.specs.declared.whole.Mid.{Mid}
use Rattle.cpl_state.specs.States.{all_of_cell, part_count}
use Rattle.cpl_state.specs.Elements.{air_number, area_before, areas_in, areas_on, part_area, refs_of_surface_cell, row_at, rows_before, share_at, surface_number}
use Rattle.cpl_state.specs.FastStep.{fast_after}
use Rattle.cpl_state.specs.CouplingStep.{taken}
use Rattle.cpl_rounds.specs.Rounds.{PlanParts, state_at, mid_at, fast_step}
use Rattle.cpl_rounds.proofs.States.{mid_first, mid_next}

-- AREAS GO BY THE PARTS OF CELLS ALONE

areas_by : (grid : Grid) (a b : Whole) (ref : XRef) (list : Surface) → a.parts ≡ b.parts → areas_on grid a ref list ≡ areas_on grid b ref list
areas_by grid a b ref Land e = refl
areas_by grid a b ref Ocean e = ap (λ (parts : List ℤ). shares_of (row_at grid ref).area (all_of_cell (part_count grid) (surface_number grid ref) parts)) e

pub areas_same : (grid : Grid) (a b : Whole) (ref : XRef) → a.parts ≡ b.parts → areas_in grid a ref ≡ areas_in grid b ref
unfolding areas_in
areas_same grid a b ref e = areas_by grid a b ref ref.list e

pub part_same : (grid : Grid) (a b : Whole) (list : Surface) (c k : ℕ) → a.parts ≡ b.parts → part_area grid a list c k ≡ part_area grid b list c k
unfolding part_area
part_same grid a b list c k e = λ t. total_of (map (λ ref. at (areas_same grid a b ref e t) k) (refs_of_surface_cell grid list c))

before_same : (grid : Grid) (a b : Whole) (ref : XRef) (k : ℕ) → a.parts ≡ b.parts → area_before grid a ref k ≡ area_before grid b ref k
unfolding area_before
before_same grid a b ref k e = λ t. rows_before grid ref ref.list +ℤ total_of (take k (areas_same grid a b ref e t))

pub share_same : (grid : Grid) (a b : Whole) (amount : ℤ) (ref : XRef) (k : ℕ) → a.parts ≡ b.parts → share_at grid a amount ref k ≡ share_at grid b amount ref k
unfolding share_at
share_same grid a b amount ref k e =
    λ t. share amount (before_same grid a b ref k e t) (before_same grid a b ref k e t +ℤ at (areas_same grid a b ref e t) k) (at grid.air.area (air_number grid ref))

-- THE PARTS IN A COUPLING STEP

taken_parts : (grid : Grid) (whole : Whole) → (taken grid whole).whole.parts ≡ whole.parts
unfolding taken
taken_parts grid whole = refl

fast_parts : (plan : PlanParts) (n i : ℕ) → (fast_after (fast_step plan n i)).whole.parts ≡ (mid_at plan n i).whole.parts
unfolding fast_after
fast_parts plan n i = refl

pub still_parts : (plan : PlanParts) (n i : ℕ) → (mid_at plan n i).whole.parts ≡ (state_at plan n).parts
still_parts plan n zero = ap (λ (mid : Mid). mid.whole.parts) (mid_first plan n) ∙ taken_parts plan.grid (state_at plan n)
still_parts plan n (suc i) =
    let next : suc i ≡ i + 1 = omega arith in
    ap (λ (m : ℕ). (mid_at plan n m).whole.parts) next
    ∙ ap (λ (mid : Mid). mid.whole.parts) (mid_next plan n i)
    ∙ fast_parts plan n i
    ∙ still_parts plan n i
