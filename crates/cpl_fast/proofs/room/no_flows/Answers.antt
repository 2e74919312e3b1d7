use Rattle.std.proofs.Common.{◌≡◌, ◌∙◌, ap, ℕ, List, replicate, arith, inl, inr}
use Rattle.std.proofs.lemmas.Bool.{cases_lt}
use Rattle.std.proofs.lemmas.List.{get_or-replicate, get_or_past, length-replicate}
use Rattle.cpl_fast.specs.declared.flows.Flow.{Flow}
use Rattle.cpl_fast.specs.Flows.{flow_at, no_flow}
use Rattle.cpl_fast.proofs.room.no_flows.Goals as goal

-- each item of such a list is the same, and so is what would be read past its end
none_at : (flows : List Flow) (count : ℕ) → flows ≡ replicate count no_flow → (n : ℕ) → flow_at flows n ≡ no_flow
none_at flows count same n = elim (cases_lt n count) [
  | inl l ↦ ap (λ (fs : List Flow). flow_at fs n) same ∙ get_or-replicate count n no_flow no_flow l
  | inr past ↦ ap (λ (fs : List Flow). flow_at fs n) same ∙ get_or_past (replicate count no_flow) n no_flow (omega (arith, past, length-replicate count no_flow))
]

pub returns-clause-none : goal.returns-clause-none
returns-clause-none c =
    let same : c.in_ok-flows.flows.items ≡ replicate c.args.count no_flow = c.in_ok-flows.ensures.items_if_clones_equal (λ y e. e) in
    none_at c.in_ok-flows.flows.items c.args.count same
