use Rattle.std.proofs.Common.{◌≡◌, ◌∙◌, ap, ℕ, ◌<◌, List, length, arith}
use Rattle.std.specs.Prelude.{ℤ}
use Rattle.std.proofs.lemmas.Int.{ints}
use Rattle.cpl_state.specs.Diffusion.{at}
use Rattle.cpl_diffusion.specs.Across.{faces_at}
use Rattle.cpl_diffusion.specs.Steps.{AreFaces, between, flow_next, flow_previous}
use Rattle.cpl_diffusion.specs.declared.faces.Faces.{Faces}
use Rattle.cpl_diffusion.proofs.Across.{found_before}
use Rattle.cpl_diffusion.proofs.Between.{amount_read, area_read, small_read, between_small, between_turned}
use Rattle.cpl_diffusion.proofs.sweep.previous_flow.Goals as goal

-- the flow out of the previous cell, which was taken before
taken : (area xs flows : List ℤ) (faces : List Faces) → AreFaces area faces → (n : ℕ) → n < length area → ((k : ℕ) → k < n → at flows k ≡ flow_next area xs faces k) → (faces_at faces n).previous < n → at flows (faces_at faces n).previous ≡ between area xs (faces_at faces n).previous n
taken area xs flows faces are n l flows_are before =
    flows_are (faces_at faces n).previous before ∙ ap (between area xs (faces_at faces n).previous) (are.kept n l before)

pub overflow_sub-result : goal.overflow_sub-result
overflow_sub-result c =
    let previous = (faces_at c.args.faces.now c.args.n).previous in
    let small = between_small c.args.area.now c.requires.faces.areas c.args.amounts.now c.requires.amounts previous c.args.n (omega arith) c.requires.within in
    let e = taken c.args.area.now c.args.amounts.now c.args.flows.now c.args.faces.now c.requires.faces c.args.n c.requires.within c.requires.flows c.if-previous-n.true in
    omega (arith, ints)

pub returns-then-previous-n-clause-value : goal.returns-then-previous-n-clause-value
returns-then-previous-n-clause-value c =
    let area = c.args.area.now in
    let xs = c.args.amounts.now in
    let n = c.args.n in
    let previous = (faces_at c.args.faces.now n).previous in
    let below : previous < length area = omega arith in
    let small = between_small area c.requires.faces.areas xs c.requires.amounts previous n below c.requires.within in
    let turned = between_turned area c.requires.faces.areas xs c.requires.amounts n previous c.requires.within below in
    let e = taken area xs c.args.flows.now c.args.faces.now c.requires.faces n c.requires.within c.requires.flows c.if-previous-n.true in
    let found : flow_previous area xs c.args.faces.now n ≡ between area xs n previous = ap (between area xs n) (found_before (length area) n previous c.if-previous-n.true) in
    omega (arith, ints)

pub returns-then-previous-n-clause-small : goal.returns-then-previous-n-clause-small
returns-then-previous-n-clause-small c =
    let previous = (faces_at c.args.faces.now c.args.n).previous in
    let small = between_small c.args.area.now c.requires.faces.areas c.args.amounts.now c.requires.amounts previous c.args.n (omega arith) c.requires.within in
    let e = taken c.args.area.now c.args.amounts.now c.args.flows.now c.args.faces.now c.requires.faces c.args.n c.requires.within c.requires.flows c.if-previous-n.true in
    (omega (arith, ints), omega (arith, ints))

pub flow_between-requires-clause-amount : goal.flow_between-requires-clause-amount
flow_between-requires-clause-amount c = amount_read (length c.args.area.now) c.args.amounts.now c.requires.amounts c.args.n c.requires.within

pub flow_between-requires-clause-other_amount : goal.flow_between-requires-clause-other_amount
flow_between-requires-clause-other_amount c = amount_read (length c.args.area.now) c.args.amounts.now c.requires.amounts _ (c.requires.faces.lone c.args.n c.requires.within c.if-previous-n.false).1

pub flow_between-requires-clause-area : goal.flow_between-requires-clause-area
flow_between-requires-clause-area c = area_read c.args.area.now c.requires.faces.areas c.args.n c.requires.within

pub flow_between-requires-clause-other_area : goal.flow_between-requires-clause-other_area
flow_between-requires-clause-other_area c = area_read c.args.area.now c.requires.faces.areas _ (c.requires.faces.lone c.args.n c.requires.within c.if-previous-n.false).1

pub returns-else-previous-n-clause-small : goal.returns-else-previous-n-clause-small
returns-else-previous-n-clause-small c =
    small_read c.args.area.now c.requires.faces.areas c.args.amounts.now c.requires.amounts c.args.n _ c.requires.within (c.requires.faces.lone c.args.n c.requires.within c.if-previous-n.false).1 c.flow_between.result c.flow_between.ensures
