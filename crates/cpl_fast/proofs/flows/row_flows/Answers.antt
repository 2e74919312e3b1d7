use Rattle.std.proofs.Common.{◌≡◌, ◌∙◌, rules, sym, ap, arith, length, ℕ, slice_set, w64, to_z, of_z}
use Rattle.std.specs.Int.RustNames.{FitsSigned}
use Rattle.std.specs.Prelude.{pos}
use Rattle.std.proofs.lemmas.Int.{ints}
use Rattle.cpl_fast.specs.declared.flows.Flow.{Flow}
use Rattle.cpl_fast.specs.Flows.{area_in, flow_again, flow_at, flow_in}
use Rattle.cpl_fast.specs.Places.{place_in}
use Rattle.cpl_fast.proofs.Nothing.{none_again}
use Rattle.cpl_fast.proofs.Written.{all_written, one_passed, one_written}
use Rattle.cpl_fast.proofs.flows.row_flows.Goals as goal
use Rattle.cpl_fast.proofs.flows.row_flows.Goals.{then-area-ne0, else-area-ne0}

pub loop-k-preserved : goal.loop-k-preserved
loop-k-preserved c =
    let tables = c.args.tables.now in
    let row = c.args.row in
    let k = c.loop-k.k in
    let inv = c.loop-k.invariant in
    let rows = length tables.links.items in
    let f = flow_again c.args.rates.now c.args.sky.now tables c.args.parts.now c.args.flows.now row in
    elim c.if-area-ne0.branch [
      | then-area-ne0 w ↦
          let set = w.flows-is ∙ ap (λ (p : ℕ). slice_set c.loop-k.flows p w.element_flow-flow.result) w.place-place.ensures.value in
          let stood : (flow_at c.loop-k.flows w.place-place.result).sun ≡ (flow_at c.args.flows.now (place_in rows row k)).sun =
          ap (λ (p : ℕ). (flow_at c.loop-k.flows p).sun) w.place-place.ensures.value ∙ ap (λ (flow : Flow). flow.sun) (inv.ahead k (omega arith)) in
          let fits : FitsSigned w64 (flow_at c.loop-k.flows w.place-place.result).sun = search rules in
          let read : to_z w64 (of_z w64 (flow_at c.loop-k.flows w.place-place.result).sun) ≡ (flow_at c.loop-k.flows w.place-place.result).sun = omega (arith, ints, fits) in
          let own = w.element_flow-flow.ensures ∙ ap (flow_in c.args.rates.now c.args.sky.now tables c.args.parts.now row k) (read ∙ stood) in
          one_written c.args.flows.now c.loop-k.flows _ rows tables.width row k f w.element_flow-flow.result c.requires.row (omega arith) (omega arith) inv set own
      | else-area-ne0 w ↦
          let empty : area_in tables row k ≡ pos 0 = omega (arith, ints, c.area.ensures, w.if-area-ne0.false) in
          let clear = c.requires.clear k (omega arith) empty in
          one_passed c.args.flows.now c.loop-k.flows _ rows row k f inv w.flows-is (clear ∙ sym (none_again c.args.rates.now c.args.sky.now tables c.args.parts.now c.args.flows.now row k empty clear))
    ]

-- those behind the ones that are looked at have no area, and nothing flows through them
pub returns-clause-row : goal.returns-clause-row
returns-clause-row c =
    let tables = c.args.tables.now in
    let row = c.args.row in
    all_written tables c.requires.fit.used c.args.flows.now c.loop-k.flows row c.used-k-end.result c.loop-k.k (flow_again c.args.rates.now c.args.sky.now tables c.args.parts.now c.args.flows.now row)
    c.requires.row c.used-k-end.ensures.value (omega arith) c.loop-k.invariant
    (λ k l empty. (let clear = c.requires.clear k l empty in clear ∙ sym (none_again c.args.rates.now c.args.sky.now tables c.args.parts.now c.args.flows.now row k empty clear)))
