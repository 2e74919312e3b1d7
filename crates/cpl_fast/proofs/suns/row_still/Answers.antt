use Rattle.std.proofs.Common.{◌≡◌, ◌∙◌, refl, ap, arith, length, ℕ, slice_set}
use Rattle.std.specs.Prelude.{pos}
use Rattle.std.proofs.lemmas.Int.{ints}
use Rattle.cpl_fast.specs.Flows.{area_in, no_flow}
use Rattle.cpl_fast.proofs.Written.{one_passed, one_written}
use Rattle.cpl_fast.proofs.suns.row_still.Goals as goal
use Rattle.cpl_fast.proofs.suns.row_still.Goals.{then-area-ne0, else-area-ne0}

pub loop-k-preserved : goal.loop-k-preserved
loop-k-preserved c =
    let tables = c.args.tables.now in
    let row = c.args.row in
    let k = c.loop-k.k in
    let rows = length tables.links.items in
    elim c.if-area-ne0.branch [
      | then-area-ne0 w ↦
          let set = w.flows-is ∙ ap (λ (p : ℕ). slice_set c.loop-k.flows p no_flow) w.place.ensures.value in
          one_written c.args.flows.now c.loop-k.flows _ rows tables.width row k (λ j. no_flow) no_flow c.requires.row (omega arith) (omega arith) c.loop-k.invariant set refl
      | else-area-ne0 w ↦
          let empty : area_in tables row k ≡ pos 0 = omega (arith, ints, c.area.ensures, w.if-area-ne0.false) in
          one_passed c.args.flows.now c.loop-k.flows _ rows row k (λ j. no_flow) c.loop-k.invariant w.flows-is (c.requires.clear k (omega arith) empty)
    ]
