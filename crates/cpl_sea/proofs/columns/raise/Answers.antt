use Rattle.std.proofs.Common.{◌≡◌, ◌∙◌, sym, ap, subst, below_more, get_or-set_same, get_or-set_other, arith, ◌<◌, pos, ℤ, List, length, slice_set}
use Rattle.std.proofs.lemmas.Int.{ints}
use Rattle.cpl_fixed.specs.Amounts.{at}
use Rattle.cpl_transport.specs.Heights.{IsHeight}
use Rattle.cpl_transport.proofs.Bounds.{read}
use Rattle.cpl_xgrid.specs.Lists.{IsArea}
use Rattle.cpl_sea.specs.Passes.{height_over}
use Rattle.cpl_sea.proofs.Writes.{at_all}
use Rattle.cpl_sea.proofs.columns.raise.Goals as goal

own_height : (x : ℤ) → IsHeight x → read x ≡ x
own_height x h = omega (arith, ints, h.0, h.1)

own_area : (x : ℤ) → IsArea x → read x ≡ x
own_area x h = omega (arith, ints, h.0, h.1)

pub loop-n-preserved : goal.loop-n-preserved
loop-n-preserved c =
    let n = c.loop-n.n in
    let heights = c.loop-n.heights in
    let mesh = c.args.mesh.now in
    let count = length c.args.heights.now in
    let h = c.height_over.result in
    let below : n < length heights = omega arith in
    let own = own_height h c.height_over.ensures.range in
    let area : read (at c.as_slice-area.result.now n) ≡ at mesh.area n =
    ap (λ (xs : List ℤ). read (at xs n)) c.as_slice-area.ensures ∙ own_area (at mesh.area n) (at_all IsArea mesh.area n c.requires.mesh.each (omega (arith, c.requires.mesh.count))) in
    let value : read h ≡ height_over (at mesh.area n) c.args.layers count c.args.water.now n =
    own ∙ c.height_over.ensures.value ∙ ap (λ (a : ℤ). height_over a c.args.layers count c.args.water.now n) area in
    record {
      heights = below_more (λ k. at (slice_set heights n (read h)) k ≡ height_over (at mesh.area k) c.args.layers count c.args.water.now k) n
          (λ k l. get_or-set_other heights n k (read h) (pos 0) (λ e. omega arith) ∙ c.loop-n.invariant.heights k l)
          (get_or-set_same heights n (read h) (pos 0) below ∙ value);
      range = below_more (λ k. IsHeight (at (slice_set heights n (read h)) k)) n
          (λ k l. subst IsHeight (sym (get_or-set_other heights n k (read h) (pos 0) (λ e. omega arith))) (c.loop-n.invariant.range k l))
          (subst IsHeight (sym (get_or-set_same heights n (read h) (pos 0) below)) (subst IsHeight (sym own) c.height_over.ensures.range));
    }
