use Rattle.std.proofs.Common.{◌≡◌, ◌∙◌, sym, ap, subst, ℕ, ◌+◌, arith, to_z, of_z, w64, slice_set, length}
use Rattle.std.specs.Prelude.{pos, ◌+ℤ◌, ◌-ℤ◌}
use Rattle.std.proofs.lemmas.Int.{ints}
use Rattle.cpl_fixed.specs.Shares.{part_of, share}
use Rattle.cpl_state.specs.FastStep.{albedo}
use Rattle.cpl_fast.specs.declared.flows.Flow.{Flow}
use Rattle.cpl_fast.specs.declared.portions.Portions.{Portions}
use Rattle.cpl_fast.specs.Flows.{ArePortions, area_in, before_in, flow_at}
use Rattle.cpl_fast.specs.Suns.{only_sun, sun_in}
use Rattle.cpl_fast.proofs.Nothing.{no_sun_in}
use Rattle.cpl_fast.proofs.Parts.{amount_passed, area_read}
use Rattle.cpl_fast.proofs.Places.{before_more}
use Rattle.cpl_fast.proofs.Written.{all_written, one_passed, one_written}
use Rattle.cpl_fast.proofs.suns.row_suns.Goals as goal
use Rattle.cpl_fast.proofs.suns.row_suns.Goals.{then-b-ne0, else-b-ne0}

pub next-share-requires-clause-weight : goal.next-share-requires-clause-weight
next-share-requires-clause-weight c = let least = (c.requires.can c.loop-k.k (omega arith)).least in omega (arith, ints, c.area-b.ensures, least)

pub returns-clause-row : goal.returns-clause-row
returns-clause-row c =
    let tables = c.args.tables.now in
    let row = c.args.row in
    let shares = c.args.portions.now in
    let own = λ (j : ℕ). only_sun (sun_in c.args.rates.now c.args.list shares.amount shares.whole tables row j) in
    all_written tables c.requires.fit.used c.args.flows.now c.loop-k.flows row c.used-k-end.result c.loop-k.k own c.requires.row c.used-k-end.ensures.value (omega arith) c.loop-k.invariant.flows
    (λ j l empty. c.requires.clear j l ∙ (λ i. only_sun (sym (no_sun_in c.args.rates.now c.args.list shares.amount shares.whole tables row j empty) i)))

pub next-share-requires-clause-within : goal.next-share-requires-clause-within
next-share-requires-clause-within c =
    let can = c.requires.can c.loop-k.k (omega arith) in
    let low = can.least in let before = can.before in let within = can.within in let limit = can.range.1 in let some = can.range.0 in
    let b = area_read c.area-b.result (area_in c.args.tables.now c.args.row c.loop-k.k) c.args.portions.now.whole c.area-b.ensures low (omega (arith, ints)) limit in
    let from = c.loop-k.invariant.from in
    let whole = c.loop-k.invariant.whole in
    omega (arith, ints, b, from, whole, within)

pub loop-k-preserved : goal.loop-k-preserved
unfolding sun_in
loop-k-preserved c =
    let tables = c.args.tables.now in
    let rates = c.args.rates.now in
    let list = c.args.list in
    let row = c.args.row in
    let k = c.loop-k.k in
    let can = c.requires.can k (omega arith) in
    let low = can.least in let before = can.before in let within = can.within in let limit = can.range.1 in let some = can.range.0 in
    let b = area_read c.area-b.result (area_in tables row k) c.args.portions.now.whole c.area-b.ensures low (omega (arith, ints)) limit in
    let inv = c.loop-k.invariant in
    let rows = length tables.links.items in
    let old = inv.flows.ahead k (omega arith) ∙ c.requires.clear k (omega arith) in
    let sun = c.args.portions.now.amount in
    let area = c.args.portions.now.whole in
    let f : ℕ → Flow = λ j. only_sun (sun_in rates list sun area tables row j) in
    elim c.if-b-ne0.branch [
      | then-b-ne0 w ↦
          let range = w.next-share.ensures.range in
          let set = w.flows-is ∙ (λ i. slice_set c.loop-k.flows (w.place.ensures.value i) (record (flow_at c.loop-k.flows (w.place.ensures.value i)) { sun = to_z w64 (of_z w64 w.kept-absorbed.result) })) in
          let part = amount_passed w.next-share.result range ∙ w.next-share.ensures.value ∙ (λ i. share (inv.amount i) (inv.from i) (inv.from i +ℤ b i) (inv.whole i)) in
          let shade : to_z w64 (of_z w64 w.albedo.result) ≡ albedo rates list k =
          let e = w.albedo.ensures.value in let l = w.albedo.ensures.range.0 in let m = w.albedo.ensures.range.1 in omega (arith, ints) in
          let passed : to_z w64 (of_z w64 w.kept-absorbed.result) ≡ w.kept-absorbed.result = omega (arith, ints) in
          let own : to_z w64 (of_z w64 w.kept-absorbed.result) ≡ sun_in rates list sun area tables row k = passed ∙ w.kept-absorbed.ensures ∙ (λ i. part_of (part i) (pos 1_000 -ℤ shade i) (pos 1_000)) in
          let moved : w.next-share.new.self.from ≡ before_in tables row (k + 1) = w.next-share.ensures.from ∙ (λ i. inv.from i +ℤ b i) ∙ sym (before_more tables row k) in
          record {
            portions = subst ArePortions (sym w.portions-is) w.next-share.ensures.portions;
            amount = ap (λ (p : Portions). p.amount) w.portions-is ∙ w.next-share.ensures.amount ∙ inv.amount;
            whole = ap (λ (p : Portions). p.whole) w.portions-is ∙ w.next-share.ensures.whole ∙ inv.whole;
            from = ap (λ (p : Portions). p.from) w.portions-is ∙ moved;
            flows = one_written c.args.flows.now c.loop-k.flows _ rows tables.width row k f _ c.requires.row (omega arith) (omega arith) inv.flows set
                (λ i. record { heat = (old i).heat; water = (old i).water; sun = own i; rain = (old i).rain });
          }
      | else-b-ne0 w ↦
          let empty : area_in tables row k ≡ pos 0 = omega (arith, ints, c.area-b.ensures, w.if-b-ne0.false) in
          let more = before_more tables row k in
          let stays : before_in tables row k ≡ before_in tables row (k + 1) = omega (arith, ints, empty, more) in
          let none = no_sun_in rates list sun area tables row k empty in
          record {
            portions = subst ArePortions (sym w.portions-is) inv.portions;
            amount = ap (λ (p : Portions). p.amount) w.portions-is ∙ inv.amount;
            whole = ap (λ (p : Portions). p.whole) w.portions-is ∙ inv.whole;
            from = ap (λ (p : Portions). p.from) w.portions-is ∙ inv.from ∙ stays;
            flows = one_passed c.args.flows.now c.loop-k.flows _ rows row k f inv.flows w.flows-is (c.requires.clear k (omega arith) ∙ (λ i. only_sun (sym none i)));
          }
    ]
