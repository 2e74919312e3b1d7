use Rattle.std.proofs.Common.{◌≡◌, ◌∙◌, refl, sym, ap, subst, ℕ, ◌+◌, ◌-◌, ◌*◌, arith, pos, get_or, to_z, w64}
use Rattle.std.specs.Prelude.{◌+ℤ◌, ◌-ℤ◌}
use Rattle.std.proofs.lemmas.Int.{ints}
use Rattle.std.proofs.lemmas.Nat.{mul-add-lt}
use Rattle.cpl_mosaic.specs.declared.parts.Side.TheVariants.{E, N}
use Rattle.cpl_fixed.specs.Flows.{flow}
use Rattle.cpl_field.specs.Spots.{FieldNumbers, CellAt, IsSameShape, number_at}
use Rattle.cpl_atmos.specs.Sweeps.{Computes, flow_out, next_at}
use Rattle.cpl_field.specs.Sweeps.{IsInSpan}
use Rattle.cpl_atmos.proofs.Divisors.{wide, kept_by}
use Rattle.cpl_atmos.proofs.Carried.{carried_more, carried_all, west_turned, south_turned, east_flow, north_flow, inner_reads, east_divisor, north_divisor, next_value, same_loss}
use Rattle.cpl_field.proofs.Swept.{computes_next}
use Rattle.cpl_atmos.proofs.inner.inner_row.Goals as goal

pub flow_across-east-requires : goal.flow_across-east-requires
flow_across-east-requires c =
    let area = c.areas.inside.area in
    let x = c.args.x.now in
    let columns = ap (λ (f : FieldNumbers). f.nx) c.areas.view_is in
    let rows = ap (λ (f : FieldNumbers). f.ny) c.areas.view_is in
    let kept = c.areas.invariant in
    let kept_columns = kept.columns in
    let same = subst (λ (f : FieldNumbers). IsSameShape f x) (sym c.areas.view_is) c.requires.shape in
    let reads = inner_reads area x kept.width same kept.areas c.requires.amounts c.loop-i.i c.args.j (omega arith) (omega arith) c.row-here.result.now c.row-above.result.now c.row-area.result.now c.row-area_above.result.now c.row-here.ensures.each c.row-above.ensures.each c.row-area.ensures.each c.row-area_above.ensures.each in
    record {
      divisor = east_divisor _ _ area _ _ kept c.loop-i.i c.args.j (omega arith) (omega arith) c.as_slice-eastward.result.now c.as_slice-eastward.ensures.value _ _ reads.area_of reads.east_area_of;
      amount = reads.amount.amount;
      other_amount = reads.east_amount.amount;
      area = reads.area_of.own;
      other_area = reads.east_area_of.own;
    }

pub flow_across-north-requires : goal.flow_across-north-requires
flow_across-north-requires c =
    let area = c.areas.inside.area in
    let x = c.args.x.now in
    let columns = ap (λ (f : FieldNumbers). f.nx) c.areas.view_is in
    let rows = ap (λ (f : FieldNumbers). f.ny) c.areas.view_is in
    let kept = c.areas.invariant in
    let kept_columns = kept.columns in
    let same = subst (λ (f : FieldNumbers). IsSameShape f x) (sym c.areas.view_is) c.requires.shape in
    let reads = inner_reads area x kept.width same kept.areas c.requires.amounts c.loop-i.i c.args.j (omega arith) (omega arith) c.row-here.result.now c.row-above.result.now c.row-area.result.now c.row-area_above.result.now c.row-here.ensures.each c.row-above.ensures.each c.row-area.ensures.each c.row-area_above.ensures.each in
    record {
      divisor = north_divisor _ _ area _ _ kept c.loop-i.i c.args.j (omega arith) (omega arith) c.as_slice-northward.result.now c.as_slice-northward.ensures.value _ _ reads.area_of reads.north_area_of;
      amount = reads.amount.amount;
      other_amount = reads.north_amount.amount;
      area = reads.area_of.own;
      other_area = reads.north_area_of.own;
    }

pub overflow_add-values : goal.overflow_add-values
overflow_add-values c =
    let area = c.areas.inside.area in
    let x = c.args.x.now in
    let columns = ap (λ (f : FieldNumbers). f.nx) c.areas.view_is in
    let rows = ap (λ (f : FieldNumbers). f.ny) c.areas.view_is in
    let kept = c.areas.invariant in
    let kept_columns = kept.columns in
    let same = subst (λ (f : FieldNumbers). IsSameShape f x) (sym c.areas.view_is) c.requires.shape in
    let reads = inner_reads area x kept.width same kept.areas c.requires.amounts c.loop-i.i c.args.j (omega arith) (omega arith) c.row-here.result.now c.row-above.result.now c.row-area.result.now c.row-area_above.result.now c.row-here.ensures.each c.row-above.ensures.each c.row-area.ensures.each c.row-area_above.ensures.each in
    let east_low = c.flow_across-east.ensures.low in
    let east_high = c.flow_across-east.ensures.high in
    let west = c.loop-i.invariant.west in
    omega (arith, ints)

pub overflow_add-values-in-loop-i : goal.overflow_add-values-in-loop-i
overflow_add-values-in-loop-i c =
    let area = c.areas.inside.area in
    let x = c.args.x.now in
    let columns = ap (λ (f : FieldNumbers). f.nx) c.areas.view_is in
    let rows = ap (λ (f : FieldNumbers). f.ny) c.areas.view_is in
    let kept = c.areas.invariant in
    let kept_columns = kept.columns in
    let same = subst (λ (f : FieldNumbers). IsSameShape f x) (sym c.areas.view_is) c.requires.shape in
    let reads = inner_reads area x kept.width same kept.areas c.requires.amounts c.loop-i.i c.args.j (omega arith) (omega arith) c.row-here.result.now c.row-above.result.now c.row-area.result.now c.row-area_above.result.now c.row-here.ensures.each c.row-above.ensures.each c.row-area.ensures.each c.row-area_above.ensures.each in
    let east_low = c.flow_across-east.ensures.low in
    let east_high = c.flow_across-east.ensures.high in
    let south = c.loop-i.invariant.souths.rest c.loop-i.i (omega arith) (omega arith) (omega arith) in
    let west = c.loop-i.invariant.west in
    omega (arith, ints)

pub overflow_add-values-in-loop-i-2 : goal.overflow_add-values-in-loop-i-2
overflow_add-values-in-loop-i-2 c =
    let area = c.areas.inside.area in
    let x = c.args.x.now in
    let columns = ap (λ (f : FieldNumbers). f.nx) c.areas.view_is in
    let rows = ap (λ (f : FieldNumbers). f.ny) c.areas.view_is in
    let kept = c.areas.invariant in
    let kept_columns = kept.columns in
    let same = subst (λ (f : FieldNumbers). IsSameShape f x) (sym c.areas.view_is) c.requires.shape in
    let reads = inner_reads area x kept.width same kept.areas c.requires.amounts c.loop-i.i c.args.j (omega arith) (omega arith) c.row-here.result.now c.row-above.result.now c.row-area.result.now c.row-area_above.result.now c.row-here.ensures.each c.row-above.ensures.each c.row-area.ensures.each c.row-area_above.ensures.each in
    let east_low = c.flow_across-east.ensures.low in
    let east_high = c.flow_across-east.ensures.high in
    let north_low = c.flow_across-north.ensures.low in
    let north_high = c.flow_across-north.ensures.high in
    let south = c.loop-i.invariant.souths.rest c.loop-i.i (omega arith) (omega arith) (omega arith) in
    let west = c.loop-i.invariant.west in
    omega (arith, ints)

pub overflow_sub-values : goal.overflow_sub-values
overflow_sub-values c =
    let area = c.areas.inside.area in
    let x = c.args.x.now in
    let columns = ap (λ (f : FieldNumbers). f.nx) c.areas.view_is in
    let rows = ap (λ (f : FieldNumbers). f.ny) c.areas.view_is in
    let kept = c.areas.invariant in
    let kept_columns = kept.columns in
    let same = subst (λ (f : FieldNumbers). IsSameShape f x) (sym c.areas.view_is) c.requires.shape in
    let reads = inner_reads area x kept.width same kept.areas c.requires.amounts c.loop-i.i c.args.j (omega arith) (omega arith) c.row-here.result.now c.row-above.result.now c.row-area.result.now c.row-area_above.result.now c.row-here.ensures.each c.row-above.ensures.each c.row-area.ensures.each c.row-area_above.ensures.each in
    let east_low = c.flow_across-east.ensures.low in
    let east_high = c.flow_across-east.ensures.high in
    let north_low = c.flow_across-north.ensures.low in
    let north_high = c.flow_across-north.ensures.high in
    let south = c.loop-i.invariant.souths.rest c.loop-i.i (omega arith) (omega arith) (omega arith) in
    let west = c.loop-i.invariant.west in
    let amount = reads.amount.amount in
    omega (arith, ints)

pub bounds-values-first : goal.bounds-values-first
bounds-values-first c =
    let has = kept_by _ _ _ c.args.areas.now _ _ c.areas.invariant c.areas.view_is in
    let fits = mul-add-lt c.args.j c.args.areas.now.nx c.loop-i.i c.args.areas.now.ny (omega arith) (omega arith) in
    let row : c.args.j * c.areas.inside.nx ≡ c.args.j * c.args.areas.now.nx = ap (λ m. c.args.j * m) (sym has.columns) in
    let count = c.loop-i.invariant.values.count in
    omega arith

pub overflow_sub-souths : goal.overflow_sub-souths
overflow_sub-souths c =
    let low = c.flow_across-north.ensures.low in
    let high = c.flow_across-north.ensures.high in
    omega (arith, ints)

pub overflow_sub-west : goal.overflow_sub-west
overflow_sub-west c =
    let low = c.flow_across-east.ensures.low in
    let high = c.flow_across-east.ensures.high in
    omega (arith, ints)

pub loop-i-preserved : goal.loop-i-preserved
loop-i-preserved c =
    let area = c.areas.inside.area in
    let x = c.args.x.now in
    let columns = ap (λ (f : FieldNumbers). f.nx) c.areas.view_is in
    let rows = ap (λ (f : FieldNumbers). f.ny) c.areas.view_is in
    let kept = c.areas.invariant in
    let kept_columns = kept.columns in
    let same = subst (λ (f : FieldNumbers). IsSameShape f x) (sym c.areas.view_is) c.requires.shape in
    let reads = inner_reads area x kept.width same kept.areas c.requires.amounts c.loop-i.i c.args.j (omega arith) (omega arith) c.row-here.result.now c.row-above.result.now c.row-area.result.now c.row-area_above.result.now c.row-here.ensures.each c.row-above.ensures.each c.row-area.ensures.each c.row-area_above.ensures.each in
    let now = c.args.areas.now in
    let has = kept_by _ _ _ now _ _ c.areas.invariant c.areas.view_is in
    let east_low = c.flow_across-east.ensures.low in
    let east_high = c.flow_across-east.ensures.high in
    let north_low = c.flow_across-north.ensures.low in
    let north_high = c.flow_across-north.ensures.high in
    let south = c.loop-i.invariant.souths.rest c.loop-i.i (omega arith) (omega arith) (omega arith) in
    let west = c.loop-i.invariant.west in
    let amount : wide (get_or c.row-here.result.now (c.loop-i.i + 1) (pos 0)) ≡ number_at x (CellAt c.loop-i.i c.args.j) = reads.amount.is in
    let amount_is = reads.amount.amount in
    let own = reads.area_of.is ∙ ap (λ (f : FieldNumbers). number_at f (CellAt c.loop-i.i c.args.j)) c.areas.view_is in
    let own_east = reads.east_area_of.is ∙ ap (λ (f : FieldNumbers). number_at f (CellAt (c.loop-i.i + 1) c.args.j)) c.areas.view_is in
    let own_north = reads.north_area_of.is ∙ ap (λ (f : FieldNumbers). number_at f (CellAt c.loop-i.i (c.args.j + 1))) c.areas.view_is in
    let east : c.flow_across-east.result ≡ flow_out now x c.loop-i.i c.args.j E =
    c.flow_across-east.ensures.value ∙ (λ t. flow (reads.amount.is t) (own t) (reads.east_amount.is t) (own_east t)) ∙ sym (east_flow now x has.narrow c.requires.shape has.areas c.requires.amounts c.loop-i.i c.args.j (omega arith) (omega arith)) in
    let north : c.flow_across-north.result ≡ flow_out now x c.loop-i.i c.args.j N =
    c.flow_across-north.ensures.value ∙ (λ t. flow (reads.amount.is t) (own t) (reads.north_amount.is t) (own_north t)) ∙ sym (north_flow now x has.narrow c.requires.shape has.areas c.requires.amounts c.loop-i.i c.args.j (omega arith) (omega arith)) in
    let east_again = west_turned now x has.narrow c.requires.shape has.areas c.requires.amounts c.loop-i.i c.args.j (omega arith) (omega arith) in
    let north_again = south_turned now x has.narrow c.requires.shape has.areas c.requires.amounts c.loop-i.i c.args.j (omega arith) (omega arith) in
    record {
      west = record { is = omega (arith, ints); low = omega (arith, ints); high = omega (arith, ints) };
      souths = carried_more now x c.args.j c.loop-i.i c.loop-i.souths c.loop-i.invariant.souths (omega arith) (wide (pos 0 -ℤ wide c.flow_across-north.result)) (record { is = omega (arith, ints); low = omega (arith, ints); high = omega (arith, ints) });
      values = computes_next (pos 0) now (next_at now x) 1 c.loop-i.i c.args.j c.args.values.now c.loop-i.values c.loop-i.invariant.values c.requires.values (omega arith) (omega arith) (omega arith)
          (wide (wide (get_or c.row-here.result.now (c.loop-i.i + 1) (pos 0)) -ℤ wide (wide (wide (to_z w64 c.loop-i.west-bits +ℤ wide c.flow_across-east.result) +ℤ wide (get_or c.loop-i.souths c.loop-i.i (pos 0))) +ℤ wide c.flow_across-north.result))) (c.args.j * c.areas.inside.nx + c.loop-i.i)
          (ap (λ m. c.args.j * m + c.loop-i.i) (sym has.columns))
          (next_value (wide (get_or c.row-here.result.now (c.loop-i.i + 1) (pos 0))) (to_z w64 c.loop-i.west-bits) c.flow_across-east.result (get_or c.loop-i.souths c.loop-i.i (pos 0)) c.flow_across-north.result
          amount_is
          (same_loss _ _ west)
          (record { is = refl; low = east_low; high = east_high })
          (same_loss _ _ south)
          (record { is = refl; low = north_low; high = north_high })
          ∙ (λ t. amount t -ℤ (west.is t +ℤ east t +ℤ south.is t +ℤ north t)));
    }

pub returns-clause-souths : goal.returns-clause-souths
returns-clause-souths c =
    let has = kept_by _ _ _ c.args.areas.now _ _ c.areas.invariant c.areas.view_is in
    carried_all c.args.areas.now c.args.x.now c.args.j c.loop-i.i c.loop-i.souths (omega arith) c.loop-i.invariant.souths

pub returns-clause-values : goal.returns-clause-values
returns-clause-values c =
    let has = kept_by _ _ _ c.args.areas.now _ _ c.areas.invariant c.areas.view_is in
    let P : ℕ → Type 0 = λ to. Computes c.args.areas.now c.args.x.now (IsInSpan 1 to c.args.j) c.args.values.now c.loop-i.values in
    let last : c.loop-i.i ≡ c.args.areas.now.nx - 1 = omega arith in
    subst P last c.loop-i.invariant.values
