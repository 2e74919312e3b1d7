use Rattle.std.proofs.Common.{◌≡◌, ◌∙◌, refl, rules, sym, ap, subst, ℕ, ◌<◌, arith, to_z, of_z, w64, length, List}
use Rattle.std.specs.Int.RustNames.{FitsSigned}
use Rattle.std.specs.Prelude.{ℤ, pos, ◌≤ℤ◌, slice_index_or}
use Rattle.std.proofs.lemmas.Int.{ints}
use Rattle.cpl_fixed.specs.Amounts.{IsAmount, at}
use Rattle.cpl_fixed.specs.Ranges.{IsFromℤ}
use Rattle.cpl_fixed.specs.Shares.{part_of}
use Rattle.cpl_fast.specs.declared.flows.Flow.{Flow}
use Rattle.cpl_fast.specs.declared.flows.Link.{Link}
use Rattle.cpl_fast.specs.declared.portions.Portions.{Portions}
use Rattle.cpl_fast.specs.Flows.{IsInCell, link_at, no_flow}
use Rattle.cpl_fast.specs.Suns.{only_sun, sun_in}
use Rattle.cpl_fast.proofs.Parts.{amount_passed}
use Rattle.cpl_fast.proofs.Placed.{items_more_by}
use Rattle.cpl_fast.proofs.suns.list_suns.Goals as goal
use Rattle.cpl_fast.proofs.suns.list_suns.Goals.{Joined-air-last, then-air-last, else-air-last+else-link-portions}

-- the sun on the cell of the air that a link leads to, as it was read and passed
sun_read : (sun : List ℤ) (link other : Link) → link ≡ other → FitsSigned w64 (at sun link.air) → to_z w64 (of_z w64 (at sun link.air)) ≡ at sun other.air
sun_read sun link other same fits =
    let passed : to_z w64 (of_z w64 (at sun link.air)) ≡ at sun link.air = omega (arith, ints, fits) in
    passed ∙ (λ i. at sun (same i).air)

-- as much of it as the month has, which is an amount
sun_is : (sun : List ℤ) (link other : Link) (strength result : ℤ) → link ≡ other → FitsSigned w64 (at sun link.air) → result ≡ part_of (to_z w64 (of_z w64 (at sun link.air))) strength (pos 1_000)
    → result ≡ part_of (at sun other.air) strength (pos 1_000)
sun_is sun link other strength result same fits e = e ∙ (λ i. part_of (sun_read sun link other same fits i) strength (pos 1_000))

sun_amount : (sun : List ℤ) (link other : Link) (strength result : ℤ) → link ≡ other → FitsSigned w64 (at sun link.air) → FitsSigned w64 strength → IsAmount (part_of (at sun other.air) strength (pos 1_000))
    → result ≡ part_of (to_z w64 (of_z w64 (at sun link.air))) (to_z w64 (of_z w64 strength)) (pos 1_000) → IsAmount result
sun_amount sun link other strength result same fits strong most e =
    let passed : to_z w64 (of_z w64 strength) ≡ strength = omega (arith, ints, strong) in
    subst IsAmount (sym (sun_is sun link other _ result same fits e ∙ (λ i. part_of (at sun other.air) (passed i) (pos 1_000)))) most

-- its area
area_read : (areas : List ℤ) (link other : Link) → link ≡ other → IsFromℤ 1 1_099_511_627_776 (at areas other.air) → to_z w64 (of_z w64 (at areas link.air)) ≡ at areas other.air
area_read areas link other same range =
    let e = ap (λ (l : Link). at areas l.air) same in
    let a = range.0 in let b = range.1 in
    omega (arith, ints, e, a, b)

pub part_of-sun-requires-clause-amount : goal.part_of-sun-requires-clause-amount
part_of-sun-requires-clause-amount c =
    let link = link_at c.args.tables.now.links.items c.loop-row.row in
    let fits : FitsSigned w64 (slice_index_or c.args.sun.now c.link-link.result.air (pos 0)) = search rules in
    subst (λ (x : ℤ). pos 0 ≤ℤ x) (sym (sun_read c.args.sun.now c.link-link.result link c.link-link.ensures fits)) (c.requires.least link.air (c.requires.airs c.loop-row.row (omega arith)))

pub part_of-sun-requires-clause-most : goal.part_of-sun-requires-clause-most
part_of-sun-requires-clause-most c =
    let link = link_at c.args.tables.now.links.items c.loop-row.row in
    let fits : FitsSigned w64 (slice_index_or c.args.sun.now c.link-link.result.air (pos 0)) = search rules in
    (sun_amount c.args.sun.now c.link-link.result link c.args.strength _ c.link-link.ensures fits c.ranges.strength (c.requires.most link.air (c.requires.airs c.loop-row.row (omega arith))) refl).1

pub bounds-area-air : goal.bounds-area-air
bounds-area-air c =
    let airs = c.requires.airs c.loop-row.row (omega arith) in
    let same = ap (λ (l : Link). l.air) c.link-link.ensures in
    let count = c.requires.count in
    omega (arith, airs, same, count)

pub portions-portions-requires-clause-amount : goal.portions-portions-requires-clause-amount
portions-portions-requires-clause-amount c =
    let link = link_at c.args.tables.now.links.items c.loop-row.row in
    let fits : FitsSigned w64 (slice_index_or c.args.sun.now c.link-link.result.air (pos 0)) = search rules in
    let most = c.requires.most link.air (c.requires.airs c.loop-row.row (omega arith)) in
    let amount = sun_amount c.args.sun.now c.link-link.result link c.args.strength _ c.link-link.ensures fits c.ranges.strength most c.part_of-sun.ensures.value in
    subst IsAmount (sym (amount_passed c.part_of-sun.result amount)) amount

pub portions-portions-requires-clause-cell : goal.portions-portions-requires-clause-cell
portions-portions-requires-clause-cell c =
    let tables = c.args.tables.now in
    let row = c.loop-row.row in
    let can = c.requires.can row 0 (omega arith) c.requires.some in
    subst (λ (a : ℤ). IsInCell a tables row 0) (sym (area_read c.args.area.now c.link-link.result (link_at tables.links.items row) c.link-link.ensures can.range)) can

-- either way the shares are of the sun on the row's cell of the air
chosen : (c : Joined-air-last) → record {
  last : c.if-air-last.last ≡ (link_at c.args.tables.now.links.items c.loop-row.row).air;
  amount : c.if-air-last.portions.amount ≡ part_of (at c.args.sun.now (link_at c.args.tables.now.links.items c.loop-row.row).air) (to_z w64 (of_z w64 c.args.strength)) (pos 1_000);
  whole : c.if-air-last.portions.whole ≡ at c.args.area.now (link_at c.args.tables.now.links.items c.loop-row.row).air;
}
chosen c =
    let row = c.loop-row.row in
    let link = link_at c.args.tables.now.links.items row in
    let inv = c.loop-row.invariant in
    let strength = to_z w64 (of_z w64 c.args.strength) in
    let airs = c.requires.airs row (omega arith) in
    let same = ap (λ (l : Link). l.air) c.link-link.ensures in
    elim c.if-air-last.branch [
      | then-air-last w ↦
          let fits : FitsSigned w64 (slice_index_or c.args.sun.now c.link-link.result.air (pos 0)) = search rules in
          let value = w.part_of-sun.ensures.value in
          let amount = sun_amount c.args.sun.now c.link-link.result link c.args.strength _ c.link-link.ensures fits c.ranges.strength (c.requires.most link.air airs) value in
          let can = c.requires.can row 0 (omega arith) c.requires.some in
          record {
            last = w.last-is ∙ same;
            amount = ap (λ (p : Portions). p.amount) w.portions-is ∙ w.portions-portions.ensures.amount ∙ amount_passed w.part_of-sun.result amount ∙ sun_is c.args.sun.now c.link-link.result link strength _ c.link-link.ensures fits value;
            whole = ap (λ (p : Portions). p.whole) w.portions-is ∙ w.portions-portions.ensures.whole ∙ area_read c.args.area.now c.link-link.result link c.link-link.ensures can.range;
          }
      | else-air-last+else-link-portions w ↦
          let here : c.loop-row.last ≡ link.air = sym w.if-air-last.false ∙ same in
          let known : c.loop-row.last < length c.args.sun.now = omega (arith, here, airs) in
          record {
            last = w.last-is ∙ here;
            amount = ap (λ (p : Portions). p.amount) w.portions-is ∙ inv.amount known ∙ (λ i. part_of (at c.args.sun.now (here i)) strength (pos 1_000));
            whole = ap (λ (p : Portions). p.whole) w.portions-is ∙ inv.whole known ∙ (λ i. at c.args.area.now (here i));
          }
    ]

pub row_suns-requires-clause-can : goal.row_suns-requires-clause-can
row_suns-requires-clause-can c k l =
    let row = c.loop-row.row in
    let whole = (chosen (goal.at.row_suns-requires-clause-can c).Joined-air-last).whole in
    subst (λ (a : ℤ). IsInCell a c.args.tables.now row k) (sym whole) (c.requires.can row k (omega arith) l)

pub row_suns-requires-clause-clear : goal.row_suns-requires-clause-clear
row_suns-requires-clause-clear c k l =
    let row = c.loop-row.row in
    c.loop-row.invariant.behind row k (omega arith) (omega arith) ∙ c.requires.still row (omega arith) k l

pub loop-row-preserved : goal.loop-row-preserved
loop-row-preserved c =
    let tables = c.args.tables.now in
    let row = c.loop-row.row in
    let inv = c.loop-row.invariant in
    let shares = chosen (goal.at.loop-row-preserved c).Joined-air-last in
    let strength = to_z w64 (of_z w64 c.args.strength) in
    let f : ℕ → ℕ → Flow = λ r k. only_sun (sun_in c.args.rates.now c.args.list (part_of (at c.args.sun.now (link_at tables.links.items r).air) strength (pos 1_000)) (at c.args.area.now (link_at tables.links.items r).air) tables r k) in
    record {
      portions = c.row_suns.ensures.portions;
      amount = λ l. c.row_suns.ensures.amount ∙ shares.amount ∙ (λ i. part_of (at c.args.sun.now (sym shares.last i)) strength (pos 1_000));
      whole = λ l. c.row_suns.ensures.whole ∙ shares.whole ∙ (λ i. at c.args.area.now (sym shares.last i));
      done = items_more_by (λ r k x. x ≡ f r k) c.loop-row.flows c.row_suns.new.flows (length tables.links.items) tables.width row no_flow (omega arith) inv.done
          (λ k l. c.row_suns.ensures.row k l ∙ (λ i. only_sun (sun_in c.args.rates.now c.args.list (shares.amount i) (shares.whole i) tables row k)))
          c.row_suns.ensures.others;
      behind = λ r k h l. c.row_suns.ensures.others r k l (omega arith) ∙ inv.behind r k (omega arith) l;
    }

pub returns : goal.returns
returns c =
    let tables = c.args.tables.now in
    let strength : to_z w64 (of_z w64 c.args.strength) ≡ c.args.strength = omega (arith, ints) in
    λ row k l h. c.loop-row.invariant.done row k (omega arith) h
    ∙ (λ i. only_sun (sun_in c.args.rates.now c.args.list (part_of (at c.args.sun.now (link_at tables.links.items row).air) (strength i) (pos 1_000)) (at c.args.area.now (link_at tables.links.items row).air) tables row k))
