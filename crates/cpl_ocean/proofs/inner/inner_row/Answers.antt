use Rattle.std.proofs.Common.{◌≡◌, ◌∙◌, sym, ap, subst, ℕ, ◌+◌, ◌-◌, ◌*◌, arith}
use Rattle.std.proofs.lemmas.Nat.{mul-add-lt}
use Rattle.cpl_field.specs.Spots.{CellAt, IsSpot, number_at}
use Rattle.cpl_field.specs.Sweeps.{IsInSpan}
use Rattle.cpl_field.proofs.Swept.{computes_next}
use Rattle.cpl_transport.specs.Salts.{AreSmall, IsSalty, joined, nothing, turned, without}
use Rattle.cpl_ocean.specs.Layers.{salty_at}
use Rattle.cpl_ocean.specs.Sweeps.{Computes, left_in}
use Rattle.cpl_ocean.proofs.Carried.{carried_all, carried_more}
use Rattle.cpl_ocean.proofs.Turned.{south_turned, turned_small, west_turned}
use Rattle.cpl_ocean.proofs.inner.inner_row.Goals as goal

pub without-requires-clause-here : goal.without-requires-clause-here
without-requires-clause-here c =
    let columns = c.requires.from.columns.columns in
    let rows = c.requires.from.columns.rows in
    let on : IsSpot c.args.basin.now.area (CellAt c.loop-i.i c.args.j) = (omega arith, omega arith) in
    subst IsSalty (sym c.get.ensures) (c.requires.from.salty (CellAt c.loop-i.i c.args.j) on)

pub bounds-left-first : goal.bounds-left-first
bounds-left-first c =
    let fits = mul-add-lt c.args.j c.args.basin.now.nx c.loop-i.i c.args.basin.now.ny (omega arith) (omega arith) in
    let count = c.loop-i.invariant.left.count in
    omega arith

pub loop-i-preserved : goal.loop-i-preserved
loop-i-preserved c =
    let basin = c.args.basin.now in
    let slope = c.args.slope in
    let fields = c.args.fields.now in
    let height = number_at basin.heights in
    let is = c.requires.from.columns in
    let columns = is.columns in
    let rows = is.rows in
    let i = c.loop-i.i in
    let j = c.args.j in
    let west = c.loop-i.invariant.west in
    let south = c.loop-i.invariant.souths.rest i (omega arith) (omega arith) (omega arith) in
    let east = c.flow_out-east.ensures in
    let north = c.flow_out-north.ensures in
    let odd = c.face_law.ensures in
    let value : c.without.result ≡ left_in basin slope fields i j =
    c.without.ensures
    ∙ (λ t. without (c.get.ensures t) (c.sum_of_sides-out.ensures.value t))
    ∙ (λ t. without (salty_at fields (CellAt i j)) (joined (joined (west.is t) (east.value t)) (joined (south.is t) (north.value t)))) in
    record {
      west = record {
        is = c.turned-west.ensures ∙ ap turned east.value ∙ sym (west_turned odd basin.area height slope fields i j (omega arith) (omega arith));
        small = subst AreSmall (sym c.turned-west.ensures) (turned_small c.flow_out-east.result east.small);
      };
      souths = carried_more basin slope fields j i c.loop-i.souths c.loop-i.invariant.souths (omega arith) c.turned.result (record {
        is = c.turned.ensures ∙ ap turned north.value ∙ sym (south_turned odd basin.area height slope fields i j (omega arith) (omega arith));
        small = subst AreSmall (sym c.turned.ensures) (turned_small c.flow_out-north.result north.small);
      });
      left = computes_next nothing basin.area (left_in basin slope fields) 2 i j c.args.left.now c.loop-i.left c.loop-i.invariant.left
          (c.requires.left ∙ (λ t. sym columns t * sym rows t)) (omega arith) (omega arith) (omega arith) c.without.result (j * basin.nx + i)
          (ap (λ m. j * m + i) (sym columns)) value;
    }

pub returns-clause-souths : goal.returns-clause-souths
returns-clause-souths c =
    carried_all c.args.basin.now c.args.slope c.args.fields.now c.args.j c.loop-i.i c.loop-i.souths (omega arith) c.loop-i.invariant.souths

pub returns-clause-left : goal.returns-clause-left
returns-clause-left c =
    let basin = c.args.basin.now in
    let P : ℕ → Type 0 = λ to. Computes basin.area (left_in basin c.args.slope c.args.fields.now) (IsInSpan 2 to c.args.j) c.args.left.now c.loop-i.left in
    let last : c.loop-i.i ≡ basin.nx - 2 = omega arith in
    subst P last c.loop-i.invariant.left
