use Rattle.std.proofs.Common.{◌≡◌, ◌∙◌, refl, ap, ℕ, ◌+◌, ◌-◌, ◌*◌, pos, arith}
use Rattle.std.specs.Prelude.{◌-ℤ◌}
use Rattle.cpl_field.specs.Spots.{number_at}
use Rattle.cpl_transport.proofs.Bounds.{read}
use Rattle.cpl_ocean.specs.Numbers.{next_north}
use Rattle.cpl_ocean.proofs.Driven.{minus_face, north_all, north_by, north_more, north_value, own_face, south_value}
use Rattle.cpl_ocean.proofs.numbers.drive_northward.Goals as goal

pub loop-i-preserved : goal.loop-i-preserved
loop-i-preserved c =
    let basin = c.args.basin.now in
    let old = c.args.faces.now in
    let height = number_at basin.heights in
    let i = c.loop-i.i in
    let j = c.loop-j.j in
    let n = j * old.nx + i in
    let more = c.loop-i-test.true in
    let row = c.loop-j-test.true in
    let columns = c.requires.columns in
    let rows = c.requires.rows in
    north_by basin.area height c.args.slope old c.set_northward.new.self (n + 1) (j * old.nx + (i + 1)) (omega arith)
    (north_more basin.area height c.args.slope old c.loop-i.faces c.set_northward.new.self n i j c.loop-i.invariant refl (omega arith) (omega arith) (read (pos 0 -ℤ read c.next_number-u.result)) c.set_northward.ensures.there c.set_northward.ensures.list
    (minus_face c.next_number-u.result _ c.next_number-u.ensures.value c.next_number-u.ensures.range ∙ south_value basin.area height c.args.slope old c.loop-i.faces n i j c.loop-i.invariant refl (omega arith)))

pub loop-i-2-preserved : goal.loop-i-2-preserved
loop-i-2-preserved c =
    let basin = c.args.basin.now in
    let old = c.args.faces.now in
    let height = number_at basin.heights in
    let ny = basin.ny in
    let i = c.loop-i-2.i in
    let n = old.ny * old.nx + i in
    let more = c.loop-i-2-test.true in
    let columns = c.requires.columns in
    let rows = c.requires.rows in
    let shape = c.requires.basin.shape in
    let some = shape.some_rows in
    let new = c.set_northward-in-loop-i-2.new.self in
    let end : ny - 1 + 1 ≡ ny = omega arith in
    let last : old.ny * old.nx ≡ ny * old.nx = ap (λ (k : ℕ). k * old.nx) (omega arith) in
    let top : (ny - 1 + 1) * old.nx ≡ ny * old.nx = ap (λ (k : ℕ). k * old.nx) end in
    let value = own_face c.next_number-u-in-loop-i-2.result _ c.next_number-u-in-loop-i-2.ensures.value c.next_number-u-in-loop-i-2.ensures.range
    ∙ north_value basin.area height c.args.slope old c.loop-i-2.faces n i (ny - 1) c.loop-i-2.invariant (omega (arith, last, top)) (omega arith)
    ∙ ap (λ (k : ℕ). next_north basin.area height c.args.slope old i k) end in
    north_by basin.area height c.args.slope old new (n + 1) (old.ny * old.nx + (i + 1)) (omega arith)
    (north_more basin.area height c.args.slope old c.loop-i-2.faces new n i ny c.loop-i-2.invariant (omega (arith, last)) (omega arith) (omega arith) (read c.next_number-u-in-loop-i-2.result) c.set_northward-in-loop-i-2.ensures.there c.set_northward-in-loop-i-2.ensures.list value)

pub returns : goal.returns
returns c =
    let basin = c.args.basin.now in
    let old = c.args.faces.now in
    let columns = c.requires.columns in
    let all = c.loop-i-2-test.false in
    north_all basin.area (number_at basin.heights) c.args.slope old c.loop-i-2.faces (old.ny * old.nx + c.loop-i-2.i) (omega arith) c.loop-i-2.invariant
