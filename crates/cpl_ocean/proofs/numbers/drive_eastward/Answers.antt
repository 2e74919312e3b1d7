use Rattle.std.proofs.Common.{◌≡◌, ◌∙◌, refl, ap, ℕ, ◌+◌, ◌-◌, ◌*◌, pos, arith}
use Rattle.std.specs.Prelude.{◌-ℤ◌}
use Rattle.cpl_field.specs.Spots.{number_at}
use Rattle.cpl_transport.proofs.Bounds.{read}
use Rattle.cpl_ocean.specs.Numbers.{next_east}
use Rattle.cpl_ocean.proofs.Driven.{east_all, east_by, east_more, east_value, minus_face, own_face, west_value}
use Rattle.cpl_ocean.proofs.numbers.drive_eastward.Goals as goal

pub loop-i-preserved : goal.loop-i-preserved
loop-i-preserved c =
    let basin = c.args.basin.now in
    let old = c.args.faces.now in
    let height = number_at basin.heights in
    let i = c.loop-i.i in
    let j = c.loop-j.j in
    let n = j * (old.nx + 1) + i in
    let more = c.loop-i-test.true in
    let row = c.loop-j-test.true in
    let columns = c.requires.columns in
    let rows = c.requires.rows in
    east_by basin.area height c.args.slope old c.set_eastward.new.self (n + 1) (j * (old.nx + 1) + (i + 1)) (omega arith)
    (east_more basin.area height c.args.slope old c.loop-i.faces c.set_eastward.new.self n i j c.loop-i.invariant refl (omega arith) (omega arith) (read (pos 0 -ℤ read c.next_number-u.result)) c.set_eastward.ensures.there c.set_eastward.ensures.list
    (minus_face c.next_number-u.result _ c.next_number-u.ensures.value c.next_number-u.ensures.range ∙ west_value basin.area height c.args.slope old c.loop-i.faces n i j c.loop-i.invariant refl (omega arith)))

pub loop-j-preserved : goal.loop-j-preserved
loop-j-preserved c =
    let basin = c.args.basin.now in
    let old = c.args.faces.now in
    let height = number_at basin.heights in
    let nx = basin.nx in
    let j = c.loop-j.j in
    let n = j * (old.nx + 1) + c.loop-i.i in
    let last = c.loop-i-test.false in
    let row = c.loop-j-test.true in
    let columns = c.requires.columns in
    let rows = c.requires.rows in
    let shape = c.requires.basin.shape in
    let some = shape.some_columns in
    let new = c.set_eastward-in-loop-j.new.self in
    let end : nx - 1 + 1 ≡ nx = omega arith in
    let value = own_face c.next_number-u-in-loop-j.result _ c.next_number-u-in-loop-j.ensures.value c.next_number-u-in-loop-j.ensures.range
    ∙ east_value basin.area height c.args.slope old c.loop-i.faces n (nx - 1) j c.loop-i.invariant (omega arith) (omega arith)
    ∙ ap (λ (k : ℕ). next_east basin.area height c.args.slope old k j) end in
    east_by basin.area height c.args.slope old new (n + 1) ((j + 1) * (old.nx + 1)) (omega arith)
    (east_more basin.area height c.args.slope old c.loop-i.faces new n nx j c.loop-i.invariant (omega arith) (omega arith) (omega arith) (read c.next_number-u-in-loop-j.result) c.set_eastward-in-loop-j.ensures.there c.set_eastward-in-loop-j.ensures.list value)

pub returns : goal.returns
returns c =
    let basin = c.args.basin.now in
    let old = c.args.faces.now in
    let rows = c.requires.rows in
    let all = c.loop-j-test.false in
    let ends : c.loop-j.j ≡ old.ny = omega arith in
    east_all basin.area (number_at basin.heights) c.args.slope old c.loop-j.faces (c.loop-j.j * (old.nx + 1)) (let e : old.ny * (old.nx + 1) ≡ c.loop-j.j * (old.nx + 1) = ap (λ (k : ℕ). k * (old.nx + 1)) (omega arith) in omega (arith, e)) c.loop-j.invariant
