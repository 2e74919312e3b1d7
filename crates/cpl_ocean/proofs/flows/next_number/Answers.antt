use Rattle.std.proofs.Common.{◌≡◌, ◌∙◌, sym, ap, Bool, ℤ, pos, arith}
use Rattle.std.specs.Prelude.{if◌then◌else◌}
use Rattle.std.proofs.lemmas.Int.{ints}
use Rattle.cpl_field.specs.Crossings.{outward}
use Rattle.cpl_field.specs.Crossings.{IsFaceNumber as IsFaceNumberOf}
use Rattle.cpl_field.specs.Spots.{CellAt, number_at, out_from}
use Rattle.cpl_transport.specs.Heights.{IsFaceNumber, IsHeight, next_face}
use Rattle.cpl_transport.proofs.Bounds.{read}
use Rattle.cpl_ocean.proofs.Around.{out_on, out_same, spot_same}
use Rattle.cpl_ocean.proofs.flows.next_number.Goals as goal

-- a height as it is read
read_height : (r x : ℤ) → r ≡ x → IsHeight x → IsHeight (read r)
read_height r x e h = (omega (arith, ints, e, h.0, h.1), omega (arith, ints, e, h.0, h.1))

own_height : (r x : ℤ) → r ≡ x → IsHeight x → read r ≡ x
own_height r x e h = omega (arith, ints, e, h.0, h.1)

own_face : (r x : ℤ) → r ≡ x → IsFaceNumberOf r → read r ≡ x
own_face r x e h = omega (arith, ints, e, h.least, h.most)

own_number : (r : ℤ) → IsFaceNumber r → read r ≡ r
own_number r h = omega (arith, ints, h.0, h.1)

pub next_face-requires-clause-height : goal.next_face-requires-clause-height
next_face-requires-clause-height c =
    let same = c.requires.shape in
    let on = spot_same c.args.area.now c.args.heights.now same (CellAt c.args.i c.args.j) c.requires.cell in
    read_height _ _ c.get.ensures (c.requires.heights (CellAt c.args.i c.args.j) on)

pub next_face-requires-clause-other : goal.next_face-requires-clause-other
next_face-requires-clause-other c =
    let same = c.requires.shape in
    let heights = c.args.heights.now in
    let on = spot_same c.args.area.now heights same (CellAt c.args.i c.args.j) c.requires.cell in
    let width = same.width in
    read_height _ _ c.at.ensures (c.requires.heights (out_from heights c.args.i c.args.j c.args.side 1) (out_on heights c.args.i c.args.j c.args.side 1 on (omega arith) (omega arith)))

pub returns-then-is_open-clause-value : goal.returns-then-is_open-clause-value
returns-then-is_open-clause-value c =
    let area = c.args.area.now in
    let heights = c.args.heights.now in
    let same = c.requires.shape in
    let width = same.width in
    let on = spot_same area heights same (CellAt c.args.i c.args.j) c.requires.cell in
    let u = own_face _ _ c.side-u.ensures.value c.side-u.ensures.range in
    let here = own_height _ _ c.get.ensures (c.requires.heights (CellAt c.args.i c.args.j) on) in
    let there = own_height _ _ c.at.ensures (c.requires.heights (out_from heights c.args.i c.args.j c.args.side 1) (out_on heights c.args.i c.args.j c.args.side 1 on (omega arith) (omega arith))) in
    let there_is = there ∙ ap (number_at heights) (out_same area heights same c.args.i c.args.j c.args.side 1) in
    let wet = sym c.is_open.ensures ∙ c.if-is_open.true in
    let number = next_face c.args.slope (outward c.args.faces.now c.args.i c.args.j c.args.side) (number_at heights (CellAt c.args.i c.args.j)) (number_at heights (out_from area c.args.i c.args.j c.args.side 1)) in
    own_number _ c.next_face.ensures.range
    ∙ c.next_face.ensures.value
    ∙ (λ t. next_face c.args.slope (u t) (here t) (there_is t))
    ∙ sym (ap (λ (b : Bool). if b then number else pos 0) wet)
