use Rattle.std.proofs.Common.{◌≡◌, ◌∙◌, sym, subst, ap, Bool, arith}
use Rattle.std.specs.Prelude.{if◌then◌else◌}
use Rattle.std.proofs.lemmas.Int.{ints}
use Rattle.cpl_field.specs.Spots.{CellAt, number_at, out_from}
use Rattle.cpl_transport.specs.Moves.{through}
use Rattle.cpl_transport.specs.Salts.{IsSalty, nothing}
use Rattle.cpl_transport.proofs.Bounds.{read}
use Rattle.cpl_ocean.specs.Flows.{behind, beyond, next_number}
use Rattle.cpl_ocean.specs.Layers.{salty_at}
use Rattle.cpl_ocean.proofs.Around.{behind_on, beyond_on, out_on, out_same}
use Rattle.cpl_ocean.proofs.flows.flow_out.Goals as goal

pub through-requires-clause-behind : goal.through-requires-clause-behind
through-requires-clause-behind c =
    subst IsSalty (sym c.behind-behind.ensures) (c.requires.from.salty (behind c.args.basin.now.area c.args.i c.args.j c.args.side) (behind_on c.args.basin.now.area c.requires.from.columns.width c.args.i c.args.j c.args.side c.requires.cell))

pub through-requires-clause-here : goal.through-requires-clause-here
through-requires-clause-here c = subst IsSalty (sym c.get.ensures) (c.requires.from.salty (CellAt c.args.i c.args.j) c.requires.cell)

pub through-requires-clause-there : goal.through-requires-clause-there
through-requires-clause-there c =
    let there = c.at.ensures ∙ ap (salty_at c.args.fields.now) (out_same c.args.basin.now.area c.args.fields.now.water c.requires.from.shapes.shape c.args.i c.args.j c.args.side 1) in
    let width = c.requires.from.columns.width in
    subst IsSalty (sym there) (c.requires.from.salty (out_from c.args.basin.now.area c.args.i c.args.j c.args.side 1) (out_on c.args.basin.now.area c.args.i c.args.j c.args.side 1 c.requires.cell (omega arith) (omega arith)))

pub through-requires-clause-beyond : goal.through-requires-clause-beyond
through-requires-clause-beyond c =
    subst IsSalty (sym c.beyond-beyond.ensures) (c.requires.from.salty (beyond c.args.basin.now.area c.args.i c.args.j c.args.side) (beyond_on c.args.basin.now.area c.requires.from.columns.width c.args.i c.args.j c.args.side c.requires.cell))

pub returns-clause-value : goal.returns-clause-value
returns-clause-value c =
    let area = c.args.basin.now.area in
    let fields = c.args.fields.now in
    let there = c.at.ensures ∙ ap (salty_at fields) (out_same area fields.water c.requires.from.shapes.shape c.args.i c.args.j c.args.side 1) in
    let range = c.next_number-u.ensures.range in
    let own : read c.next_number-u.result ≡ c.next_number-u.result = omega (arith, ints, range.0, range.1) in
    let u = own ∙ c.next_number-u.ensures.value in
    let flow = through (next_number area (number_at c.args.basin.now.heights) c.args.slope fields.faces c.args.i c.args.j c.args.side) (salty_at fields (behind area c.args.i c.args.j c.args.side)) (salty_at fields (CellAt c.args.i c.args.j)) (salty_at fields (out_from area c.args.i c.args.j c.args.side 1)) (salty_at fields (beyond area c.args.i c.args.j c.args.side)) in
    c.through.ensures.value
    ∙ (λ t. through (u t) (c.behind-behind.ensures t) (c.get.ensures t) (there t) (c.beyond-beyond.ensures t))
    ∙ sym (ap (λ (b : Bool). if b then flow else nothing) (sym c.is_open.ensures ∙ c.if-not-is_open.false))
