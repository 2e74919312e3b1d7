use Rattle.std.proofs.Common.{◌≡◌, ◌∙◌, sym, ap, subst, ◌*◌, arith}
use Rattle.std.proofs.lemmas.Result.{IfOk-weaker}
use Rattle.cpl_fixed.specs.declared.words.Component.TheVariants.{Ocean}
use Rattle.cpl_layout.specs.Layouts.{IsLayout}
use Rattle.cpl_strip.specs.Between.{strips_of}
use Rattle.cpl_xgrid.specs.declared.grid.Grid.{Grid}
use Rattle.cpl_wires.specs.Tables.{halo_strips}
use Rattle.cpl_wires.proofs.Strung.{strips_are, have_pieces, strips_few}
use Rattle.cpl_wires.proofs.shared.ocean_halo.Goals as goal

pub new-requires-clause-strips : goal.new-requires-clause-strips
new-requires-clause-strips c =
    strips_are c.grid-grid.result.now.ocean.mosaic c.layout-layout.result.now 2 c.in_ok-found.found.items c.in_ok-found.ensures.links
    (subst IsLayout (sym c.layout-layout.ensures.layout) c.layout-layout.ensures.lawful)

pub new-requires-clause-pieces : goal.new-requires-clause-pieces
new-requires-clause-pieces c =
    have_pieces c.grid-grid.result.now.ocean.mosaic c.layout-layout.result.now 2 c.in_ok-found.found.items c.in_ok-found.ensures.links
    (subst IsLayout (sym c.layout-layout.ensures.layout) c.layout-layout.ensures.lawful)

pub new-requires-clause-few : goal.new-requires-clause-few
new-requires-clause-few c =
    let few = strips_few c.grid-grid.result.now.ocean.mosaic c.layout-layout.result.now 2 c.in_ok-found.found.items c.in_ok-found.ensures.links
    (subst IsLayout (sym c.layout-layout.ensures.layout) c.layout-layout.ensures.lawful) in omega arith

pub returns-clause-strips : goal.returns-clause-strips
returns-clause-strips c =
    let found : c.in_ok-found.found.items ≡ halo_strips c.args.pieces.now Ocean 2 =
    c.in_ok-found.ensures.exact ∙ (λ t. strips_of (c.grid-grid.ensures.grid t).ocean.mosaic (c.layout-layout.ensures.layout t) 2) in
    IfOk-weaker c.new.result (λ halo. halo.strips ≡ c.in_ok-found.found.items) (λ halo. halo.strips ≡ halo_strips c.args.pieces.now Ocean 2) (λ halo is. is ∙ found) c.new.ensures.strips

pub overflow_mul-grid : goal.overflow_mul-grid
overflow_mul-grid c =
    let layers = c.grid-grid.ensures.lawful.column.layers in
    let same = ap (λ (grid : Grid). grid.column.layers) c.grid-grid.ensures.grid in omega (arith, layers.0, layers.1, same)

pub new-requires-clause-some : goal.new-requires-clause-some
new-requires-clause-some c =
    let layers = c.grid-grid.ensures.lawful.column.layers in
    let same = ap (λ (grid : Grid). grid.column.layers) c.grid-grid.ensures.grid in omega (arith, layers.0, layers.1, same)

pub new-requires-clause-fields : goal.new-requires-clause-fields
new-requires-clause-fields c =
    let layers = c.grid-grid.ensures.lawful.column.layers in
    let same = ap (λ (grid : Grid). grid.column.layers) c.grid-grid.ensures.grid in omega (arith, layers.0, layers.1, same)

pub returns-clause-fields : goal.returns-clause-fields
returns-clause-fields c =
    let same = ap (λ (grid : Grid). 3 * grid.column.layers) c.grid-grid.ensures.grid in
    IfOk-weaker c.new.result (λ halo. halo.fields ≡ 3 * c.grid-grid.result.now.column.layers) (λ halo. halo.fields ≡ 3 * c.args.pieces.now.grid.column.layers) (λ halo is. is ∙ same) c.new.ensures.fields
