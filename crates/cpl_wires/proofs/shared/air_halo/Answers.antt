use Rattle.std.proofs.Common.{◌≡◌, ◌∙◌, sym, subst, arith}
use Rattle.std.proofs.lemmas.Result.{IfOk-weaker}
use Rattle.cpl_fixed.specs.declared.words.Component.TheVariants.{Atmos}
use Rattle.cpl_layout.specs.Layouts.{IsLayout}
use Rattle.cpl_strip.specs.Between.{strips_of}
use Rattle.cpl_wires.specs.Tables.{halo_strips}
use Rattle.cpl_wires.proofs.Strung.{strips_are, have_pieces, strips_few}
use Rattle.cpl_wires.proofs.shared.air_halo.Goals as goal

pub new-requires-clause-strips : goal.new-requires-clause-strips
new-requires-clause-strips c =
    strips_are c.grid-grid.result.now.air.mosaic c.layout-layout.result.now 1 c.in_ok-found.found.items c.in_ok-found.ensures.links
    (subst IsLayout (sym c.layout-layout.ensures.layout) c.layout-layout.ensures.lawful)

pub new-requires-clause-pieces : goal.new-requires-clause-pieces
new-requires-clause-pieces c =
    have_pieces c.grid-grid.result.now.air.mosaic c.layout-layout.result.now 1 c.in_ok-found.found.items c.in_ok-found.ensures.links
    (subst IsLayout (sym c.layout-layout.ensures.layout) c.layout-layout.ensures.lawful)

pub new-requires-clause-few : goal.new-requires-clause-few
new-requires-clause-few c =
    let few = strips_few c.grid-grid.result.now.air.mosaic c.layout-layout.result.now 1 c.in_ok-found.found.items c.in_ok-found.ensures.links
    (subst IsLayout (sym c.layout-layout.ensures.layout) c.layout-layout.ensures.lawful) in omega arith

pub returns-clause-strips : goal.returns-clause-strips
returns-clause-strips c =
    let found : c.in_ok-found.found.items ≡ halo_strips c.args.pieces.now Atmos 1 =
    c.in_ok-found.ensures.exact ∙ (λ t. strips_of (c.grid-grid.ensures.grid t).air.mosaic (c.layout-layout.ensures.layout t) 1) in
    IfOk-weaker c.new.result (λ halo. halo.strips ≡ c.in_ok-found.found.items) (λ halo. halo.strips ≡ halo_strips c.args.pieces.now Atmos 1) (λ halo is. is ∙ found) c.new.ensures.strips
