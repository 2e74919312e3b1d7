use Rattle.std.proofs.Common.{sym, subst}
use Rattle.cpl_state.specs.States.{layers}
use Rattle.cpl_sea.specs.Seas.{IsSea}
use Rattle.cpl_ocean_tests.proofs.sea.state.Goals as goal

pub returns-clause-sea : goal.returns-clause-sea
returns-clause-sea c =
    let grid = c.args.grid.now in
    subst (IsSea grid.ocean (layers grid)) (sym c.state_of.ensures.sea)
    (record { water = c.in_ok-water.ensures; heat = c.in_ok-heat.ensures; salt = c.in_ok-salt.ensures; faces = c.in_ok-faces.ensures })
