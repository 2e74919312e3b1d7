use Rattle.std.proofs.Common.{◌≡◌, ◌∙◌, length, arith, subst, ℕ}
use Rattle.std.proofs.lemmas.List.{take_at}
use Rattle.cpl_state.specs.Diffusion.{cell_count}
use Rattle.cpl_sea.specs.Lists.{HasSides, by_both}
use Rattle.cpl_sea.proofs.Entered.{are_all, firsts_within, seconds_within}
use Rattle.cpl_sea.proofs.cell_faces.cell_faces.Goals as goal

pub enter_faces-requires-clause-firsts : goal.enter_faces-requires-clause-firsts
enter_faces-requires-clause-firsts c =
    let size : length c.as_mut_slice.result.now ≡ cell_count c.args.mesh.now = omega (arith, c.as_mut_slice.ensures.len, c.in_ok-cells.ensures.len, c.cells.ensures.count) in
    firsts_within c.args.mesh.now c.args.faces.now (length c.as_mut_slice.result.now) c.requires.ocean c.requires.faces size

pub enter_faces-requires-clause-seconds : goal.enter_faces-requires-clause-seconds
enter_faces-requires-clause-seconds c =
    let size : length c.as_mut_slice.result.now ≡ cell_count c.args.mesh.now = omega (arith, c.as_mut_slice.ensures.len, c.in_ok-cells.ensures.len, c.cells.ensures.count) in
    seconds_within c.args.mesh.now c.args.faces.now (length c.as_mut_slice.result.now) c.requires.ocean c.requires.faces size

pub returns : goal.returns
returns c =
    let size : length c.as_mut_slice.result.now ≡ cell_count c.args.mesh.now = omega (arith, c.as_mut_slice.ensures.len, c.in_ok-cells.ensures.len, c.cells.ensures.count) in
    let has : HasSides c.enter_faces.new.cells (cell_count c.args.mesh.now) (by_both c.args.faces.now c.args.faces.now) = subst (λ (n : ℕ). HasSides c.enter_faces.new.cells n (by_both c.args.faces.now c.args.faces.now)) size c.enter_faces.ensures in
    let long : length c.enter_faces.new.cells ≡ c.in_ok-cells.cells.len = let e = has.size in omega (arith, c.as_mut_slice.ensures.len) in
    take_at c.enter_faces.new.cells _ c.in_ok-cells.cells.len long ∙ are_all c.args.mesh.now c.enter_faces.new.cells c.args.faces.now c.requires.faces has
