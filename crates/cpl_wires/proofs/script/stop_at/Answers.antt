use Rattle.std.proofs.Common.{◌∙◌, refl, sym, ap, subst, ◌-◌, eqb, arith}
use Rattle.cpl_wires.specs.Settings.{Setting, IsSetting}
use Rattle.cpl_wires.specs.Turns.{summing}
use Rattle.cpl_wires.specs.Lengths.{AreShort}
use Rattle.cpl_wires.proofs.Shortened.{lengths_short}
use Rattle.cpl_wires.proofs.Reached.{acted_same, in_first_sums, in_the_step, some_steps}
use Rattle.cpl_wires.proofs.script.stop_at.Goals as goal

pub returns-then-m-lengths-2 : goal.returns-then-m-lengths-2
returns-then-m-lengths-2 c =
    let edges = c.args.edges.now in
    c.stop_among.ensures
    ∙ acted_same edges c.args.piece 0 0 c.args.m c.summing.result.now (summing (eqb c.args.piece 0)) c.summing.ensures.moves
    ∙ sym (in_first_sums edges c.args.piece c.args.lengths.now c.requires.lengths edges.names refl c.args.m c.if-m-lengths-2.true)

pub step_at-step-requires-clause-short : goal.step_at-step-requires-clause-short
step_at-step-requires-clause-short c =
    let lawful = subst IsSetting (c.pieces.ensures ∙ c.shared.ensures) c.names-names.ensures.lawful in
    subst AreShort (sym c.requires.lengths) (lengths_short c.args.edges.now lawful c.args.piece)

pub step_at-step-requires-clause-some : goal.step_at-step-requires-clause-some
step_at-step-requires-clause-some c =
    let edges = c.args.edges.now in
    let piece = c.args.piece in
    let lengths = c.args.lengths.now in
    let names = c.names-names.result.now in
    let same = c.names-names.ensures.names ∙ ap (λ (setting : Setting). setting.names) (c.pieces.ensures ∙ c.shared.ensures) in
    some_steps edges piece lengths c.requires.lengths names same c.args.m (omega arith) (omega arith)

pub returns : goal.returns
returns c =
    let edges = c.args.edges.now in
    let piece = c.args.piece in
    let lengths = c.args.lengths.now in
    let names = c.names-names.result.now in
    let same = c.names-names.ensures.names ∙ ap (λ (setting : Setting). setting.names) (c.pieces.ensures ∙ c.shared.ensures) in
    let k = c.args.m - lengths.summing in
    c.stop_in_step.ensures
    ∙ sym (in_the_step edges piece lengths c.requires.lengths names same c.args.m k c.step_at-step.result.0 c.step_at-step.result.1 (omega arith) c.step_at-step.ensures.place
    c.step_at-step.ensures.within c.step_at-step.ensures.there)
