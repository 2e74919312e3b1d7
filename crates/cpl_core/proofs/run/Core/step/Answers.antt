use Rattle.std.proofs.Common.{◌≡◌, ℕ, sym, ◌∙◌, ap, Some, arith}
use Rattle.cpl_core.specs.declared.wiring.Wires.{Wires}
use Rattle.cpl_core.specs.Wires.{IsWired}
use Rattle.cpl_core.specs.Run.{State, happens, happens_by, done_of, IsReached}
use Rattle.cpl_core.specs.Ready.{act_of}
use Rattle.cpl_core.proofs.Kept.{Kept}
use Rattle.cpl_core.proofs.Steps.{kept_reached}
use Rattle.cpl_core.proofs.Counts.{has_script}
use Rattle.cpl_core.proofs.Happenings.{has_place, word_fits, done_fits, reached_more, ready_steps, no_step}
use Rattle.cpl_core.proofs.run.Core.step.Goals as goal

-- what is kept where the run has come to
now_kept : (wires : Wires) (state : State) → IsWired wires → IsReached wires state → Kept wires state
now_kept wires state wired reached = kept_reached wires reached.0 state wired reached.1

pub number_at-word-requires : goal.number_at-word-requires
number_at-word-requires g c =
    let wires = g.W.Wiring.wires c.args.wiring.now in
    has_place wires c.args.self.now c.args.event (now_kept wires c.args.self.now c.edges.ensures.wired c.requires.reached) c.requires.range

pub actor-requires-clause-sizes : goal.actor-requires-clause-sizes
actor-requires-clause-sizes g c = (now_kept (g.W.Wiring.wires c.args.wiring.now) c.args.self.now c.edges.ensures.wired c.requires.reached).done_len

pub is_phase-requires : goal.is_phase-requires
is_phase-requires g c =
    let wires = g.W.Wiring.wires c.args.wiring.now in
    has_place wires c.args.self.now c.args.event (now_kept wires c.args.self.now c.edges.ensures.wired c.requires.reached) c.requires.range

pub change-requires-clause-place : goal.change-requires-clause-place
change-requires-clause-place g c =
    let wires = g.W.Wiring.wires c.args.wiring.now in
    has_place wires c.args.self.now c.args.event (now_kept wires c.args.self.now c.edges.ensures.wired c.requires.reached) c.requires.range

pub change-requires-clause-acts : goal.change-requires-clause-acts
change-requires-clause-acts g c =
    let wires = g.W.Wiring.wires c.args.wiring.now in
    let kept = now_kept wires c.args.self.now c.edges.ensures.wired c.requires.reached in
    omega (arith, kept.done_len, has_script wires c.in-Some.piece (done_of c.args.self.now c.in-Some.piece) (act_of c.args.event) c.in-Some.ensures.found.1)

pub change-requires-clause-words : goal.change-requires-clause-words
change-requires-clause-words g c =
    let wires = g.W.Wiring.wires c.args.wiring.now in
    let kept = now_kept wires c.args.self.now c.edges.ensures.wired c.requires.reached in
    λ edge. word_fits wires c.args.self.now edge c.edges.ensures.wired kept

pub change-requires-clause-done : goal.change-requires-clause-done
change-requires-clause-done g c =
    done_fits (g.W.Wiring.wires c.args.wiring.now) c.args.self.now c.in-Some.piece (act_of c.args.event) c.edges.ensures.wired c.in-Some.ensures.found.1

pub returns-in-Some-clause-ok : goal.returns-in-Some-clause-ok
returns-in-Some-clause-ok g c =
    let wires = g.W.Wiring.wires c.args.wiring.now in
    let state = c.args.self.now in
    let kept = now_kept wires state c.edges.ensures.wired c.requires.reached in
    let acts = c.in-Some.ensures.found in
    ready_steps wires state c.args.event c.in-Some.piece c.edges.ensures.wired kept acts.0 acts.1 (c.is_phase.ensures.0 c.if-is_phase.true)
    ∙ ap (λ (s : State). Some s) (ap (λ (piece : ℕ). happens_by piece state c.args.event) (sym acts.0) ∙ sym c.change.ensures)

pub returns-in-Some-clause-reached : goal.returns-in-Some-clause-reached
returns-in-Some-clause-reached g c =
    let wires = g.W.Wiring.wires c.args.wiring.now in
    let state = c.args.self.now in
    let kept = now_kept wires state c.edges.ensures.wired c.requires.reached in
    let acts = c.in-Some.ensures.found in
    let is = ready_steps wires state c.args.event c.in-Some.piece c.edges.ensures.wired kept acts.0 acts.1 (c.is_phase.ensures.0 c.if-is_phase.true) in
    let same : happens wires state c.args.event ≡ c.change.new.self = ap (λ (piece : ℕ). happens_by piece state c.args.event) (sym acts.0) ∙ sym c.change.ensures in
    reached_more wires state c.change.new.self c.args.event c.requires.reached (is ∙ ap (λ (s : State). Some s) same)

pub returns-in_default-2-clause-disabled : goal.returns-in_default-2-clause-disabled
returns-in_default-2-clause-disabled g c =
    let wires = g.W.Wiring.wires c.args.wiring.now in
    let state = c.args.self.now in
    let kept = now_kept wires state c.edges.ensures.wired c.requires.reached in
    no_step wires state c.args.event kept (λ ready. c.in_default.ensures.none ready.next)
