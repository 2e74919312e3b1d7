use Rattle.std.proofs.Common.{◌≡◌, sym, subst, Some, ⊎_elim}
use Rattle.std.specs.Prelude.{IfSome}
use Rattle.cpl_core.specs.declared.events.Event.{Event}
use Rattle.cpl_core.specs.Run.{next_of, actor_of}
use Rattle.cpl_core.specs.Ready.{act_of}
use Rattle.cpl_core.proofs.Happenings.{is_poster, is_taker}
use Rattle.cpl_core.proofs.run.Core.actor.Goals as goal

pub returns-in-ClaimPost-clause-found : goal.returns-in-ClaimPost-clause-found
returns-in-ClaimPost-clause-found g c =
    let wires = g.W.Wiring.wires c.args.wiring.now in
    let state = c.args.self.now in
    let found = c.first_with-in-ClaimPost.result in
    let Found : Event → Type 0 = λ event. IfSome found (λ piece. (piece ≡ actor_of wires event) × (next_of wires state piece ≡ Some (act_of event))) in
    let is = is_poster wires state c.in-ClaimPost.edge found c.requires.wired c.first_with-in-ClaimPost.ensures.found in
    ⊎_elim (λ e. subst Found (sym e) is) (λ e. subst Found (sym e) is) c.in-ClaimPost.is

pub returns-in-ClaimTake-clause-found : goal.returns-in-ClaimTake-clause-found
returns-in-ClaimTake-clause-found g c =
    let wires = g.W.Wiring.wires c.args.wiring.now in
    let state = c.args.self.now in
    let found = c.first_with.result in
    let Found : Event → Type 0 = λ event. IfSome found (λ piece. (piece ≡ actor_of wires event) × (next_of wires state piece ≡ Some (act_of event))) in
    let is = is_taker wires state c.in-ClaimTake.edge found c.requires.wired c.first_with.ensures.found in
    ⊎_elim (λ e. subst Found (sym e) is) (λ e. subst Found (sym e) is) c.in-ClaimTake.is
