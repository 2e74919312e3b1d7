use Rattle.std.proofs.Common.{◌≡◌, ◌∙◌, sym, ap, subst, ◌+◌, ◌*◌, ◌<◌, ◌≤◌, arith, inl, inr, ℕ, length, below_more, slice_set}
use Rattle.std.specs.Prelude.{pos}
use Rattle.std.proofs.lemmas.Bool.{cases_lt}
use Rattle.std.proofs.lemmas.List.Elements.{All-set}
use Rattle.cpl_fixed.specs.Amounts.{at}
use Rattle.cpl_transport.specs.Heights.{IsFaceNumber}
use Rattle.cpl_transport.specs.Salts.{AreSmall, nothing}
use Rattle.cpl_transport.proofs.Bounds.{read}
use Rattle.cpl_sea.specs.Before.{cell_at, face_place, layer_flows, layer_numbers}
use Rattle.cpl_sea.specs.Passes.{flow_in, link_at, number_after, salty_at}
use Rattle.cpl_sea.proofs.Rows.{later_row, place_below}
use Rattle.cpl_sea.proofs.Writes.{at_all, kept_before, own_number, written_behind, written_from, written_here, written_other}
use Rattle.cpl_sea.proofs.moving.move_layer.Goals as goal

pub loop-f-preserved : goal.loop-f-preserved
loop-f-preserved c =
    let before = c.args.before.now in
    let layer = c.args.layer in
    let f = c.loop-f.f in
    let from = c.args.from in
    let F = length before.links.now in
    let first = layer * F in
    let link = link_at before.links.now f in
    let old = c.args.faces.now in
    let faces = c.loop-f.faces in
    let flows = c.loop-f.flows in
    let is = c.loop-f.invariant in
    let since : from ≤ f = c.loop-f.auto.f in
    let below = place_below before.layers F layer f c.requires.layer (omega arith) in
    let within : first + f < length faces = omega (arith, below) in
    let flows_within : first + f < length flows = omega (arith, below) in
    let u = c.driven-u.result in
    let own : read u ≡ u = own_number u c.driven-u.ensures.range in
    let number : read (at faces (first + f)) ≡ at old (first + f) =
    own_number (at faces (first + f)) (at_all IsFaceNumber faces (first + f) is.range within) ∙ is.later (first + f) (omega arith) in
    let value : read u ≡ layer_numbers before old layer f = own ∙ c.driven-u.ensures.value ∙ ap (number_after before.slope before.heights.now link) number in
    let flown = c.flow.ensures.value ∙ ap (flow_in (cell_at before) (layer * length before.heights.now) link) value in
    record {
      numbers = written_from (pos 0) faces first f (read u) within from (layer_numbers before old layer) value is.numbers;
      later = written_behind (pos 0) faces first f (read u) within old is.later;
      earlier = kept_before (pos 0) faces first f (read u) within from since old is.earlier;
      range = All-set IsFaceNumber faces (first + f) (read u) (subst IsFaceNumber (sym own) c.driven-u.ensures.range) is.range;
      flows = written_from nothing flows first f c.flow.result flows_within from (layer_flows before old layer) flown is.flows;
      small = λ k le l. below_more (λ k. from ≤ k → AreSmall (salty_at (slice_set flows (first + f) c.flow.result) (first + k))) f
          (λ k l le. subst AreSmall (sym (written_other nothing flows first f c.flow.result flows_within (first + k) (λ e. omega arith))) (is.small k le l))
          (λ le. subst AreSmall (sym (written_here nothing flows first f c.flow.result flows_within)) c.flow.ensures.small) k l le;
      flows_later = written_behind nothing flows first f c.flow.result flows_within c.args.flows.now is.flows_later;
      flows_earlier = kept_before nothing flows first f c.flow.result flows_within from since c.args.flows.now is.flows_earlier;
    }

pub returns-clause-others : goal.returns-clause-others
returns-clause-others c = λ other apart.
    let is = c.loop-f.invariant in
    let F = length c.args.before.now.links.now in
    let place = face_place c.args.before.now other in
    elim (cases_lt other c.args.layer) [
      | inl less ↦ record {
        numbers = λ f l. let below = place_below c.args.layer F other f less l in is.earlier (place f) (omega (arith, below));
        flown = λ f l. let below = place_below c.args.layer F other f less l in is.flows_earlier (place f) (omega (arith, below));
      }
      | inr past ↦
          let e : other ≡ c.args.layer → ⊥ = apart in
          let behind : (f : ℕ) → c.args.layer * F + c.loop-f.f ≤ other * F + f = λ f. later_row F c.args.layer other c.loop-f.f f (omega arith) (omega arith) in
          record { numbers = λ f l. is.later (place f) (behind f); flown = λ f l. is.flows_later (place f) (behind f) }
    ]
