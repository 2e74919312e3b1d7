use Rattle.std.proofs.Common.{◌∙◌, ap, subst, List, length, map}
use Rattle.std.specs.List.{range_with_len}
use Rattle.cpl_xgrid.specs.Groups.{by_key}
use Rattle.cpl_wires.specs.declared.parts.Edge.{Edge}
use Rattle.cpl_wires.specs.Settings.{IsSetting}
use Rattle.cpl_wires.specs.Edges.{length_of}
use Rattle.cpl_wires.specs.Tables.{ends_most, slot_in, poster, taker, poster_key, taker_key}
use Rattle.cpl_wires.proofs.Placed.{list_edges, list_ends, list_few}
use Rattle.cpl_wires.proofs.edges.tables_of.Goals as goal

pub lens_of-requires : goal.lens_of-requires
lens_of-requires c = list_edges c.args.shared.now c.deref.result.now (c.deref.ensures.value ∙ c.in_ok-edges.ensures)

pub ends_of-requires-clause-ends : goal.ends_of-requires-clause-ends
ends_of-requires-clause-ends c = list_ends c.args.shared.now c.deref-2.result.now (c.deref-2.ensures.value ∙ c.in_ok-edges.ensures) (subst IsSetting c.pieces.ensures c.names-names.ensures.lawful)

pub ends_of-requires-clause-few : goal.ends_of-requires-clause-few
ends_of-requires-clause-few c = list_few c.args.shared.now c.deref-2.result.now (c.deref-2.ensures.value ∙ c.in_ok-edges.ensures) (subst IsSetting c.pieces.ensures c.names-names.ensures.lawful)

pub returns : goal.returns
returns c =
    let all = c.deref-2.ensures.value ∙ c.in_ok-edges.ensures in record {
      lawful = subst IsSetting c.pieces.ensures c.names-names.ensures.lawful;
      edges = c.in_ok-edges.ensures;
      lens = c.in_ok-lens.ensures ∙ ap (map (length_of c.args.shared.now)) (c.deref.ensures.value ∙ c.in_ok-edges.ensures);
      posted = c.in_ok-ends.ensures.posted ∙ ap (λ (l : List Edge). by_key ends_most (map poster_key l)) all;
      taken = c.in_ok-ends.ensures.taken ∙ ap (λ (l : List Edge). by_key ends_most (map taker_key l)) all;
      post_slots = c.in_ok-ends.ensures.post_slots ∙ ap (λ (l : List Edge). map (slot_in (map poster l)) (range_with_len 0 (length (map poster l)))) all;
      take_slots = c.in_ok-ends.ensures.take_slots ∙ ap (λ (l : List Edge). map (slot_in (map taker l)) (range_with_len 0 (length (map taker l)))) all;
    }
