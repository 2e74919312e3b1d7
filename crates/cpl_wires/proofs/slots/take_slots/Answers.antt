use Rattle.std.proofs.Common.{◌≡◌, sym, ◌∙◌, ap, subst, ℕ, arith, List, length, map}
use Rattle.std.specs.List.{range_with_len}
use Rattle.std.proofs.lemmas.List.{length-map}
use Rattle.std.proofs.lemmas.Result.{IfOk-weaker}
use Rattle.cpl_xgrid.specs.Groups.{AreKeys}
use Rattle.cpl_wires.specs.Tables.{slot_in, taker}
use Rattle.cpl_wires.proofs.Slotted.{takers_below}
use Rattle.cpl_wires.proofs.slots.take_slots.Goals as goal

pub slots_of-requires-clause-keys : goal.slots_of-requires-clause-keys
slots_of-requires-clause-keys c = subst (AreKeys 256) (sym (c.deref.ensures.value ∙ c.in_ok-keys.ensures)) (takers_below c.args.list.now c.requires.ends)

pub slots_of-requires-clause-few : goal.slots_of-requires-clause-few
slots_of-requires-clause-few c =
    let same = ap (λ (l : List ℕ). length l) (c.deref.ensures.value ∙ c.in_ok-keys.ensures) in
    let long = length-map c.args.list.now taker in
    let few = c.requires.few in omega arith

pub returns : goal.returns
returns c =
    IfOk-weaker c.slots_of.result (λ slots. slots.items ≡ map (slot_in c.deref.result.now) (range_with_len 0 (length c.deref.result.now)))
    (λ slots. slots.items ≡ map (slot_in (map taker c.args.list.now)) (range_with_len 0 (length (map taker c.args.list.now))))
    (λ slots is. is ∙ ap (λ (keys : List ℕ). map (slot_in keys) (range_with_len 0 (length keys))) (c.deref.ensures.value ∙ c.in_ok-keys.ensures)) c.slots_of.ensures
