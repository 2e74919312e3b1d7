use Rattle.std.proofs.Common.{◌≡◌, sym, ◌∙◌, subst, map}
use Rattle.std.proofs.lemmas.Result.{IfOk-weaker}
use Rattle.cpl_xgrid.specs.Groups.{AreKeys, by_key}
use Rattle.cpl_wires.specs.Tables.{ends_most, poster_key}
use Rattle.cpl_wires.proofs.Most.{ends_most_is}
use Rattle.cpl_wires.proofs.Slotted.{poster_keys_below}
use Rattle.cpl_wires.proofs.slots.posted_edges.Goals as goal

pub by_key-requires-clause-keys : goal.by_key-requires-clause-keys
by_key-requires-clause-keys c = subst (AreKeys 4_096) (sym (c.deref.ensures.value ∙ c.in_ok-keys.ensures)) (poster_keys_below c.args.list.now c.requires.ends)

pub returns : goal.returns
returns c =
    IfOk-weaker c.by_key.result (λ groups. groups ≡ by_key 4_096 c.deref.result.now) (λ groups. groups ≡ by_key ends_most (map poster_key c.args.list.now))
    (λ groups is. is ∙ (λ t. by_key (sym ends_most_is t) ((c.deref.ensures.value ∙ c.in_ok-keys.ensures) t))) c.by_key.ensures
