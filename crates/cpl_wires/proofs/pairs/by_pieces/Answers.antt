use Rattle.std.proofs.Common.{◌≡◌, sym, ◌∙◌, subst}
use Rattle.std.proofs.lemmas.Result.{IfOk-weaker}
use Rattle.cpl_xgrid.specs.Groups.{AreKeys, by_key}
use Rattle.cpl_wires.specs.Tables.{by_pieces}
use Rattle.cpl_wires.proofs.Most.{pairs_most_is}
use Rattle.cpl_wires.proofs.Keyed.{pairs_below}
use Rattle.cpl_wires.proofs.pairs.by_pieces.Goals as goal

pub by_key-requires-clause-keys : goal.by_key-requires-clause-keys
by_key-requires-clause-keys c =
    subst (AreKeys 4_096) (sym (c.deref.ensures.value ∙ c.in_ok-keys.ensures))
    (pairs_below c.args.one.now c.args.other.now c.args.pairs.now c.requires.one c.requires.other c.requires.pairs)

pub returns : goal.returns
returns c =
    IfOk-weaker c.by_key.result (λ groups. groups ≡ by_key 4_096 c.deref.result.now) (λ groups. groups ≡ by_pieces c.args.one.now c.args.other.now c.args.pairs.now)
    (λ groups is. is ∙ (λ t. by_key (sym pairs_most_is t) ((c.deref.ensures.value ∙ c.in_ok-keys.ensures) t))) c.by_key.ensures
