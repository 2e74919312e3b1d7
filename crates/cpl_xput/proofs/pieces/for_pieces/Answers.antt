use Rattle.std.proofs.Common.{◌≡◌, sym, ◌∙◌, ap, subst, ℕ, List, map, get_or}
use Rattle.std.proofs.lemmas.Result.{IfOk-weaker}
use Rattle.cpl_layout.specs.Pieces.{pieces_of, owner_of}
use Rattle.cpl_xgrid.specs.Groups.{AreKeys, by_key}
use Rattle.cpl_xput.specs.Places.{place_of, for_pieces}
use Rattle.cpl_xput.proofs.Picked.{owners_are, pieces_are}
use Rattle.cpl_xput.proofs.pieces.for_pieces.Goals as goal

pub by_key-requires-clause-keys : goal.by_key-requires-clause-keys
by_key-requires-clause-keys c =
    let keys = owners_are c.args.layout.now c.args.cells.now c.pieces-count.ensures.owners c.requires.cells in
    let counted = subst (λ (m : ℕ). AreKeys m (map (owner_of c.args.layout.now) c.args.cells.now)) (sym c.pieces-count.ensures.count) keys in
    subst (λ (l : List ℕ). AreKeys c.pieces-count.result l) (sym (c.deref.ensures.value ∙ c.in_ok-owners.ensures)) counted

pub returns-clause-places : goal.returns-clause-places
returns-clause-places c =
    let layout = c.args.layout.now in
    let groups : c.in_ok-groups.groups ≡ by_key (pieces_of layout) (map (owner_of layout) c.args.cells.now) =
    c.in_ok-groups.ensures ∙ ap (λ (m : ℕ). by_key m c.deref.result.now) c.pieces-count.ensures.count ∙ ap (by_key (pieces_of layout)) (c.deref.ensures.value ∙ c.in_ok-owners.ensures) in
    let table : c.deref-2.result.now ≡ map (place_of layout) c.args.cells.now = c.deref-2.ensures.value ∙ c.in_ok-places.ensures in
    let same : map (map (λ n. get_or c.deref-2.result.now n 0)) c.in_ok-groups.groups ≡ for_pieces layout c.args.cells.now =
    ap (λ (l : List (List ℕ)). map (map (λ n. get_or c.deref-2.result.now n 0)) l) groups
    ∙ ap (λ (t : List ℕ). map (map (λ n. get_or t n 0)) (by_key (pieces_of layout) (map (owner_of layout) c.args.cells.now))) table
    ∙ pieces_are layout c.args.cells.now in
    IfOk-weaker c.pick.result (λ g. g ≡ map (map (λ n. get_or c.deref-2.result.now n 0)) c.in_ok-groups.groups) (λ g. g ≡ for_pieces layout c.args.cells.now) (λ g is. is ∙ same) c.pick.ensures
