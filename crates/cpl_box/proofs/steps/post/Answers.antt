use Rattle.std.proofs.Common.{arith, sym, ap, ◌∙◌, ◌∷◌, length}
use Rattle.atomic_table.specs.Table.{rest}
use Rattle.cpl_box.specs.Views.{claimed}
use Rattle.cpl_box.proofs.Gives.{publishing_as}
use Rattle.cpl_box.proofs.steps.post.Goals as goal

pub slot_mut-requires : goal.slot_mut-requires
slot_mut-requires g c = let hit = c.claim-found.ensures.tries.1 c.if-found-free.false in let carried = ap (λ m. m.1) hit.1 in
    (c.claim-found.ensures.same.0 ∙ c.requires.rest.0, (hit.0, carried ∙ ap (λ l. (c.args.edge, hit.0) ∷ rest l) (sym carried)))

pub store-requires : goal.store-requires
store-requires g c = let hit = c.claim-found.ensures.tries.1 c.if-found-free.false in let r = c.requires.rest in let list = ap (λ l. l.items) c.swap.ensures.x_after in (
  c.claim-found.ensures.same.0 ∙ r.0,
  omega (arith, r.4, c.requires.edge),
  publishing_as _ _ _ c.args.edge c.args.k c.claim-found.new.seat.me.0 c.args.seat.now.me.0 _ c.swap.new.x r.2 c.requires.edge c.requires.turn.1 (ap length list ∙ c.requires.list.1)
      (ap (λ m. m.0) hit.1 ∙ ap (claimed c.args.seat.now.me.0 c.args.edge) c.if-found-free.false) c.requires.turn.0 (list ∙ c.requires.list.0),
)
