use Rattle.cpl_slow.proofs.Swapped.{can_slow, held_lists, slowed_mid}
use Rattle.cpl_slow.proofs.slow.slow_ice.Goals as goal

pub slow-requires-clause-lists : goal.slow-requires-clause-lists
slow-requires-clause-lists c =
    held_lists c.args.mid.now c.swap.new.whole c.args.room.now.ice c.swap.new.self c.swap.ensures.whole c.swap.ensures.lists c.args.grid.now c.requires.mid

pub slow-requires-clause-can : goal.slow-requires-clause-can
slow-requires-clause-can c =
    can_slow c.args.mid.now c.swap.new.whole c.args.room.now.ice c.swap.new.self c.swap.ensures.whole c.swap.ensures.lists
    c.args.grid.now c.args.rates.now c.args.room.now.arrived.items c.deref.result.now c.deref.ensures.value c.requires.can

pub returns-clause-value : goal.returns-clause-value
returns-clause-value c =
    slowed_mid c.args.mid.now c.swap.new.whole c.args.room.now.ice c.swap.new.self c.swap.ensures.whole c.swap.ensures.lists
    c.args.grid.now c.args.rates.now c.args.room.now.arrived.items c.deref.result.now c.deref.ensures.value
    c.slow.new.self c.swap-2.new.whole c.slow.ensures c.swap-2.ensures.whole
