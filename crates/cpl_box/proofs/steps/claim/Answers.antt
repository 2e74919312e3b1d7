use Rattle.std.proofs.Common.{arith, subst, ℕ}
use Rattle.cpl_box.specs.Steps.{Tries}
use Rattle.cpl_box.proofs.Tries.{tries, edge_of}
use Rattle.cpl_box.proofs.steps.claim.Goals as goal

pub compare_exchange-requires : goal.compare_exchange-requires
compare_exchange-requires g c = let r = c.requires.rest in
    (r.0, omega (arith, r.4, c.requires.edge), tries _ _ _ c.args.edge c.args.from c.args.seat.now.me.0 c.args.seat.now.me.1 r.2 c.requires.edge (omega (arith, c.requires.edge, r.3.2)) c.requires.even c.requires.uses)

pub returns-clause-tries : goal.returns-clause-tries
returns-clause-tries g c = subst (λ (d : ℕ). Tries d c.args.from c.args.seat.now.me c.compare_exchange.result c.compare_exchange.new.seat.me) (edge_of c.args.edge) c.compare_exchange.ensures.2
