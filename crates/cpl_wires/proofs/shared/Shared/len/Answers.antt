use Rattle.std.proofs.Common.{◌≡◌, subst, ℕ, IfOk}
use Rattle.cpl_wires.specs.Edges.{length_for, length_of}
use Rattle.cpl_wires.proofs.shared.Shared.len.Goals as goal

pub returns : goal.returns
unfolding length_of
returns c =
    subst (λ (n : ℕ). IfOk c.len_for.result (λ (len : ℕ). len ≡ length_for c.args.self.now c.args.edge.purpose c.args.edge.from c.args.edge.to n)) c.count-count.ensures.count c.len_for.ensures
