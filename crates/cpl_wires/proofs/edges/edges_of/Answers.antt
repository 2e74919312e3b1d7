use Rattle.std.proofs.Common.{◌≡◌, ◌∙◌, ap, ℕ, arith, take}
use Rattle.std.specs.List.{flat_map}
use Rattle.cpl_wires.specs.declared.parts.Purpose.TheVariants.{AirHalo}
use Rattle.cpl_wires.specs.Edges.{edges_of, edges_for}
use Rattle.cpl_wires.specs.Purposes.{purposes}
use Rattle.cpl_wires.proofs.Appended.{listed_more}
use Rattle.cpl_wires.proofs.edges.edges_of.Goals as goal

pub loop-purpose-preserved : goal.loop-purpose-preserved
loop-purpose-preserved c =
    listed_more (edges_for c.args.shared.now) purposes c.loop-purpose.purpose-index AirHalo c.loop-purpose.edges.items c.add_for.new.edges.items c.loop-purpose-test.true c.loop-purpose.invariant c.in_ok-add_for.ensures

pub returns : goal.returns
unfolding edges_of
returns c =
    let end : c.loop-purpose.purpose-index ≡ 10 = omega arith in
    c.loop-purpose.invariant ∙ ap (λ (n : ℕ). flat_map (edges_for c.args.shared.now) (take n purposes)) end
