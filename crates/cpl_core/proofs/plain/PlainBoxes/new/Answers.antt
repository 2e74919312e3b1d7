use Rattle.std.proofs.Common.{◌≡◌, ℕ, ℤ, ◌<◌, length, map, List, [], get_or, replicate, rules, sym, ◌∙◌, subst, arith, Vec, Global, refl}
use Rattle.std.proofs.lemmas.List.{length-map}
use Rattle.cpl_core.specs.Wires.{len_of}
use Rattle.cpl_core.specs.Content.{posts_at, takes_at}
use Rattle.cpl_core.specs.Plain.{IsPlain}
use Rattle.cpl_core.proofs.Turns.{before_turns, none_yet}
use Rattle.cpl_core.proofs.plain.PlainBoxes.new.Goals as goal

pub invariant_of-result : goal.invariant_of-result
invariant_of-result g c =
    let wires = g.W.Wiring.wires c.args.wiring.now in
    let lists = map (λ (v : Vec ℤ Global). v.items) c.loop-edge.lists.items in
    let count = c.edges-edges.ensures.count in
    let end : c.loop-edge.edge ≡ length wires.channels = omega arith in
    let len : length lists ≡ length wires.channels = length-map c.loop-edge.lists.items (λ (v : Vec ℤ Global). v.items) ∙ (c.loop-edge.invariant.len ∙ end) in
    let lens : (edge : ℕ) → edge < length wires.channels → length (get_or lists edge []) ≡ len_of wires edge = λ edge is. c.loop-edge.invariant.lens edge (omega arith) in
    let plain = before_turns wires lists c.edges-edges.ensures.wired len lens in
    let turns : c.in_ok-turns.turns.items ≡ replicate (length wires.channels) 0 = search rules in
    subst (λ (turns : List ℕ). IsPlain wires turns lists) (sym turns) plain

pub returns-clause-posts : goal.returns-clause-posts
returns-clause-posts g c =
    let edges = length (g.W.Wiring.wires c.args.wiring.now).channels in
    let turns : c.in_ok-turns.turns.items ≡ replicate edges 0 = search rules in
    none_yet posts_at c.in_ok-turns.turns.items edges turns refl

pub returns-clause-takes : goal.returns-clause-takes
returns-clause-takes g c =
    let edges = length (g.W.Wiring.wires c.args.wiring.now).channels in
    let turns : c.in_ok-turns.turns.items ≡ replicate edges 0 = search rules in
    none_yet takes_at c.in_ok-turns.turns.items edges turns refl
