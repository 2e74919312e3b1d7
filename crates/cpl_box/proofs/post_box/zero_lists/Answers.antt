use Rattle.std.proofs.Common.{rules, arith, ap, sym, ◌∙◌, ◌≡◌, ◌∷◌, [], ◌++◌, length, take, ℤ, Vec, Global}
use mathlib.Core.List.{map-append}
use Rattle.std.proofs.lemmas.List.{take_more}
use lib.ListN.{length-map}
use Rattle.cpl_core.specs.declared.wiring.Channel.{Channel}
use Rattle.cpl_core.specs.Wires.{len_of}
use Rattle.cpl_box.specs.Passes.{lens_of, lens_in}
use Rattle.cpl_box.proofs.Passes.{len_there}
use Rattle.cpl_box.proofs.post_box.zero_lists.Goals as goal

pub loop-edge-preserved : goal.loop-edge-preserved
loop-edge-preserved g c =
    let wires = g.W.Wiring.wires c.args.wiring.now in
    let e = c.loop-edge.edge in
    let long : length c.in_ok-vec.field-0.items ≡ len_of wires e = search rules in
    let pushed : c.push.new.self.items ≡ c.loop-edge.lists.items ++ c.in_ok-vec.field-0 ∷ [] = c.in_ok-push.ensures.items in
    ap lens_in pushed ∙ map-append (λ (v : Vec ℤ Global). length v.items) c.loop-edge.lists.items (c.in_ok-vec.field-0 ∷ [])
    ∙ ap (λ l. l ++ length c.in_ok-vec.field-0.items ∷ []) c.loop-edge.invariant
    ∙ ap (λ n. take e (lens_of wires) ++ n ∷ []) (long ∙ len_there wires.channels e)
    ∙ sym (take_more (lens_of wires) e 0 (omega (arith, c.requires, length-map wires.channels (λ (x : Channel). x.len))))
