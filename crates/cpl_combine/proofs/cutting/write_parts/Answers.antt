use Rattle.std.proofs.Common.{◌≡◌, ◌∙◌, refl, sym, ap, ◌+◌, ◌-◌, ◌<◌, ◌≤◌, ◌++◌, [], List, ℤ, get_or, take, arith, append_assoc}
use Rattle.std.specs.List.{flat_map}
use Rattle.cpl_restart.specs.Numbers.{section_bytes}
use Rattle.cpl_restart.specs.RestartBytes.{sections_of}
use Rattle.cpl_combine.specs.Cuts.{all_gathered, gathered}
use Rattle.cpl_combine.specs.Lists.{lists_of}
use Rattle.cpl_combine.specs.Places.{of_component, section_count, sections_before}
use Rattle.cpl_combine.proofs.Steps.{part_next, parts_end}
use Rattle.cpl_combine.proofs.cutting.write_parts.Goals as goal

pub loop-k-preserved : goal.loop-k-preserved
loop-k-preserved c =
    let component = c.args.component in
    let sections = sections_of c.args.whole.now in
    let places = lists_of c.args.places.now in
    let k = c.loop-k.k in
    let old = c.args.out.now.items in
    let done = flat_map section_bytes (take (c.loop-k.k - sections_before c.args.component) (all_gathered (of_component component sections) (of_component component places))) in
    let numbers : c.as_slice.result.now ≡ get_or sections k [] = c.as_slice.ensures ∙ c.section.ensures in
    let own : c.of.result.now ≡ get_or places k [] = c.of.ensures in
    let part : gathered c.as_slice.result.now c.of.result.now ≡ gathered (get_or sections k []) (get_or places k []) = λ s. gathered (numbers s) (own s) in
    let from : sections_before c.args.component ≤ c.loop-k.k = omega (arith, c.sections_of-before.ensures.before) in
    let below : c.loop-k.k < sections_before c.args.component + section_count c.args.component = omega (arith, c.sections_of-before.ensures.before, c.sections_of-before.ensures.count) in
    c.in_ok-write_part.ensures
    ∙ ap (λ t. t ++ section_bytes (gathered c.as_slice.result.now c.of.result.now)) c.loop-k.invariant
    ∙ ap (λ (p : List ℤ). (old ++ done) ++ section_bytes p) part
    ∙ append_assoc old done (section_bytes (gathered (get_or sections k []) (get_or places k [])))
    ∙ ap (λ t. old ++ t) (sym (part_next component sections places k refl refl from below))

pub returns : goal.returns
returns c =
    let component = c.args.component in
    let sections = sections_of c.args.whole.now in
    let places = lists_of c.args.places.now in
    let end : c.loop-k.k ≡ sections_before c.args.component + section_count c.args.component = omega (arith, c.sections_of-before.ensures.before, c.sections_of-before.ensures.count) in
    c.loop-k.invariant ∙ ap (λ parts. c.args.out.now.items ++ flat_map section_bytes parts) (parts_end component sections places c.loop-k.k refl refl end)
