use Rattle.std.proofs.Common.{◌≡◌, ◌∙◌, refl, sym, ap, ℕ, ◌*◌, ◌%◌, ◌<◌, zero, suc, map, length, arith, pos, ℤ, ◌∷◌, [], ◌++◌, to_z, of_z, w64}
use Rattle.std.specs.List.{range_with_len}
use Rattle.std.proofs.lemmas.Int.{ints}
use Rattle.std.proofs.lemmas.List.FromFn.{map-range_with_len_more}
use Rattle.cpl_fixed.specs.Amounts.{amount, at}
use Rattle.cpl_make.specs.Sections.{number_at, made_number, made_section}
use Rattle.cpl_make.proofs.SectionLaws.{area_amount}
use Rattle.cpl_make.proofs.sections.made_section.Goals as goal

some_cells : (layers cells place : ℕ) → place < layers * cells → place % cells < cells
some_cells layers zero place below = absurd (omega arith)
some_cells layers (suc cells) place below = omega arith

pub loop-place-preserved : goal.loop-place-preserved
loop-place-preserved c =
    let areas = c.args.areas.now in
    let place = c.loop-place.place in
    let more = map-range_with_len_more (number_at c.args.number c.args.section areas) 0 place place (omega arith) in
    let below : place % length areas < length areas = some_cells c.args.layers (length areas) place (omega arith) in
    let area = c.requires.areas.each (place % length areas) (pos 0) below in
    let least = area.0 in
    let most = area.1 in
    let back : to_z w64 (of_z w64 (at areas (place % length areas))) ≡ at areas (place % length areas) = omega (arith, ints, least, most) in
    let value = c.made_number.ensures.value ∙ ap (λ (z : ℤ). made_number c.args.number c.args.section place (amount z)) back in
    let natural = area_amount (at areas (place % length areas)) area in
    let few = natural.1 in
    let times = c.made_number.ensures.most in
    let same = ap amount back in
    let cast : to_z w64 c.made_number.result ≡ pos c.made_number.result = omega (arith, ints, times, same, few) in
    (refl, c.in_ok-push.ensures.items ∙ (λ i. c.loop-place.invariant.1 i ++ (cast ∙ ap pos value) i ∷ []) ∙ sym more)

pub returns : goal.returns
unfolding made_section
returns c =
    let areas = c.args.areas.now in
    let past = c.loop-place-test.false in
    let upto = c.loop-place.auto.place-end in
    let all = c.loop-place.invariant.0 in
    let end : c.loop-place.place ≡ c.args.layers * length areas = omega (arith, past, upto) in
    c.from_vec.ensures ∙ c.loop-place.invariant.1 ∙ ap (λ (n : ℕ). map (number_at c.args.number c.args.section areas) (range_with_len 0 n)) end
