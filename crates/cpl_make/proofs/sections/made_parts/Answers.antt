use Rattle.std.proofs.Common.{◌≡◌, ◌∙◌, refl, sym, ap, ℕ, ◌*◌, map, length, arith, rules, ◌∷◌, [], ◌++◌, to_z, of_z, w64}
use Rattle.std.specs.List.{range_with_len}
use Rattle.std.proofs.lemmas.Int.{to_z-of_z}
use Rattle.std.proofs.lemmas.List.FromFn.{map-range_with_len_more}
use Rattle.cpl_make.specs.Sections.{part_at, made_parts}
use Rattle.cpl_make.proofs.sections.made_parts.Goals as goal

pub loop-place-preserved : goal.loop-place-preserved
loop-place-preserved c =
    let place = c.loop-place.place in
    let more = map-range_with_len_more (part_at c.args.width c.args.areas.now) 0 place place (omega arith) in
    let back : to_z w64 (of_z w64 c.part_at.result) ≡ c.part_at.result = to_z-of_z w64 c.part_at.result (search rules) in
    (refl, c.in_ok-push.ensures.items ∙ (λ i. c.loop-place.invariant.1 i ++ (back ∙ c.part_at.ensures) i ∷ []) ∙ sym more)

pub returns : goal.returns
unfolding made_parts
returns c =
    let areas = c.args.areas.now in
    let past = c.loop-place-test.false in
    let upto = c.loop-place.auto.place-end in
    let all = c.loop-place.invariant.0 in
    let end : c.loop-place.place ≡ c.args.width * length areas = omega (arith, past, upto) in
    c.from_vec.ensures ∙ c.loop-place.invariant.1 ∙ ap (λ (n : ℕ). map (part_at c.args.width areas) (range_with_len 0 n)) end
