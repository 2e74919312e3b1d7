use Rattle.std.proofs.Common.{◌≡◌, ◌∙◌, sym, subst, arith, to_z, of_z, w64, FitsSigned}
use Rattle.std.specs.Prelude.{ℤ, pos, ◌≤ℤ◌, ◌<ℤ◌, ◌+ℤ◌, ◌-ℤ◌}
use Rattle.std.proofs.lemmas.Int.{ints}
use Rattle.cpl_fixed.specs.Shares.{part_of, share}
use Rattle.cpl_fixed.specs.Amounts.{IsAmount}
use Rattle.cpl_fast.proofs.Parts.{amount_fits, part_range, share_range}
use Rattle.cpl_fast.proofs.portions.Portions.next.Goals as goal

-- what lies between two parts
difference : (g old p q : ℤ) → g ≡ p → old ≡ q → IsAmount p → IsAmount q → IsAmount (p -ℤ q) → to_z w64 (of_z w64 (to_z w64 (of_z w64 g) -ℤ to_z w64 (of_z w64 old))) ≡ p -ℤ q
difference g old p q e f p_range q_range range =
    let a = p_range.0 in let b = p_range.1 in let c = q_range.0 in let d = q_range.1 in let r = range.0 in let s = range.1 in omega (arith, ints)

fits : (g old p q : ℤ) → g ≡ p → old ≡ q → IsAmount p → IsAmount q → IsAmount (p -ℤ q) → FitsSigned w64 (to_z w64 (of_z w64 g) -ℤ to_z w64 (of_z w64 old))
fits g old p q e f p_range q_range range =
    let a = p_range.0 in let b = p_range.1 in let c = q_range.0 in let d = q_range.1 in
    let same : to_z w64 (of_z w64 g) -ℤ to_z w64 (of_z w64 old) ≡ p -ℤ q = omega (arith, ints) in
    subst (FitsSigned w64) (sym same) (amount_fits (p -ℤ q) range)

-- the part up to the next running sum, where the numbers fit
upto : (x from weight whole : ℤ) → IsAmount x → pos 0 ≤ℤ from → pos 0 ≤ℤ weight → (from +ℤ weight) ≤ℤ whole → FitsSigned w64 whole
    → part_of (to_z w64 (of_z w64 x)) (to_z w64 (of_z w64 (to_z w64 (of_z w64 from) +ℤ to_z w64 (of_z w64 weight)))) (to_z w64 (of_z w64 whole)) ≡ part_of x (from +ℤ weight) whole
upto x from weight whole amount least more within fit =
    let l = amount.0 in let m = amount.1 in
    let a : to_z w64 (of_z w64 x) ≡ x = omega (arith, ints) in
    let t : to_z w64 (of_z w64 (to_z w64 (of_z w64 from) +ℤ to_z w64 (of_z w64 weight))) ≡ from +ℤ weight = omega (arith, ints) in
    let w : to_z w64 (of_z w64 whole) ≡ whole = omega (arith, ints) in
    λ i. part_of (a i) (t i) (w i)

record IsNext (x from to whole : ℤ) : Type 0 where
  part : IsAmount (part_of x to whole)
  before : IsAmount (part_of x from whole)
  share : IsAmount (share x from to whole)

next_is : (x from weight whole : ℤ) → IsAmount x → pos 0 ≤ℤ from → pos 0 ≤ℤ weight → (from +ℤ weight) ≤ℤ whole → pos 0 <ℤ whole → IsNext x from (from +ℤ weight) whole
next_is x from weight whole amount least more within some = record {
  part = part_range x (from +ℤ weight) whole amount (omega (arith, ints)) within some;
  before = part_range x from whole amount least (omega (arith, ints)) some;
  share = share_range x from (from +ℤ weight) whole amount least (omega (arith, ints)) within some;
}

pub part_of-given-requires-clause-most : goal.part_of-given-requires-clause-most
part_of-given-requires-clause-most c =
    let old = c.args.self.now in
    let p = c.requires.portions in
    let next = next_is old.amount old.from c.args.weight old.whole p.amount p.from c.requires.weight c.requires.within p.some in
    let e = upto old.amount old.from c.args.weight old.whole p.amount p.from c.requires.weight c.requires.within (omega (arith, ints)) in
    let most = next.part.1 in
    omega (arith, ints, e, most)

pub overflow_sub-share : goal.overflow_sub-share
overflow_sub-share c =
    let old = c.args.self.now in
    let p = c.requires.portions in
    let next = next_is old.amount old.from c.args.weight old.whole p.amount p.from c.requires.weight c.requires.within p.some in
    fits c.part_of-given.result old.given (part_of old.amount (old.from +ℤ c.args.weight) old.whole) (part_of old.amount old.from old.whole) (c.part_of-given.ensures.value ∙ upto old.amount old.from c.args.weight old.whole p.amount p.from c.requires.weight c.requires.within (omega (arith, ints))) p.given next.part next.before next.share

pub returns-clause-value : goal.returns-clause-value
returns-clause-value c =
    let old = c.args.self.now in
    let p = c.requires.portions in
    let next = next_is old.amount old.from c.args.weight old.whole p.amount p.from c.requires.weight c.requires.within p.some in
    difference c.part_of-given.result old.given (part_of old.amount (old.from +ℤ c.args.weight) old.whole) (part_of old.amount old.from old.whole) (c.part_of-given.ensures.value ∙ upto old.amount old.from c.args.weight old.whole p.amount p.from c.requires.weight c.requires.within (omega (arith, ints))) p.given next.part next.before next.share

pub returns-clause-range : goal.returns-clause-range
returns-clause-range c =
    let old = c.args.self.now in
    let p = c.requires.portions in
    let next = next_is old.amount old.from c.args.weight old.whole p.amount p.from c.requires.weight c.requires.within p.some in
    let P = λ (z : ℤ). IsAmount z in
    subst P (sym (returns-clause-value c)) next.share
