use Rattle.std.proofs.Common.{◌≡◌, ◌∙◌, arith, pos, ◌-ℤ◌, ◌*ℤ◌, ◌+ℤ◌, to_z, of_z, w64, ℤ, FitsSigned, sym, subst, ap, negsuc, ◌≤ℤ◌}
use lib.IntN.{nat_abs}
use Rattle.std.proofs.lemmas.Int.{ints, to_z-of_z}
use Rattle.cpl_fixed.specs.Division.{trunc}
use Rattle.cpl_fixed.specs.Flows.{flow}
use Rattle.cpl_fixed.specs.Reciprocals.{reciprocal_of}
use Rattle.cpl_fixed.specs.declared.flow.FaceDivisor.{FaceDivisor}
use Rattle.cpl_fixed.proofs.Flows.{flow_even}
use Rattle.cpl_fixed.proofs.flow.flow_with.Goals as goal

-- a product that fits is the product
product : (m x b x' b' : ℤ) → x' ≡ x → b' ≡ b → FitsSigned w64 (x' *ℤ b') × (m ≡ x' *ℤ b') → to_z w64 (of_z w64 m) ≡ x *ℤ b
product m x b x' b' e f h =
    let fits : FitsSigned w64 m = subst (FitsSigned w64) (sym h.1) h.0 in
    to_z-of_z w64 m fits ∙ h.1 ∙ (λ i. e i *ℤ f i)

same_flow : (x a y b more less parts : ℤ) → more ≡ x *ℤ b → less ≡ y *ℤ a → parts ≡ pos 8 *ℤ (a +ℤ b) → trunc (more -ℤ less) parts ≡ flow x a y b
same_flow x a y b more less parts e f g = λ i. trunc (e i -ℤ f i) (g i)

-- a product of what isn't negative isn't
product_least : (m x b : ℤ) → m ≡ x *ℤ b → pos 0 ≤ℤ x → pos 0 ≤ℤ b → pos 0 ≤ℤ m
product_least m (pos x) (pos b) e hx hb = omega (arith, ints, e)
product_least m (negsuc x) b e hx hb = absurd (omega (arith, ints))
product_least m x (negsuc b) e hx hb = absurd (omega (arith, ints))

pub overflow_mul-parts : goal.overflow_mul-parts
overflow_mul-parts c = omega (arith, ints)

pub narrow_flow-requires-clause-more : goal.narrow_flow-requires-clause-more
narrow_flow-requires-clause-more c =
    let x : to_z w64 (of_z w64 c.args.x) ≡ c.args.x = omega (arith, ints) in
    let b : to_z w64 (of_z w64 c.args.b) ≡ c.args.b = omega (arith, ints) in
    product_least _ c.args.x c.args.b (product c.in-Some-Some.more c.args.x c.args.b _ _ x b c.in-Some-Some.ensures) c.requires.amount.0 (omega (arith, ints))

pub narrow_flow-requires-clause-less : goal.narrow_flow-requires-clause-less
narrow_flow-requires-clause-less c =
    let y : to_z w64 (of_z w64 c.args.y) ≡ c.args.y = omega (arith, ints) in
    let a : to_z w64 (of_z w64 c.args.a) ≡ c.args.a = omega (arith, ints) in
    product_least _ c.args.y c.args.a (product c.in-Some-Some.less c.args.y c.args.a _ _ y a c.in-Some-Some.ensures') c.requires.other_amount.0 (omega (arith, ints))

pub narrow_flow-requires-clause-parts : goal.narrow_flow-requires-clause-parts
narrow_flow-requires-clause-parts c = omega (arith, ints)

pub narrow_flow-requires-clause-reciprocal : goal.narrow_flow-requires-clause-reciprocal
narrow_flow-requires-clause-reciprocal c =
    let parts : to_z w64 (of_z w64 (pos 8 *ℤ to_z w64 (of_z w64 (to_z w64 (of_z w64 c.args.a) +ℤ to_z w64 (of_z w64 c.args.b))))) ≡ pos 8 *ℤ (c.args.a +ℤ c.args.b) = omega (arith, ints) in
    ap (λ d. reciprocal_of (nat_abs d)) parts ∙ sym (ap (λ (d : FaceDivisor). d.reciprocal) c.requires.divisor)

pub returns-in-Some-Some : goal.returns-in-Some-Some
returns-in-Some-Some c =
    let x : to_z w64 (of_z w64 c.args.x) ≡ c.args.x = omega (arith, ints) in
    let a : to_z w64 (of_z w64 c.args.a) ≡ c.args.a = omega (arith, ints) in
    let y : to_z w64 (of_z w64 c.args.y) ≡ c.args.y = omega (arith, ints) in
    let b : to_z w64 (of_z w64 c.args.b) ≡ c.args.b = omega (arith, ints) in
    let own : to_z w64 (of_z w64 c.narrow_flow.result) ≡ c.narrow_flow.result = omega (arith, ints) in
    let parts : to_z w64 (of_z w64 (pos 8 *ℤ to_z w64 (of_z w64 (to_z w64 (of_z w64 c.args.a) +ℤ to_z w64 (of_z w64 c.args.b))))) ≡ pos 8 *ℤ (c.args.a +ℤ c.args.b) = omega (arith, ints) in
    own ∙ c.narrow_flow.ensures
    ∙ same_flow c.args.x c.args.a c.args.y c.args.b _ _ _
    (product c.in-Some-Some.more c.args.x c.args.b _ _ x b c.in-Some-Some.ensures)
    (product c.in-Some-Some.less c.args.y c.args.a _ _ y a c.in-Some-Some.ensures')
    parts

pub returns-in_default : goal.returns-in_default
returns-in_default c =
    let x : pos (nat_abs (to_z w64 (of_z w64 c.args.x))) ≡ c.args.x = omega (arith, ints) in
    let a : pos (nat_abs (to_z w64 (of_z w64 c.args.a))) ≡ c.args.a = omega (arith, ints) in
    let y : pos (nat_abs (to_z w64 (of_z w64 c.args.y))) ≡ c.args.y = omega (arith, ints) in
    let b : pos (nat_abs (to_z w64 (of_z w64 c.args.b))) ≡ c.args.b = omega (arith, ints) in
    let own : to_z w64 (of_z w64 c.wide_flow.result) ≡ c.wide_flow.result = omega (arith, ints) in
    own ∙ c.wide_flow.ensures ∙ (λ i. flow (x i) (a i) (y i) (b i))

pub returns-then-a-b : goal.returns-then-a-b
returns-then-a-b c =
    let x : to_z w64 (of_z w64 c.args.x) ≡ c.args.x = omega (arith, ints) in
    let y : to_z w64 (of_z w64 c.args.y) ≡ c.args.y = omega (arith, ints) in
    let own : to_z w64 (of_z w64 c.even_flow.result) ≡ c.even_flow.result = omega (arith, ints) in
    let areas : c.args.a ≡ c.args.b = omega (arith, ints) in
    own ∙ c.even_flow.ensures
    ∙ (λ i. trunc (x i -ℤ y i) (pos 16))
    ∙ sym (flow_even c.args.x c.args.a c.args.y c.requires.amount.0 c.requires.area.0 c.requires.other_amount.0)
    ∙ ap (flow c.args.x c.args.a c.args.y) areas
