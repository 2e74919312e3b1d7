use Rattle.std.proofs.Common.{◌≡◌, ℕ, ◌*◌, ◌<◌, ◌≤◌, arith}
use Rattle.std.proofs.lemmas.Int.{ints}
use Rattle.cpl_fixed.proofs.Flows.{flow_given, flow_taken}
use Rattle.cpl_fixed.proofs.flow.wide_flow.Goals as goal

at_most : (y a x b y' a' x' b' : ℕ) → y' ≡ y → a' ≡ a → x' ≡ x → b' ≡ b → y' * a' ≤ x' * b' → y * a ≤ x * b
at_most y a x b y' a' x' b' e f g h le =
    let l : y' * a' ≡ y * a = λ i. e i * f i in
    let r : x' * b' ≡ x * b = λ i. g i * h i in
    omega arith

below : (y a x b y' a' x' b' : ℕ) → y' ≡ y → a' ≡ a → x' ≡ x → b' ≡ b → x' * b' < y' * a' → x * b ≤ y * a
below y a x b y' a' x' b' e f g h lt =
    let l : y' * a' ≡ y * a = λ i. e i * f i in
    let r : x' * b' ≡ x * b = λ i. g i * h i in
    omega arith

pub returns-then-from : goal.returns-then-from
returns-then-from c =
    let le = at_most c.args.y c.args.a c.args.x c.args.b c.from.result c.from-2.result c.from-3.result c.from-4.result c.from.ensures c.from-2.ensures c.from-3.ensures c.from-4.ensures c.if-from.true in
    let e = flow_given c.args.x c.args.a c.args.y c.args.b le in
    omega (arith, ints, e, c.given.ensures.value, c.given.ensures.most)

pub returns-else-from : goal.returns-else-from
returns-else-from c =
    let le = below c.args.y c.args.a c.args.x c.args.b c.from.result c.from-2.result c.from-3.result c.from-4.result c.from.ensures c.from-2.ensures c.from-3.ensures c.from-4.ensures c.if-from.false in
    let e = flow_taken c.args.x c.args.a c.args.y c.args.b le in
    omega (arith, ints, e, c.given-else-from.ensures.value, c.given-else-from.ensures.most)
